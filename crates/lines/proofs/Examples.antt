-- The paper's example of the line tool, by computation. Assumes nothing.
use mathlib.Core.Path.{◌≡◌, refl}
use mathlib.Core.List.{[], ◌∷◌, ◌++◌}
use Rattle.pattern.specs.Bytes.{Bytes, bytes}
use Rattle.pattern.proofs.Computed.{computed}
use Rattle.replies.specs.Sizes.{tab_byte, newline_byte}
use Rattle.replies.specs.Text.{coded_text, refused_text, unmatched_text, listed, matched_text, ending_text}
use Rattle.replies.specs.Reply.{index_of, cut_at, cut, ending_reply, zeros, label_reply, table_reply, source_reply, cut_reply, reply, answer_to}
use Rattle.lines.specs.Output.{prefixed, answers, last_line, lines_after, split, first_line, output}

-- a line of a source, a tab, a label and a newline
abbrev line : Bytes → Bytes → Bytes
line source label = source ++ tab_byte ∷ label ++ newline_byte ∷ []

-- "The lines 2N tab 42, 2N tab 4x, 2N, tab 42 give, whole: MPT 1, 1 2, 0, R 2 2", by 02 MPT 2
pub example_holds : output (line (bytes "2N") (bytes "42") ++ line (bytes "2N") (bytes "4x") ++ line (bytes "2N,") (bytes "42"))
    ≡ bytes "MPT 2" ++ newline_byte ∷ bytes "1 2" ++ newline_byte ∷ bytes "0" ++ newline_byte ∷ bytes "R 2 2" ++ newline_byte ∷ []
unfolding computed coded_text refused_text unmatched_text listed matched_text ending_text index_of cut_at cut ending_reply zeros label_reply table_reply source_reply cut_reply reply answer_to prefixed answers last_line lines_after split first_line output
example_holds = refl
