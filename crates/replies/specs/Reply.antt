-- The reply to one line. To be believed.
use Rattle.std.specs.Prelude.{true, false, [], ◌∷◌, ◌++◌, ℕ, suc, ltb, eqb, length, take, drop, replicate}
use Rattle.std.proofs.Math.Option.{Option, none, some}
use Rattle.pattern.specs.Numbers.{parts_room}
use Rattle.pattern.specs.Versions.{table_room}
use Rattle.pattern.specs.Bytes.{Bytes, bytes}
use Rattle.pattern.specs.Decode.{decode}
use Rattle.pattern.specs.Answers.{Output, compile_of, Ending, ended, match_ending}
use Rattle.replies.specs.Sizes.{line_limit, scratch_size, budget, tab_byte, newline_byte}
use Rattle.replies.specs.Text.{refused_text, ending_text}

-- where a byte first stands, the length if it is not there
unfoldable pub index_of : ℕ → Bytes → ℕ
index_of b [] = 0
index_of b (c ∷ s) = elim (eqb c b) [ true ↦ 0 | false ↦ suc (index_of b s) ]

-- "source, tab, label, cut at the first tab"
unfoldable pub cut_at : (k : ℕ) → Bytes → Option (Bytes × Bytes)
cut_at k line = elim (ltb k (length line)) [ true ↦ some (take k line, drop (suc k) line) | false ↦ none ]

unfoldable pub cut : Bytes → Option (Bytes × Bytes)
cut line = cut_at (index_of tab_byte line) line

-- what is written for a line, and the scratch bytes afterwards
pub record Reply : Type 0 where
  pub text : Bytes
  pub scratch : Bytes

-- a label matched against a table
unfoldable pub ending_reply : Ending → (scratch parts : Bytes) → Reply
ending_reply e scratch parts = record { text = ending_text e; scratch = (ended e scratch parts).scratch }

-- with parts lent for every table
unfoldable pub label_reply : (table label scratch : Bytes) → Reply
label_reply table label scratch =
    let parts : Bytes = replicate parts_room 0 in
    ending_reply (match_ending (decode table) label scratch parts budget) scratch parts

-- a label matched against what compiling gave
unfoldable pub table_reply : Output → (label scratch : Bytes) → Reply
table_reply c label scratch =
    elim (eqb c.answer.number 0) [
      | true ↦ label_reply (take c.answer.value c.bytes) label scratch
      | false ↦ record { text = refused_text c.answer.number c.answer.position; scratch = scratch }
    ]

unfoldable pub source_reply : (source label scratch : Bytes) → Reply
source_reply source label scratch = table_reply (compile_of source (replicate table_room 0)) label scratch

-- "T for no tab"
unfoldable pub cut_reply : Option (Bytes × Bytes) → (scratch : Bytes) → Reply
cut_reply none scratch = record { text = bytes "T"; scratch = scratch }
cut_reply (some (source, label)) scratch = source_reply source label scratch

-- "L for too long (looked at first)"
unfoldable pub reply : (line scratch : Bytes) → Reply
reply line scratch = elim (ltb line_limit (length line)) [ true ↦ record { text = bytes "L"; scratch = scratch } | false ↦ cut_reply (cut line) scratch ]

-- "each line it writes ends with a newline"
unfoldable pub answer_to : (line scratch : Bytes) → Reply
answer_to line scratch = record { text = (reply line scratch).text ++ newline_byte ∷ []; scratch = (reply line scratch).scratch }

-- the scratch bytes before the first line
unfoldable pub zeros : Bytes
zeros = replicate scratch_size 0
