-- `codes::letter` meets its contract: the letters of the rows are those of the codes. Assumes nothing.
use mathlib.Core.Path.{sym, ◌∙◌, ap}
use mathlib.Core.List.{map}
use lib.ListN.{get_or-eq_default}
use Rattle.pattern.specs.Codes.{Code, all_codes}
use Rattle.codes.specs.declared.Code.{Code as Row}
use Rattle.codes.specs.Rows.{letter_at}
use Rattle.codes.proofs.LetterBits.{row_letter}
use Rattle.codes.proofs.letter.Goals as goal

pub returns-then-k-lt7 : goal.returns-then-k-lt7
returns-then-k-lt7 c = ap (λ (r : Row). r.letter) c.row.ensures ∙ row_letter c.args.k

pub returns-else-k-lt7 : goal.returns-else-k-lt7
unfolding letter_at
returns-else-k-lt7 c = sym (get_or-eq_default (map (λ (x : Code). x.letter) all_codes) 0 (unfold all_codes in c.if-k-lt7.false))
