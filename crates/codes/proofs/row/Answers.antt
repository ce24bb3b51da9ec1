-- `codes::row` meets its contract: the constant has the rows of the definition's codes. Assumes nothing.
use mathlib.Core.Path.{refl}
use Rattle.pattern.specs.Codes.{all_codes}
use Rattle.codes.specs.Rows.{flatten, row_of, row_at}
use Rattle.codes.proofs.row.Goals as goal

pub returns : goal.returns
unfolding row_at row_of flatten all_codes
returns c = refl
