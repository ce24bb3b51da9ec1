-- `matcher::match_label` meets its contract: the table is tested, and then matched. Assumes nothing.
use Rattle.matcher.proofs.Refusals.{bad_table}
use Rattle.matcher.proofs.match_label.Goals as goal

pub returns-in_default : goal.returns-in_default
returns-in_default c = bad_table _ _ _ _ _ (rw c.in_default.is at c.test.ensures.sizes)
