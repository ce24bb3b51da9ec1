-- `ops::longest_both` meets its contract. Assumes nothing.
use Rattle.summary.proofs.Packings.{longest_none, longest_some}
use Rattle.summary.proofs.ops.longest_both.Goals as goal

pub returns-then-m : goal.returns-then-m
returns-then-m c = longest_none _ _ c.if-m.true

pub returns : goal.returns
returns c = longest_some _ _ _ c.if-m.false c.min.ensures
