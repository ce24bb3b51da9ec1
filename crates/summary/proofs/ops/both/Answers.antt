-- `ops::both` meets its contract. Assumes nothing.
use Rattle.summary.proofs.Packings.{both_none, both_empty, both_full}
use Rattle.summary.proofs.ops.both.Goals as goal

pub returns-then-n : goal.returns-then-n
returns-then-n c = both_none _ _ _ c.min-shortest.ensures c.if-n.true

pub returns-then-m-eq0 : goal.returns-then-m-eq0
returns-then-m-eq0 c =
    both_empty _ _ _ c.min-shortest.ensures _ c.longest_both-longest.ensures c.if-n.false c.if-m-eq0.true c.union.ensures

pub returns : goal.returns
returns c = both_full _ _ _ c.min-shortest.ensures _ c.longest_both-longest.ensures c.if-n.false c.if-m-eq0.false
