-- `leaf::with` meets its contract. Assumes nothing.
use borrow.Author.Tests.{eq-eqb, ne_eqb}
use Rattle.summary.proofs.leaf.with.Goals as goal

pub returns-then-set-eq1 : goal.returns-then-set-eq1
returns-then-set-eq1 c = rw (eq-eqb _ 1 c.if-set-eq1.true) c.union.ensures

pub returns-else-set-eq1 : goal.returns-else-set-eq1
returns-else-set-eq1 c = rw (ne_eqb _ 1 c.if-set-eq1.false)
