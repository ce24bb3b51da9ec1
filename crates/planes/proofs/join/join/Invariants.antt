use Rattle.pattern.specs.Decision.{trial}
use Rattle.planes.specs.Cells.{on}
use Rattle.planes.proofs.Searching.{SearchAt}
use Rattle.planes.proofs.Joining.{PlaneAt, ColumnAt}
use Rattle.planes.proofs.join.join.Given as goal

abbrev pub invariant-loop-spent : goal.invariant-loop-spent
invariant-loop-spent l = SearchAt (trial (on l.scratch l.w l.left) (on l.scratch l.w l.right) l.i l.j) l.i l.j l.limit l.initial.spent l.spent l.m

abbrev pub decreases-loop-spent : goal.decreases-loop-spent
decreases-loop-spent l = l.m

abbrev pub invariant-loop-i : goal.invariant-loop-i
invariant-loop-i l = ColumnAt l.initial.scratch l.w l.left l.right l.out l.j l.limit l.initial.spent l.scratch l.spent l.i

abbrev pub invariant-loop-j : goal.invariant-loop-j
invariant-loop-j l = PlaneAt l.initial.scratch l.w l.left l.right l.out l.limit l.initial.spent l.scratch l.spent l.j
