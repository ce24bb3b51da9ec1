use Rattle.planes.proofs.Filling.{FillAt}
use Rattle.planes.proofs.fill.fill_stretches.Given as goal

abbrev pub invariant-loop-j : goal.invariant-loop-j
invariant-loop-j g l = FillAt l.initial.scratch l.w l.out l.n (goal.F-post g l.held) l.scratch l.j
