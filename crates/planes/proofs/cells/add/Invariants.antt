use Rattle.planes.proofs.Passes.{PassAt, either}
use Rattle.planes.proofs.cells.add.Given as goal

abbrev pub invariant-loop-k : goal.invariant-loop-k
invariant-loop-k l = PassAt l.initial.scratch l.w l.out (either l.initial.scratch l.w l.from l.out) l.scratch l.k
