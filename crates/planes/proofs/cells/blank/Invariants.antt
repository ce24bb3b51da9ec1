use Rattle.planes.proofs.Passes.{PassAt}
use Rattle.planes.proofs.cells.blank.Given as goal

abbrev pub invariant-loop-k : goal.invariant-loop-k
invariant-loop-k l = PassAt l.initial.scratch l.w l.out (λ i j. 0) l.scratch l.k
