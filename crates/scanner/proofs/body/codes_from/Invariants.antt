use Prim.Native.Nat.{◌-◌}
use lib.ListN.{length}
use Rattle.scanner.proofs.Bodies.{Coding}
use Rattle.scanner.proofs.body.codes_from.Given as goal

abbrev pub invariant-loop-set : goal.invariant-loop-set
invariant-loop-set l = Coding l.s (l.initial.at.at - 1) l.at l.set

abbrev pub decreases-loop-set : goal.decreases-loop-set
decreases-loop-set l = length l.s - l.at.at
