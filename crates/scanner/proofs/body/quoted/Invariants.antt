use Prim.Native.Nat.{◌-◌}
use lib.ListN.{length}
use Rattle.scanner.proofs.Bodies.{Quoting}
use Rattle.scanner.proofs.body.quoted.Given as goal

abbrev pub invariant-loop-b : goal.invariant-loop-b
invariant-loop-b l = Quoting l.s l.initial.at.at l.p l.initial.pool l.pool l.at.at l.end

abbrev pub decreases-loop-b : goal.decreases-loop-b
decreases-loop-b l = length l.s - l.at.at
