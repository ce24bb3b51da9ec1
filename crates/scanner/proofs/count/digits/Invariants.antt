use Prim.Native.Nat.{◌-◌}
use lib.ListN.{length}
use Rattle.scanner.specs.Counts.{DigitsAre}
use Rattle.scanner.proofs.count.digits.Given as goal

abbrev pub invariant-loop-d : goal.invariant-loop-d
invariant-loop-d l = DigitsAre l.s l.initial.at.at l.v l.at.at

abbrev pub decreases-loop-d : goal.decreases-loop-d
decreases-loop-d l = length l.s - l.at.at
