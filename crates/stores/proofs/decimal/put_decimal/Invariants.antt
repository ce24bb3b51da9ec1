use Rattle.stores.proofs.Digits.{Stored}
use Rattle.stores.proofs.decimal.put_decimal.Given as goal

abbrev pub invariant-loop-left : goal.invariant-loop-left
invariant-loop-left l = Stored l.initial.to l.at l.x l.to l.left l.o

abbrev pub decreases-loop-left : goal.decreases-loop-left
decreases-loop-left l = l.left
