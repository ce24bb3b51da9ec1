use Rattle.stores.proofs.Moving.{Up}
use Rattle.stores.proofs.moves.move_up.Given as goal

abbrev pub invariant-loop-i : goal.invariant-loop-i
invariant-loop-i l = Up l.initial.lent l.from l.n l.to l.lent l.i
