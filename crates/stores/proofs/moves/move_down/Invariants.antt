use Rattle.stores.proofs.Moving.{Down}
use Rattle.stores.proofs.moves.move_down.Given as goal

abbrev pub invariant-loop-i : goal.invariant-loop-i
invariant-loop-i l = Down l.initial.lent l.from l.n l.to l.lent l.i
