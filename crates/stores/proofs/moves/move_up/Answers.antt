-- `move_up` meets its contract: the bytes from i on are moved. Assumes nothing.
use native.Mathlib.Omega.{arith}
use Rattle.stores.proofs.Moving.{up_start, up_more}
use Rattle.stores.proofs.moves.move_up.Goals as goal

pub loop-i-init : goal.loop-i-init
loop-i-init c = up_start _ _ _ _ (omega (arith, c.requires))

pub loop-i-preserved : goal.loop-i-preserved
loop-i-preserved c = let p = c.requires in up_more c.loop-i.invariant (omega (arith, p)) p.1 c.loop-i-test.true c.loop-i.auto.i
