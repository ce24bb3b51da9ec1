-- `move_down` meets its contract: the first i bytes are moved. Assumes nothing.
use Rattle.stores.proofs.Moving.{down_start, down_more}
use Rattle.stores.proofs.moves.move_down.Goals as goal

pub loop-i-init : goal.loop-i-init
loop-i-init c = down_start _ _ _ _

pub loop-i-preserved : goal.loop-i-preserved
loop-i-preserved c = let p = c.requires in down_more c.loop-i.invariant p.0 p.1 c.loop-i-test.true
