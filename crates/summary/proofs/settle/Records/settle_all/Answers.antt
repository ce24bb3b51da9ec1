-- `Records::settle_all` meets its contract: the rows are settled from the last to the first. Assumes nothing.
use Rattle.summary.proofs.SettledRows.{settled_start, settled_ready, next_ready, settled_step, settled_end}
use Rattle.summary.proofs.settle.Records.settle_all.Goals as goal

pub loop-x-init : goal.loop-x-init
loop-x-init c = settled_start c.requires.room _ _ c.requires.count

pub settle-more-requires : goal.settle-more-requires
settle-more-requires c =
    let inv = c.loop-x.invariant in
    let h = c.loop-x-test.true in
    record { settling = settled_ready c.requires.room inv h; next = next_ready c.requires.room inv h }

pub loop-x-preserved : goal.loop-x-preserved
loop-x-preserved c = settled_step c.requires.room c.loop-x.invariant c.settle-more.auto.rows c.settle-more.ensures.settled c.settle-more.ensures.next

pub returns : goal.returns
returns c = settled_end c.requires.room c.loop-x.invariant c.loop-x-test.false
