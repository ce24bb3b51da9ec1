-- `Task::settle_all` meets its contract: the invariant is `AllAt`. Assumes nothing.
use Rattle.matcher.proofs.Following.{all_start, all_stop, all_step, all_end}
use Rattle.matcher.proofs.task.Task.settle_all.Goals as goal

pub loop-x-init : goal.loop-x-init
loop-x-init c = all_start _ _ _ _ _ _ c.requires.ready c.requires.temp

pub returns : goal.returns
returns c = all_end _ _ _ _ _ _ c.requires.ready c.requires.temp _ _ _ c.loop-x.invariant c.loop-x-test.false

pub returns-in_err-counted : goal.returns-in_err-counted
returns-in_err-counted c =
    rw c.from_residual.ensures (all_stop _ _ _ _ _ _ c.requires.ready c.requires.temp _ _ _ c.loop-x.invariant c.loop-x-test.true _ c.in_err-counted.ensures)

pub loop-x-preserved : goal.loop-x-preserved
loop-x-preserved c =
    all_step _ _ _ _ _ _ c.requires.ready c.requires.temp _ _ _ c.loop-x.invariant c.loop-x-test.true _ _ c.in_ok-counted.ensures c.settle.auto.scratch
