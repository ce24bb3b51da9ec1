-- `Task::settle` meets its contract. Assumes nothing.
use Rattle.matcher.proofs.Following.{step_stop, step_end}
use Rattle.matcher.proofs.task.Task.settle.Goals as goal

pub returns-in_err-counted : goal.returns-in_err-counted
returns-in_err-counted c = rw c.from_residual.ensures (step_stop _ _ _ _ _ _ _ c.requires _ c.in_err-counted.ensures)

pub returns : goal.returns
returns c = step_end _ _ _ _ _ _ _ c.requires _ _ c.in_ok-counted.ensures c.fill_atom.auto.scratch _ _ c.join_followers.ensures
