use Rattle.matcher.proofs.Following.{AllAt}
use Rattle.matcher.proofs.task.Task.settle_all.Given as goal

abbrev pub invariant-loop-x : goal.invariant-loop-x
invariant-loop-x l = AllAt l.self.table.now l.self.label.now l.initial.scratch l.self.w l.self.temp l.initial.counted l.scratch l.x l.counted
