use Prim.Native.Nat.{◌-◌}
use Rattle.matcher.proofs.Groups.{UnionBranchesAt}
use Rattle.matcher.proofs.task.Task.union_branches.Given as goal

abbrev pub invariant-loop : goal.invariant-loop
invariant-loop l = UnionBranchesAt l.self.table.now l.self.label.now l.initial.scratch l.self.w l.self.temp l.x l.scratch l.first (l.branches - l.counter)
