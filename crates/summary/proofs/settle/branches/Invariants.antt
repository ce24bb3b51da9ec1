use Prim.Native.Nat.{◌-◌}
use Rattle.summary.proofs.SettledRows.{Joined}
use Rattle.summary.proofs.settle.branches.Given as goal

abbrev pub invariant-loop : goal.invariant-loop
invariant-loop l = Joined l.table l.x l.m l.at (l.count - l.counter)
