use Rattle.summary.proofs.SettledRows.{SettledFrom}
use Rattle.summary.proofs.settle.Records.settle_all.Given as goal

abbrev pub invariant-loop-x : goal.invariant-loop-x
invariant-loop-x l = SettledFrom l.self.table.now l.initial.rows l.rows l.m l.x
