use Rattle.batch.proofs.Turns.{Turns}
use Rattle.batch.proofs.match_each.Given as goal

abbrev pub invariant-loop-k : goal.invariant-loop-k
invariant-loop-k l = Turns l.table.bytes.now l.labels l.ends l.width l.budget l.initial.scratch l.initial.verdicts l.initial.parts l.k l.from l.scratch l.verdicts l.parts
