use Rattle.summary.proofs.SummaryBytes.{Written}
use Rattle.summary.proofs.write.write.Given as goal

abbrev pub invariant-loop-word : goal.invariant-loop-word
invariant-loop-word l = Written l.fn.m l.fn.out l.out l.word-index l.at
