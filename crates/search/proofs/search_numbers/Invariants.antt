use Rattle.search.proofs.Underway.{Underway}
use Rattle.search.proofs.search_numbers.Given as goal

abbrev pub invariant-loop-k : goal.invariant-loop-k
invariant-loop-k l = Underway l.lent l.label l.initial.scratch l.initial.parts l.scratch l.parts l.k l.at l.skipped l.cleared
