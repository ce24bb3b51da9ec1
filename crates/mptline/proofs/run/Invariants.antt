use Rattle.lines.specs.Session.{state_of}
use Rattle.mptline.proofs.Turns.{SoFar}
use Rattle.mptline.proofs.run.Given as goal

abbrev pub invariant-loop : goal.invariant-loop
invariant-loop g l =
    SoFar (state_of l.initial.next l.initial.buf l.initial.line l.initial.scratch l.initial.out) (state_of l.next l.buf l.line l.scratch l.out)
    (g.R.Read.remaining l.initial.input) (g.R.Read.remaining l.input) (g.W.Write.contents l.initial.output) (g.W.Write.contents l.output) l.counter
