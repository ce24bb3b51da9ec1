use lib.ListN.{drop}
use Rattle.pattern.specs.Print.{double}
use Rattle.printer.proofs.Storing.{Partly}
use Rattle.printer.proofs.tokens.doubled.Given as goal

abbrev pub invariant-loop-b : goal.invariant-loop-b
invariant-loop-b l = Partly l.initial.out l.n (double l.v) l.out l.m (double (drop l.b-index l.v))
