use lib.ListN.{drop}
use Rattle.pattern.specs.Print.{print_set}
use Rattle.pattern.specs.Codes.{all_codes}
use Rattle.printer.proofs.Storing.{Partly}
use Rattle.printer.proofs.tokens.letters.Given as goal

abbrev pub invariant-loop-k : goal.invariant-loop-k
invariant-loop-k l = Partly l.initial.out l.n (print_set all_codes l.set) l.out l.m (print_set (drop l.k all_codes) l.left)
