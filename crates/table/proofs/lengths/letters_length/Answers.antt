-- `lengths::letters_length` meets its contract: the rule of the list is a test at every set. Assumes nothing.
use native.Mathlib.Omega.{arith}
use Rattle.table.proofs.Measures.{fours, letters_at}
use Rattle.table.proofs.lengths.letters_length.Goals as goal

pub overflow_add-result : goal.overflow_add-result
unfolding fours
overflow_add-result c = omega (arith, (letters_at c.args.set c.requires).1)

pub overflow_cast-result : goal.overflow_cast-result
unfolding fours
overflow_cast-result c = omega (arith, (letters_at c.args.set c.requires).1)

pub returns : goal.returns
unfolding fours
returns c = letters_at c.args.set c.requires
