use mathlib.Core.Path.{◌≡◌}
use lib.ListN.{take}
use Rattle.pattern.specs.Stores.{store_at}
use Rattle.register.proofs.put.copy_table.Given as goal

abbrev pub invariant-loop-i : goal.invariant-loop-i
invariant-loop-i l = l.section ≡ store_at l.initial.section l.start (take l.i l.table)
