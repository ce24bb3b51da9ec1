-- `remove` meets its contract: the refusals in order, and then no bytes are put in the table's place. Assumes nothing.
use mathlib.Core.Path.{sym, ◌∙◌}
use native.Mathlib.Omega.{arith}
use Rattle.register.proofs.Maps.{none_allowed}
use Rattle.register.proofs.Sections.{slot_none}
use Rattle.register.proofs.Calls.{table_found, lent_put, removed_none, removed_missing, removed_done}
use Rattle.register.proofs.remove.Goals as goal

pub put_table-requires : goal.put_table-requires
put_table-requires c = rw c.from-k.ensures (lent_put (table_found c.in-Some.ensures.place (omega (arith, c.ranges))) _ _ none_allowed (sym slot_none) (omega arith))

pub returns : goal.returns
returns c = removed_done (table_found c.in-Some.ensures.place (omega (arith, c.ranges))) (λ e. c.if-at.false (omega (arith, e))) _ (rw c.from-k.ensures at c.put_table.ensures)

pub returns-then-at : goal.returns-then-at
returns-then-at c = removed_missing (table_found c.in-Some.ensures.place (omega (arith, c.ranges))) (omega (arith, c.if-at.true))

pub returns-in_default : goal.returns-in_default
returns-in_default c = removed_none _ _ (sym c.in_default.is ∙ c.find.ensures.place)
