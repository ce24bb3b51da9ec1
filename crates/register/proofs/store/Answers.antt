-- `store` meets its contract: the refusals in order, and then the table is put in its place. Assumes nothing.
use mathlib.Core.Path.{sym, ◌∙◌}
use native.Mathlib.Omega.{arith}
use Rattle.register.proofs.Maps.{table_allowed}
use Rattle.register.proofs.Testing.{bad_table, good_table}
use Rattle.register.proofs.Calls.{table_found, lent_put, stored_none, stored_bad, stored_full, stored_done}
use Rattle.register.proofs.store.Goals as goal

pub returns-then-lent-at : goal.returns-then-lent-at
returns-then-lent-at c = stored_full (table_found c.in-Some.ensures.place (omega (arith, c.ranges))) _ (good_table _ _ c.in-Some-test.ensures.sizes) (omega (arith, c.if-lent-at.true))

pub put_table-requires : goal.put_table-requires
put_table-requires c =
    rw c.from-k.ensures (lent_put (table_found c.in-Some.ensures.place (omega (arith, c.ranges))) _ _ (table_allowed _ (good_table _ _ c.in-Some-test.ensures.sizes)) (rw c.in-Some-test.ensures.bytes at c.slot_of-slot.ensures) (omega (arith, c.if-lent-at.false)))

pub returns-in_default-test : goal.returns-in_default-test
returns-in_default-test c = stored_bad (table_found c.in-Some.ensures.place (omega (arith, c.ranges))) _ (bad_table _ (rw c.in_default-test.is at c.test.ensures.sizes))

pub returns : goal.returns
returns c =
    stored_done (table_found c.in-Some.ensures.place (omega (arith, c.ranges))) _ (good_table _ _ c.in-Some-test.ensures.sizes) (omega (arith, c.if-lent-at.false)) _ (rw c.from-k.ensures at c.put_table.ensures)

pub returns-in_default : goal.returns-in_default
returns-in_default c = stored_none _ _ (sym c.in_default.is ∙ c.find.ensures.place) _
