-- `slot::is_intact` meets its contract: no table and zeros, or a good one whose slot is the same. Assumes nothing.
use mathlib.Core.Path.{refl, sym, ap, ◌∙◌}
use lib.ListN.{length}
use Rattle.register.proofs.Sections.{length_slot}
use Rattle.register.proofs.Testing.{bad_table, good_table}
use Rattle.register.proofs.Slots.{intact_none, intact_bad, intact_good}
use Rattle.register.proofs.slot.is_intact.Goals as goal

pub returns-then-is_empty : goal.returns-then-is_empty
returns-then-is_empty c = c.is_same.ensures ∙ intact_none _ _ (sym c.is_empty.ensures ∙ c.if-is_empty.true)

pub slot_in-requires : goal.slot_in-requires
slot_in-requires c = c.requires.room

pub returns-in-None : goal.returns-in-None
returns-in-None c = intact_bad _ _ (sym c.is_empty.ensures ∙ c.if-is_empty.false) (bad_table _ c.in-None.ensures.sizes)

pub is_same-requires-in-Some : goal.is_same-requires-in-Some
is_same-requires-in-Some c = (c.requires.whole, ap length c.slot_in.ensures ∙ length_slot _)

pub returns-in-Some : goal.returns-in-Some
returns-in-Some c =
    intact_good _ _ _ _ (rw c.in-Some.ensures.bytes at c.slot_in.ensures) (good_table _ _ c.in-Some.ensures.sizes) c.is_same-in-Some.ensures

pub is_same-requires : goal.is_same-requires
is_same-requires c = (c.requires.whole, refl)
