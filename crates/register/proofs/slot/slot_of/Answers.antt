-- `slot::slot_of` meets its contract. Assumes nothing.
use native.Mathlib.Omega.{arith}
use Rattle.register.proofs.slot.slot_of.Goals as goal

pub slot_in-requires : goal.slot_in-requires
slot_in-requires c = omega arith

pub returns : goal.returns
returns c = c.slot_in.ensures
