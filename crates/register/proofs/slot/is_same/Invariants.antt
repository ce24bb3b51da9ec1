use Prim.Native.Nat.{◌-◌}
use Rattle.register.specs.Layout.{slot_size}
use Rattle.register.proofs.Slots.{SameTo}
use Rattle.register.proofs.slot.is_same.Given as goal

abbrev pub invariant-loop-at : goal.invariant-loop-at
invariant-loop-at l = SameTo l.a l.b l.at

abbrev pub decreases-loop-at : goal.decreases-loop-at
decreases-loop-at l = slot_size - l.at
