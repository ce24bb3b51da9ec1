-- `slot::is_same` meets its contract: four bytes at a time are the same. Assumes nothing.
use mathlib.Core.Path.{sym, ◌∙◌}
use native.Mathlib.Omega.{arith}
use Rattle.register.proofs.Slots.{same_start, same_room, same_next, same_all, not_same}
use Rattle.register.proofs.slot.is_same.Goals as goal

pub read32-requires : goal.read32-requires
read32-requires c = omega (arith, same_room c.loop-at.invariant c.loop-at-test.true, c.requires)

pub read32-requires-in-loop-at : goal.read32-requires-in-loop-at
read32-requires-in-loop-at c = omega (arith, same_room c.loop-at.invariant c.loop-at-test.true, c.requires)

pub returns-then-read32 : goal.returns-then-read32
returns-then-read32 c = not_same _ _ c.loop-at.at (λ e. c.if-read32.true (c.read32.ensures ∙ e ∙ sym c.read32-in-loop-at.ensures))

pub loop-at-preserved : goal.loop-at-preserved
loop-at-preserved c =
    same_next c.loop-at.invariant c.loop-at-test.true (λ k. (c.type_inv.a k).fits) (λ k. (c.type_inv.b k).fits) c.requires
    (sym c.read32.ensures ∙ c.if-read32.false ∙ c.read32-in-loop-at.ensures)

pub loop-at-init : goal.loop-at-init
loop-at-init c = same_start _ _

pub overflow_step-at : goal.overflow_step-at
overflow_step-at c = omega (arith, same_room c.loop-at.invariant c.loop-at-test.true)

pub returns : goal.returns
returns c = same_all c.loop-at.invariant c.loop-at-test.false c.requires
