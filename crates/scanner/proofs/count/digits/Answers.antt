-- `count::digits` meets its contract: each turn takes a digit. What is left of the source falls. Assumes nothing.
use mathlib.Core.Path.{refl}
use native.Mathlib.Omega.{arith}
use Rattle.scanner.proofs.Digits.{digits_start, digit_small, digit_past, digits_more, digits_over, digits_end}
use Rattle.scanner.proofs.count.digits.Goals as goal

pub loop-d-init : goal.loop-d-init
loop-d-init c = digits_start _ _ c.requires

pub returns-then-v : goal.returns-then-v
returns-then-v c =
    digits_over _ _ _ _ c.loop-d.invariant _ _ c.in-Some.ensures _ refl (omega (arith, c.if-v.true))

pub overflow_add-v : goal.overflow_add-v
overflow_add-v c =
    omega (arith, c.if-v.false, digit_small _ _ _ _ c.loop-d.invariant _ _ c.in-Some.ensures)

pub loop-d-smaller : goal.loop-d-smaller
loop-d-smaller c =
    let o = digit_past _ _ _ _ c.loop-d.invariant _ _ c.in-Some.ensures in
    omega (arith, o.on, o.within)

pub loop-d-preserved : goal.loop-d-preserved
loop-d-preserved c =
    digits_more _ _ _ _ c.loop-d.invariant _ _ c.in-Some.ensures (omega (arith, c.if-v.false))

pub returns : goal.returns
returns c = digits_end _ _ _ _ c.loop-d.invariant _ refl c.in_default.ensures
