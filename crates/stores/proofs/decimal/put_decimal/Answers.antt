-- `put_decimal` meets its contract: storing what is left of the number ends as storing all of it. What is left falls. Assumes nothing.
use mathlib.Core.Path.{refl, ap}
use native.Mathlib.Omega.{arith}
use lib.ListN.{length}
use Rattle.pattern.proofs.Decimal.{decimal_one, decimal_longer}
use Rattle.stores.proofs.Digits.{stored_more, stored_all}
use Rattle.stores.proofs.decimal.put_decimal.Goals as goal

pub overflow_add-end : goal.overflow_add-end
overflow_add-end c = omega (arith, c.decimal_length.ensures)

pub loop-left-init : goal.loop-left-init
loop-left-init c = record { place = omega (arith, c.decimal_length.ensures); within = omega arith; bytes = refl }

pub overflow_sub-o : goal.overflow_sub-o
overflow_sub-o c = omega (arith, c.loop-left.invariant.place, decimal_longer c.loop-left.left c.loop-left-test.true)

pub loop-left-preserved : goal.loop-left-preserved
loop-left-preserved c = stored_more c.loop-left.invariant c.loop-left-test.true

pub returns : goal.returns
returns c = record { bytes = stored_all c.loop-left.invariant c.loop-left-test.false; next = omega (arith, c.decimal_length.ensures) }

pub bounds-to-o : goal.bounds-to-o
bounds-to-o c =
    let l = c.loop-left in
    omega (arith, l.invariant.place, l.invariant.within, l.auto.to, decimal_longer l.left c.loop-left-test.true)

pub bounds-to-at : goal.bounds-to-at
bounds-to-at c =
    let l = c.loop-left in
    omega (arith, l.invariant.within, l.auto.to, ap length (decimal_one l.left c.loop-left-test.false))
