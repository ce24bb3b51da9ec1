-- `decimal_length` meets its contract: n digits are counted besides those of what is left. What is left falls. Assumes nothing.
use mathlib.Core.Path.{ap}
use native.Mathlib.Omega.{arith}
use lib.ListN.{length}
use Rattle.pattern.proofs.Decimal.{decimal_one, two_digits, three_digits, four_digits, four_longer}
use Rattle.stores.proofs.decimal.decimal_length.Goals as goal

pub loop-left-init : goal.loop-left-init
loop-left-init c = (omega arith, omega arith)

pub loop-left-preserved : goal.loop-left-preserved
loop-left-preserved c = (omega arith, omega (arith, four_longer c.loop-left.left c.loop-left-test.true))

pub returns-then-left-lt10 : goal.returns-then-left-lt10
returns-then-left-lt10 c = omega (arith, ap length (decimal_one c.loop-left.left c.if-left-lt10.true))

pub returns-then-left-lt100 : goal.returns-then-left-lt100
returns-then-left-lt100 c = omega (arith, two_digits c.loop-left.left c.if-left-lt10.false c.if-left-lt100.true)

pub returns-then-left-lt1000 : goal.returns-then-left-lt1000
returns-then-left-lt1000 c = omega (arith, three_digits c.loop-left.left c.if-left-lt100.false c.if-left-lt1000.true)

pub returns : goal.returns
returns c = omega (arith, four_digits c.loop-left.left c.if-left-lt1000.false c.loop-left-test.false)
