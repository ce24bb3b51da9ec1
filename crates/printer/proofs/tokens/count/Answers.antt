-- `tokens::count` meets its contract: one number, an open count, two numbers. Assumes nothing.
use mathlib.Core.Path.{sym, ap}
use native.Mathlib.Omega.{arith}
use lib.ListN.{length}
use Rattle.pattern.specs.Print.{decimal}
use Rattle.table.proofs.Sources.{count_open, count_two}
use Rattle.printer.proofs.AtomTokens.{exact_given, count_begins}
use Rattle.pattern.proofs.Stores.{puts_then, puts_as, puts_length, puts_room}
use Rattle.printer.proofs.tokens.count.Goals as goal

pub put_decimal-requires : goal.put_decimal-requires
put_decimal-requires c =
    omega (arith, c.requires.1, ap length (exact_given c.args.low c.args.high c.requires.0.0 c.if-low-high.true))

pub returns-then-low-high : goal.returns-then-low-high
returns-then-low-high c =
    puts_as c.put_decimal.ensures (sym (exact_given c.args.low c.args.high c.requires.0.0 c.if-low-high.true))

pub low_number-point-requires : goal.low_number-point-requires
low_number-point-requires c =
    omega (arith, c.requires.1, count_begins c.args.low c.args.high c.if-low-high.false)

pub put-m-requires : goal.put-m-requires
put-m-requires c =
    let p = c.low_number-point.ensures in
    omega (arith, p.next, puts_length p, c.requires.1, count_begins c.args.low c.args.high c.if-low-high.false)

pub returns-then-high-eq-OPEN : goal.returns-then-high-eq-OPEN
returns-then-high-eq-OPEN c =
    let a = c.args in
    puts_as (puts_then c.low_number-point.ensures c.put-m.ensures) (sym (count_open a.low a.high c.if-high-eq-OPEN.true))

pub put_decimal-requires-2 : goal.put_decimal-requires-2
put_decimal-requires-2 c =
    let a = c.args in
    let e = count_two a.low a.high c.if-high-eq-OPEN.false c.if-low-high.false in
    puts_room (puts_then c.low_number-point.ensures c.put-m.ensures) (decimal a.high) (omega (arith, c.requires.1, ap length e))

pub returns : goal.returns
returns c =
    let a = c.args in
    puts_as (puts_then (puts_then c.low_number-point.ensures c.put-m.ensures) c.put_decimal-2.ensures) (sym (count_two a.low a.high c.if-high-eq-OPEN.false c.if-low-high.false))
