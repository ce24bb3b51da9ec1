-- `lengths::count_length` meets its contract: open, one number, two numbers. Assumes nothing.
use mathlib.Core.Path.{sym, ap, ◌∙◌}
use native.Mathlib.Omega.{arith}
use lib.ListN.{length}
use Rattle.table.proofs.Sources.{count_exact}
use Rattle.table.proofs.Measures.{open_length, two_length}
use Rattle.table.proofs.lengths.count_length.Goals as goal

pub returns-then-high-eq-OPEN : goal.returns-then-high-eq-OPEN
returns-then-high-eq-OPEN c = (open_length c.args.low c.args.high c.low_length.result c.low_length.ensures.0 c.if-high-eq-OPEN.true, omega arith)

pub returns-then-low-high : goal.returns-then-low-high
returns-then-low-high c = (c.number_length.ensures.0 ∙ sym (ap length (count_exact c.args.low c.args.high c.if-high-eq-OPEN.false c.if-low-high.true)), omega arith)

pub returns : goal.returns
returns c =
    (two_length c.args.low c.args.high c.low_length-2.result c.low_length-2.ensures.0 c.number_length-2.result c.if-high-eq-OPEN.false c.if-low-high.false c.number_length-2.ensures.0, omega arith)
