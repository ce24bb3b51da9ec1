-- `tokens::low_number` meets its contract: 0 is left out. Assumes nothing.
use mathlib.Core.Path.{sym, ap}
use native.Mathlib.Omega.{arith}
use lib.ListN.{length}
use Rattle.table.proofs.Sources.{low_zero, low_other}
use Rattle.pattern.proofs.Stores.{puts_none, puts_as}
use Rattle.printer.proofs.tokens.low_number.Goals as goal

pub returns-then-low-eq0 : goal.returns-then-low-eq0
returns-then-low-eq0 c = puts_as (puts_none c.args.out.now c.args.n) (sym (low_zero c.args.low c.if-low-eq0.true))

pub put_decimal-requires : goal.put_decimal-requires
put_decimal-requires c =
    omega (arith, c.requires, ap length (low_other c.args.low c.if-low-eq0.false))

pub returns : goal.returns
returns c = puts_as c.put_decimal.ensures (sym (low_other c.args.low c.if-low-eq0.false))
