-- `text::put_part` meets its contract. Assumes nothing.
use native.Mathlib.Omega.{arith}
use Rattle.pattern.proofs.Stores.{puts_then}
use Rattle.pattern.proofs.Decimal.{decimal_short}
use Rattle.replies.proofs.text.put_part.Goals as goal

pub put_decimal-requires : goal.put_decimal-requires
put_decimal-requires c = rw c.from.ensures (omega (arith, c.put-start.ensures.next, decimal_short 4 c.args.part (omega arith)))

pub returns : goal.returns
returns c =
    let d = rw c.from.ensures at c.put_decimal.ensures in
    record { stores = puts_then c.put-start.ensures d; short = omega (arith, c.put-start.ensures.next, d.next, decimal_short 4 c.args.part (omega arith)) }
