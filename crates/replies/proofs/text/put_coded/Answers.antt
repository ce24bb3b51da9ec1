-- `text::put_coded` meets its contract. Assumes nothing.
use native.Mathlib.Omega.{arith}
use Rattle.replies.specs.Text.{coded_text}
use Rattle.pattern.proofs.Stores.{puts_then}
use Rattle.pattern.proofs.Decimal.{decimal_short}
use Rattle.replies.proofs.text.put_coded.Goals as goal

pub put_decimal-requires : goal.put_decimal-requires
put_decimal-requires c =
    omega (arith, c.put-space.ensures.next, c.put-start.ensures.next, decimal_short 19 c.args.number (omega arith))

pub returns : goal.returns
unfolding coded_text
returns c =
    puts_then (puts_then c.put-space.ensures c.put-start.ensures) c.put_decimal.ensures
