-- `text::put_refused` meets its contract. Assumes nothing.
use native.Mathlib.Omega.{arith}
use Rattle.replies.specs.Text.{coded_text, refused_text}
use Rattle.pattern.proofs.Stores.{puts_then}
use Rattle.pattern.proofs.Decimal.{decimal_short}
use Rattle.replies.proofs.text.put_refused.Goals as goal

pub put-start-requires : goal.put-start-requires
unfolding coded_text
put-start-requires c = omega (arith, c.put_coded-space.ensures.next, decimal_short 19 c.from-number.result (omega arith))

pub put_decimal-requires : goal.put_decimal-requires
unfolding coded_text
put_decimal-requires c =
    omega (arith, c.put_coded-space.ensures.next, c.put-start.ensures.next, decimal_short 19 c.from-number.result (omega arith), decimal_short 19 c.args.fault.position (omega arith))

pub returns : goal.returns
unfolding refused_text
returns c =
    puts_then (rw (c.from-number.ensures, c.from.ensures) at c.put_coded-space.ensures) (puts_then c.put-start.ensures c.put_decimal.ensures)
