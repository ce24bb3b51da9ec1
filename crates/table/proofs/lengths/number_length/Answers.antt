-- `lengths::number_length` meets its contract: 16 bits have at most five digits. Assumes nothing.
use native.Mathlib.Omega.{arith}
use Rattle.pattern.proofs.Decimal.{decimal_short}
use Rattle.table.proofs.lengths.number_length.Goals as goal

pub returns : goal.returns
returns c = (c.decimal_length.ensures, omega (arith, c.decimal_length.ensures, decimal_short 4 c.args.n (omega arith)))
