-- `lengths::low_length` meets its contract: 0 is left out. Assumes nothing.
use mathlib.Core.Path.{sym, ap, ◌∙◌}
use native.Mathlib.Omega.{arith}
use lib.ListN.{length}
use Rattle.table.proofs.Sources.{low_zero, low_other}
use Rattle.table.proofs.lengths.low_length.Goals as goal

pub returns-then-low-eq0 : goal.returns-then-low-eq0
returns-then-low-eq0 c = (sym (ap length (low_zero c.args.low c.if-low-eq0.true)), omega arith)

pub returns-else-low-eq0 : goal.returns-else-low-eq0
returns-else-low-eq0 c = (c.number_length.ensures.0 ∙ sym (ap length (low_other c.args.low c.if-low-eq0.false)), c.number_length.ensures.1)
