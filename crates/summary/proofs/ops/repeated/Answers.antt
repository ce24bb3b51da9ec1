-- `ops::repeated` meets its contract. Assumes nothing.
use native.Mathlib.Omega.{arith}
use Rattle.summary.proofs.Packings.{repeat_never, repeat_some, times_fit}
use Rattle.summary.proofs.ops.repeated.Goals as goal

pub overflow_mul-from : goal.overflow_mul-from
overflow_mul-from c = omega (arith, times_fit c.from.result _ (omega (arith, c.from.ensures)) c.requires.shortest)

pub returns-then-high-eq0 : goal.returns-then-high-eq0
returns-then-high-eq0 c = repeat_never _ _ _ _ _ _ c.from.ensures c.min-shortest.ensures c.often-longest.ensures c.if-high-eq0.true

pub returns : goal.returns
returns c = repeat_some _ _ _ _ _ _ c.from.ensures c.min-shortest.ensures c.often-longest.ensures c.if-high-eq0.false
