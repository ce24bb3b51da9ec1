-- `ops::often` meets its contract. Assumes nothing.
use native.Mathlib.Omega.{arith}
use Rattle.summary.proofs.Packings.{often_times, times_fit}
use Rattle.summary.proofs.ops.often.Goals as goal

pub overflow_mul-from : goal.overflow_mul-from
overflow_mul-from c = omega (arith, times_fit c.from.result _ (omega (arith, c.from.ensures)) c.requires)

pub returns : goal.returns
returns c = often_times _ _ _ _ c.from.ensures c.min.ensures
