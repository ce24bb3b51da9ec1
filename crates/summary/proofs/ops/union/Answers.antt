-- `ops::union` meets its contract. Assumes nothing.
use mathlib.Core.Path.{refl}
use Rattle.summary.specs.Packing.{union}
use Rattle.summary.proofs.ops.union.Goals as goal

pub returns : goal.returns
unfolding union
returns c = refl
