-- `ops::either` meets its contract. Assumes nothing.
use Rattle.summary.proofs.Packings.{either_made}
use Rattle.summary.proofs.ops.either.Goals as goal

pub returns : goal.returns
returns c = either_made _ _ _ _ c.min.ensures c.max.ensures c.union.ensures
