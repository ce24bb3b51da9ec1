-- `equal` meets its contract. Assumes nothing.
use mathlib.Core.Path.{◌∙◌}
use Rattle.stores.proofs.Compared.{equal_slices}
use Rattle.stores.proofs.equal.Goals as goal

pub returns : goal.returns
returns c = c.eq.ensures ∙ equal_slices _ _ _ _ c.args.n
