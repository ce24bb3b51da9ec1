-- `read32` meets its contract. Assumes nothing.
use mathlib.Core.Path.{◌∙◌}
use Rattle.stores.proofs.Little.{number_four}
use Rattle.stores.proofs.read32.Goals as goal

pub returns : goal.returns
returns c = c.from_le_bytes.ensures ∙ number_four _ c.args.at
