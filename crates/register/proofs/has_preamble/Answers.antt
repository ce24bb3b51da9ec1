-- `has_preamble` meets its contract: the first bytes are compared. Assumes nothing.
use mathlib.Core.Path.{◌∙◌}
use Rattle.register.proofs.Slots.{equal_turned}
use Rattle.register.proofs.has_preamble.Goals as goal

pub returns : goal.returns
returns c = c.starts_with.ensures.value ∙ equal_turned _ _
