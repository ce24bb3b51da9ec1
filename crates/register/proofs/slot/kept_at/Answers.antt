-- `slot::kept_at` meets its contract: three numbers are read. Assumes nothing.
use mathlib.Core.Path.{◌∙◌}
use Rattle.register.specs.Slots.{kept_at}
use Rattle.register.proofs.slot.kept_at.Goals as goal

pub returns : goal.returns
unfolding kept_at
returns c = λ i. record { length = c.read32.ensures i; atoms = (c.from.ensures ∙ c.read16.ensures) i; top = (c.from-2.ensures ∙ c.read16-2.ensures) i }
