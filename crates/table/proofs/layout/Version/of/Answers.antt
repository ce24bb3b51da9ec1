-- `Version::of` meets its contract, test by test. Assumes nothing.
use mathlib.Core.Path.{sym, ◌∙◌}
use Rattle.table.proofs.Measures.{version_1, version_2}
use Rattle.table.proofs.layout.Version.of.Goals as goal

pub returns-then-read16-eq1 : goal.returns-then-read16-eq1
returns-then-read16-eq1 c = sym (version_1 _ (sym c.read16.ensures ∙ c.if-read16-eq1.true))

pub returns-else-read16-eq1 : goal.returns-else-read16-eq1
returns-else-read16-eq1 c = sym (version_2 _ (λ e. c.if-read16-eq1.false (c.read16.ensures ∙ e)))
