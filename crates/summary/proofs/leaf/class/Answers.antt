-- `leaf::class` meets its contract. Assumes nothing.
use mathlib.Core.Path.{sym, ◌∙◌}
use Rattle.std.proofs.lemmas.Bool.{false≢true}
use Rattle.std.proofs.lemmas.Slice.Eq.{bytes_eq-Decides}
use Rattle.summary.proofs.ClassWords.{class_none, class_some}
use Rattle.summary.proofs.leaf.class.Goals as goal

pub returns-then-eq : goal.returns-then-eq
returns-then-eq c = class_none _ _ c.class_bytes-first.ensures ((bytes_eq-Decides _ _).0 (sym c.eq.ensures ∙ c.if-eq.true))

pub returns : goal.returns
returns c = class_some _ _ c.class_bytes-first.ensures (λ e. false≢true (sym c.if-eq.false ∙ c.eq.ensures ∙ (bytes_eq-Decides _ _).1 e))
