-- `rules::rules_out` meets its contract. Assumes nothing.
use mathlib.Core.Path.{refl, ◌∙◌}
use native.Mathlib.Omega.{arith}
use Rattle.summary.proofs.SummaryRead.{out_short, out_long, in_empty, out_first}
use Rattle.summary.proofs.rules.rules_out.Goals as goal

pub returns-then-n-from : goal.returns-then-n-from
returns-then-n-from c = out_short _ _ _ (c.from.ensures ∙ c.read16.ensures) c.if-n-from.true

pub returns-then-from-n : goal.returns-then-from-n
returns-then-from-n c = out_long _ _ _ (c.from.ensures ∙ c.read16.ensures) _ (c.from-2.ensures ∙ c.read16-2.ensures) c.if-n-from.false c.if-from-n.true

pub returns-then-n-eq0 : goal.returns-then-n-eq0
returns-then-n-eq0 c = in_empty _ _ _ (c.from.ensures ∙ c.read16.ensures) _ (c.from-2.ensures ∙ c.read16-2.ensures) c.if-n-from.false c.if-from-n.false c.if-n-eq0.true

pub bounds-summary-from : goal.bounds-summary-from
bounds-summary-from c =
    omega (arith, c.from-3.ensures, c.type_inv.label 0, c.requires)

pub returns : goal.returns
returns c =
    out_first _ _ _ (c.from.ensures ∙ c.read16.ensures) _ (c.from-2.ensures ∙ c.read16-2.ensures) c.if-n-from.false c.if-from-n.false c.if-n-eq0.false
    _ _ refl (omega (arith, c.type_inv.label 0)) c.from-3.ensures
