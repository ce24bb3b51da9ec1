-- `chunk::answer_last` meets its contract. Assumes nothing.
use mathlib.Core.Path.{sym, ◌∙◌}
use native.Mathlib.Omega.{arith}
use Rattle.std.proofs.lemmas.Bool.{eqb-true, eqb-false}
use Rattle.lines.proofs.Answering.{last_answered, last_none, replied_none, replied_as}
use Rattle.lines.proofs.chunk.answer_last.Goals as goal

pub returns-then-is_empty : goal.returns-then-is_empty
returns-then-is_empty c = replied_as (replied_none 0 _ _ 0) (last_none _ _ (eqb-true _ _ (sym c.is_empty.ensures ∙ c.if-is_empty.true))) (omega arith)

pub returns : goal.returns
returns c =
    let r = c.answer_line.ensures in
    replied_as r (last_answered _ _ (eqb-false _ _ (sym c.is_empty.ensures ∙ c.if-is_empty.false))) (omega (arith, r.within.short))
