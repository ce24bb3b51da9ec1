-- `match_batch` meets its contract: the table is tested, then what is lent, then each label matched. Assumes nothing.
use mathlib.Core.Path.{sym, ◌∙◌}
use native.Mathlib.Omega.{arith}
use Rattle.atoms.proofs.Goods.{tested_good, tested_bad}
use Rattle.matcher.proofs.Refusals.{few_tops}
use Rattle.batch.proofs.Cases.{bad_refused, unfit_refused, fit_in_turn}
use Rattle.batch.proofs.match_batch.Goals as goal

pub returns-in_default : goal.returns-in_default
returns-in_default c = sym (bad_refused _ _ _ _ _ _ _ (tested_bad _ (rw c.in_default.is at c.test.ensures.sizes)))

pub overflow_mul-good : goal.overflow_mul-good
overflow_mul-good c = omega (arith, few_tops _ _ c.in-Some.good.good)

pub is_unfit-requires : goal.is_unfit-requires
is_unfit-requires c = omega (arith, few_tops _ _ c.in-Some.good.good)

pub returns-then-is_unfit : goal.returns-then-is_unfit
returns-then-is_unfit c = let g = tested_good _ _ c.in-Some.ensures.sizes in sym (unfit_refused _ _ _ _ _ _ _ _ g.good.decoded _ g.top_is (sym c.is_unfit.ensures ∙ c.if-is_unfit.true))

pub returns : goal.returns
returns c =
    let g = tested_good _ _ c.in-Some.ensures.sizes in
    rw c.in-Some.ensures.bytes at c.match_each.ensures ∙ sym (fit_in_turn _ _ _ _ _ _ _ _ g.good.decoded _ g.top_is (sym c.is_unfit.ensures ∙ c.if-is_unfit.false))
