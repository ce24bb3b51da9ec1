-- `match_each` meets its contract: the labels left complete the whole. Assumes nothing.
use mathlib.Core.Path.{◌∙◌}
use native.Mathlib.Omega.{arith}
use Rattle.matcher.proofs.Refusals.{few_tops}
use Rattle.batch.proofs.Fitting.{fits_exactly}
use Rattle.batch.proofs.Turns.{first_turn, label_rises, next_turn, all_turns}
use Rattle.batch.proofs.match_each.Goals as goal

pub overflow_mul-width : goal.overflow_mul-width
overflow_mul-width c = omega (arith, few_tops _ _ c.args.table.good)

pub loop-k-init : goal.loop-k-init
loop-k-init c = first_turn _ _ _ _ _ _ _ _ ((fits_exactly _ _ _ _ _).0 c.requires)

pub slice_bounds-match_good-count : goal.slice_bounds-match_good-count
slice_bounds-match_good-count c = label_rises c.loop-k.invariant c.loop-k-test.true _ (c.from-to.ensures ∙ c.read16.ensures)

pub slice_bounds-match_good-start : goal.slice_bounds-match_good-start
slice_bounds-match_good-start c = omega (arith, label_rises c.loop-k.invariant c.loop-k-test.true _ (c.from-to.ensures ∙ c.read16.ensures))

pub loop-k-preserved : goal.loop-k-preserved
loop-k-preserved c =
    let m = c.match_good in
    next_turn c.loop-k.invariant c.loop-k-test.true _ (c.from-to.ensures ∙ c.read16.ensures) m.result _ _ _ m.ensures m.auto.scratch m.auto.parts (c.byte_of.ensures c.args.budget)

pub returns : goal.returns
returns c = all_turns c.loop-k.invariant c.loop-k-test.false
