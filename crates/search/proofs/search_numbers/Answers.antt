-- `search_numbers` meets its contract: what is left of the search is the whole of it. Assumes nothing.
use mathlib.Core.Path.{ap, ◌∙◌}
use native.Mathlib.Omega.{arith}
use borrow.Author.Rules.{rules}
use Rattle.pattern.specs.declared.refusal.Fault.{Fault}
use mathlib.Core.Path.{◌≡◌}
use Rattle.std.specs.Prelude.{Ok}
use Rattle.search.proofs.Steps.{ok_before, err_before}
use Rattle.std.proofs.lemmas.Result.{err_from_is_err_and}
use Rattle.search.proofs.Underway.{search_start, search_end, slot_within, end_within, search_missing, look_pre, search_stopped, search_found, search_passed, search_skipped}
use Rattle.search.proofs.search_numbers.Goals.{in-NoMatch, in-RuledOut}
use Rattle.search.proofs.search_numbers.Goals as goal

pub overflow_add-end : goal.overflow_add-end
overflow_add-end c = omega (arith, end_within c.loop-k.invariant c.loop-k-test.true _ c.kept_at-kept.ensures, c.well_formed)

pub summary_at-summary-requires : goal.summary_at-summary-requires
summary_at-summary-requires c = omega (arith, slot_within c.loop-k.invariant c.loop-k-test.true)

pub slice_bounds-table-end : goal.slice_bounds-table-end
slice_bounds-table-end c = omega (arith, end_within c.loop-k.invariant c.loop-k-test.true _ c.kept_at-kept.ensures)

pub returns : goal.returns
returns c = search_end c.loop-k.invariant c.loop-k-test.false

pub loop-k-init : goal.loop-k-init
loop-k-init c = search_start c.requires _ _

pub kept_at-kept-requires : goal.kept_at-kept-requires
kept_at-kept-requires c = slot_within c.loop-k.invariant c.loop-k-test.true

pub look_at-requires : goal.look_at-requires
look_at-requires c = look_pre c.loop-k.invariant c.loop-k-test.true _ c.kept_at-kept.ensures c.if-kept-eq0.false _ c.summary_at-summary.ensures

pub loop-k-preserved-then-kept-eq0 : goal.loop-k-preserved-then-kept-eq0
loop-k-preserved-then-kept-eq0 c = search_missing c.loop-k.invariant c.loop-k-test.true _ c.kept_at-kept.ensures c.if-kept-eq0.true

pub returns-in_err-look : goal.returns-in_err-look
returns-in_err-look c =
    let p = err_from_is_err_and c.from_residual.result c.from_residual.ensures.1 in
    let b = err_before _ _ _ c.map_err.ensures.cases c.in_err-look.was in
    let z : ◌≡◌ {A = Fault} c.in_err-look.field-0.0 (record { refusal = b.0; position = c.loop-k.k }) = search (rules, b.2) in rw (p.1, p.2, z) (search_stopped c.loop-k.invariant c.loop-k-test.true _ c.kept_at-kept.ensures c.if-kept-eq0.false _ _ _ c.look_at.ensures _ b.1)

pub returns-in-Match : goal.returns-in-Match
returns-in-Match c =
    search_found c.loop-k.invariant c.loop-k-test.true _ c.kept_at-kept.ensures c.if-kept-eq0.false _ _ _ c.look_at.ensures (ok_before _ _ _ c.map_err.ensures.cases c.in_ok-look.was ∙ ap Ok c.in-Match.is)

pub loop-k-preserved : goal.loop-k-preserved
loop-k-preserved c =
    elim c.match-look.branch [
      | in-NoMatch w ↦
          rw (w.skipped-is, w.cleared-is)
          (search_passed c.loop-k.invariant c.loop-k-test.true _ c.kept_at-kept.ensures c.if-kept-eq0.false _ _ _ c.look_at.ensures (omega (arith, c.look_at.auto)) (omega (arith, c.look_at.auto)) _ (ok_before _ _ _ c.map_err.ensures.cases c.in_ok-look.was ∙ ap Ok w.in-NoMatch.is))
      | in-RuledOut w ↦
          rw (w.skipped-is, w.cleared-is)
          (search_skipped c.loop-k.invariant c.loop-k-test.true _ c.kept_at-kept.ensures c.if-kept-eq0.false _ _ _ c.look_at.ensures (omega (arith, c.look_at.auto)) (omega (arith, c.look_at.auto)) _ (ok_before _ _ _ c.map_err.ensures.cases c.in_ok-look.was ∙ ap Ok w.in-RuledOut.is))
    ]
