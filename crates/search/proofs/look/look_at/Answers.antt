-- `look::look_at` meets its contract: 13 and 14, the skip test, the match. Assumes nothing.
use mathlib.Core.Path.{sym, ap, ◌∙◌}
use native.Mathlib.Omega.{arith}
use Prim.Native.Nat.{◌-◌, ◌≤◌}
use lib.ListN.{length, replicate, length-drop}
use lib.Seq.{length-take-le}
use Rattle.pattern.proofs.Rooms.{rows_few, bytes_few}
use Rattle.search.proofs.Looking.{look_atoms, look_tops, look_summary, look_filled, look_within, look_work, look_parts, look_fits, look_out, look_skipped, look_yes, look_no}
use Rattle.search.proofs.look.look_at.Goals as goal

pub overflow_mul-needed-2 : goal.overflow_mul-needed-2
overflow_mul-needed-2 c = let pre = c.requires in omega (arith, rows_few _ _ (look_atoms pre) pre.short)

pub overflow_mul-needed-3 : goal.overflow_mul-needed-3
overflow_mul-needed-3 c = let pre = c.requires in omega (arith, bytes_few _ _ (look_atoms pre) pre.short)

pub returns-then-rules_out : goal.returns-then-rules_out
returns-then-rules_out c =
    let pre = c.requires in
    let reach : c.max-reach.result ≤ length c.args.scratch.now = look_within pre _ c.max-reach.ensures c.if-scratch-needed.false in
    look_skipped pre _ c.if-scratch-needed.false c.if-parts-kept.false (sym c.if-rules_out.true ∙ look_out pre c.rules_out.ensures) _
    (look_filled pre _ c.max-reach.ensures _ (c.fill.ensures.after (λ y e. e) ∙ ap (λ n. replicate n 0) (length-take-le (c.max-reach.result - c.args.cleared) _ (omega (arith, length-drop c.args.cleared c.args.scratch.now))))) _ c.max-reach.ensures

pub returns-then-is_match : goal.returns-then-is_match
returns-then-is_match c =
    let pre = c.requires in
    look_yes pre _ c.if-scratch-needed.false c.if-parts-kept.false (sym c.if-rules_out.false ∙ look_out pre c.rules_out.ensures) _ _ (rw c.if-is_match.true at c.is_match.ensures)

pub returns : goal.returns
returns c =
    let pre = c.requires in
    look_no pre _ c.if-scratch-needed.false c.if-parts-kept.false (sym c.if-rules_out.false ∙ look_out pre c.rules_out.ensures) _ _ (rw c.if-is_match.false at c.is_match.ensures) _ c.max-reach.ensures

pub overflow_mul-needed : goal.overflow_mul-needed
overflow_mul-needed c = omega (arith, look_atoms c.requires)

pub overflow_add-needed : goal.overflow_add-needed
overflow_add-needed c = omega (arith, look_atoms c.requires)

pub returns-then-scratch-needed : goal.returns-then-scratch-needed
returns-then-scratch-needed c = look_work c.requires _ c.if-scratch-needed.true

pub overflow_mul-kept : goal.overflow_mul-kept
overflow_mul-kept c = omega (arith, look_tops c.requires)

pub returns-then-parts-kept : goal.returns-then-parts-kept
returns-then-parts-kept c = look_parts c.requires _ c.if-scratch-needed.false c.if-parts-kept.true

pub rules_out-requires : goal.rules_out-requires
rules_out-requires c = look_summary c.requires

pub is_match-requires : goal.is_match-requires
is_match-requires c = look_fits c.requires _ c.if-scratch-needed.false c.if-parts-kept.false
