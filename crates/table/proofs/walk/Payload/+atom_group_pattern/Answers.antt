-- The proof of the cycle of calls {atom, group, pattern}. The atoms left fall: an atom calls the branches from the next atom on, a group a branch at the same place or further on, and so a pattern an atom.
use mathlib.Core.Path.{◌≡◌, sym, ◌∙◌}
use Prim.Native.Nat.{◌+◌, ◌-◌}
use native.Mathlib.Omega.{arith}
use borrow.Author.Tests.{eqb-true, eqb-false}
use Rattle.table.proofs.Steps.{atom_over, atom_unordered}
use Rattle.table.proofs.Walks.{counted, leaf_bad, leaf_passed, too_deep, group_bad, group_elsewhere, group_passed, pattern_at_start, going_bad, pattern_at_last, going_other, pattern_at_more, group_at_start, group_at_over, branching_bad, group_at_last, group_at_more}
use Rattle.table.proofs.walk.Payload.+atom_group_pattern.Goals as goal

pub atom-returns-then-self-at : goal.atom-returns-then-self-at
atom-returns-then-self-at t c = record { past = tt; reads = atom_over _ _ _ _ c.if-self-at.true }

pub atom-returns-then-not-is_ordered : goal.atom-returns-then-not-is_ordered
atom-returns-then-not-is_ordered t c =
    record { past = tt; reads = atom_unordered _ _ _ _ _ c.record_at-r.ensures c.if-self-at.false (sym c.is_ordered.ensures ∙ c.if-not-is_ordered.true) }

pub atom-returns-in_err-leaf : goal.atom-returns-in_err-leaf
atom-returns-in_err-leaf t c =
    rw c.from_residual-in_err-leaf.ensures
    (leaf_bad (counted c.requires c.if-self-at.false c.record_at-r.ensures c.is_ordered.ensures c.if-not-is_ordered.false c.count_length.ensures) (eqb-false _ _ (sym c.if-is_group.ensures)) c.leaf_at.ensures c.in_err-leaf.was)

pub atom-returns : goal.atom-returns
atom-returns t c =
    leaf_passed (counted c.requires c.if-self-at.false c.record_at-r.ensures c.is_ordered.ensures c.if-not-is_ordered.false c.count_length.ensures) (eqb-false _ _ (sym c.if-is_group.ensures)) c.leaf_at.ensures c.in_ok-leaf.was

pub atom-returns-then-depth-ge-DEPTH_LIMIT : goal.atom-returns-then-depth-ge-DEPTH_LIMIT
atom-returns-then-depth-ge-DEPTH_LIMIT t c =
    too_deep (counted c.requires c.if-self-at.false c.record_at-r.ensures c.is_ordered.ensures c.if-not-is_ordered.false c.count_length.ensures) (eqb-true _ _ (sym c.if-is_group.ensures)) c.if-depth-ge-DEPTH_LIMIT.true

pub atom-returns-in_err-end : goal.atom-returns-in_err-end
atom-returns-in_err-end t c =
    rw c.from_residual.ensures
    (group_bad (counted c.requires c.if-self-at.false c.record_at-r.ensures c.is_ordered.ensures c.if-not-is_ordered.false c.count_length.ensures) (eqb-true _ _ (sym c.if-is_group.ensures)) c.if-depth-ge-DEPTH_LIMIT.false c.group.ensures c.in_err-end.was)

pub atom-returns-then-end-r : goal.atom-returns-then-end-r
atom-returns-then-end-r t c =
    group_elsewhere (counted c.requires c.if-self-at.false c.record_at-r.ensures c.is_ordered.ensures c.if-not-is_ordered.false c.count_length.ensures) (eqb-true _ _ (sym c.if-is_group.ensures)) c.if-depth-ge-DEPTH_LIMIT.false c.group.ensures c.in_ok-end.was c.if-end-r.true

pub atom-returns-then-is_group : goal.atom-returns-then-is_group
atom-returns-then-is_group t c =
    group_passed (counted c.requires c.if-self-at.false c.record_at-r.ensures c.is_ordered.ensures c.if-not-is_ordered.false c.count_length.ensures) (eqb-true _ _ (sym c.if-is_group.ensures)) c.if-depth-ge-DEPTH_LIMIT.false c.group.ensures c.in_ok-end.was c.if-end-r.false

pub group-loop-i-init : goal.group-loop-i-init
group-loop-i-init t c = let e : c.args.k - 0 ≡ c.args.k = omega arith in rw e (group_at_start c.requires)

pub group-returns-in_err-next : goal.group-returns-in_err-next
group-returns-in_err-next t c = rw c.from_residual.ensures (branching_bad c.loop-i.invariant (λ z. omega (arith, z)) c.pattern.ensures c.in_err-next.was)

pub group-returns-then-i-k : goal.group-returns-then-i-k
group-returns-then-i-k t c = group_at_last c.loop-i.invariant (λ z. omega (arith, z)) c.pattern.ensures c.in_ok-next.was (omega arith)

pub group-loop-i-preserved : goal.group-loop-i-preserved
group-loop-i-preserved t c =
    let l = c.loop-i in
    let e : c.args.k - (l.i + 1) ≡ c.args.k - l.i - 1 = omega arith in
    rw e (group_at_more l.invariant (λ z. omega (arith, z)) c.pattern.ensures c.in_ok-next.was (λ z. omega (arith, z)))

pub group-returns : goal.group-returns
group-returns t c = group_at_over c.loop-i.invariant (omega arith)

pub pattern-loop-next-init : goal.pattern-loop-next-init
pattern-loop-next-init t c = pattern_at_start c.requires

pub pattern-returns-in_err-next : goal.pattern-returns-in_err-next
pattern-returns-in_err-next t c = rw c.from_residual.ensures (going_bad c.loop-next.invariant c.atom.ensures c.in_err-next.was)

pub pattern-returns-then-ends-eq1 : goal.pattern-returns-then-ends-eq1
pattern-returns-then-ends-eq1 t c =
    pattern_at_last c.loop-next.invariant c.atom.ensures c.in_ok-next.was c.ends_of-ends.ensures c.if-ends-eq1.true

pub pattern-returns-then-ends-ne0 : goal.pattern-returns-then-ends-ne0
pattern-returns-then-ends-ne0 t c =
    going_other c.loop-next.invariant c.atom.ensures c.in_ok-next.was c.ends_of-ends.ensures c.if-ends-eq1.false c.if-ends-ne0.true

pub pattern-loop-next-preserved : goal.pattern-loop-next-preserved
pattern-loop-next-preserved t c =
    pattern_at_more c.loop-next.invariant c.atom.ensures c.in_ok-next.was c.ends_of-ends.ensures c.if-ends-ne0.false
