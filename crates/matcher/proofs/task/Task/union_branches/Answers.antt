-- `Task::union_branches` meets its contract: the invariant is `UnionBranchesAt`. Assumes nothing.
use mathlib.Core.Path.{◌≡◌}
use Prim.Native.Nat.{◌+◌, ◌-◌}
use native.Mathlib.Omega.{arith}
use Rattle.matcher.proofs.Groups.{body_blank, union_start, union_there, union_add, union_end, union_step}
use Rattle.matcher.proofs.task.Task.union_branches.Goals as goal

pub blank-requires : goal.blank-requires
blank-requires c =
    let (wide, room) = body_blank _ _ _ _ _ _ c.requires.body in
    record { wide = wide; room = room }

pub loop-init : goal.loop-init
loop-init c =
    union_start _ _ _ _ _ _ _ _ c.requires c.blank.auto.scratch c.blank.ensures

pub add-requires : goal.add-requires
add-requires c =
    union_add _ _ _ _ _ _ _ _ c.requires c.blank.auto.scratch c.blank.ensures _ _ _ c.loop.invariant

pub branch_end-first-requires : goal.branch_end-first-requires
branch_end-first-requires c =
    let p = c.requires in
    record { good = p.body.work.good; there = union_there _ _ _ _ _ _ _ _ p c.blank.auto.scratch c.blank.ensures _ _ _ c.loop.invariant }

pub loop-preserved : goal.loop-preserved
loop-preserved c =
    let e : c.args.branches - (c.loop.counter + 1) ≡ c.args.branches - c.loop.counter - 1 = omega arith in
    rw e (union_step _ _ _ _ _ _ _ _ c.requires c.blank.auto.scratch c.blank.ensures _ _ _ c.loop.invariant _ c.add.auto.scratch c.add.ensures (λ z. omega arith) _ c.branch_end-first.ensures)

pub add-requires-2 : goal.add-requires-2
add-requires-2 c =
    union_add _ _ _ _ _ _ _ _ c.requires c.blank.auto.scratch c.blank.ensures _ _ _ c.loop.invariant

pub returns : goal.returns
returns c =
    union_end _ _ _ _ _ _ _ _ c.requires c.blank.auto.scratch c.blank.ensures _ _ _ c.loop.invariant _ c.add-2.auto.scratch c.add-2.ensures (omega arith)
