-- `settle::branches` meets its contract: the branches up to one are joined, and the others are left. Assumes nothing.
use mathlib.Core.Path.{◌≡◌, refl}
use Prim.Native.Nat.{◌+◌, ◌-◌}
use native.Mathlib.Omega.{arith}
use Rattle.summary.proofs.SettledRows.{row_in, first_there, join_start, next_branch, join_step, join_end}
use Rattle.summary.proofs.settle.branches.Goals as goal

pub bounds-rows-at : goal.bounds-rows-at
bounds-rows-at c = row_in c.requires.settling _ (first_there c.requires.settling c.requires.group)

pub loop-init : goal.loop-init
loop-init c = join_start c.requires.settling c.requires.group _ refl

pub branch_end-at-requires : goal.branch_end-at-requires
branch_end-at-requires c = record { good = c.requires.settling.room.good; there = c.loop.invariant.there }

pub bounds-rows-at-in-loop : goal.bounds-rows-at-in-loop
bounds-rows-at-in-loop c = row_in c.requires.settling _ (next_branch c.requires.settling c.loop.invariant (omega arith) _ c.branch_end-at.ensures)

pub loop-preserved : goal.loop-preserved
loop-preserved c =
    let e : c.args.count - (c.loop.counter + 1) ≡ c.args.count - c.loop.counter - 1 = omega arith in
    rw e (join_step c.requires.settling c.loop.invariant (omega arith) _ c.branch_end-at.ensures _ _ refl c.either-joined.ensures)

pub returns : goal.returns
returns c = join_end c.requires.settling c.loop.invariant (omega arith)
