-- `planes::join::join` meets its contract. The invariants of its loops are `PlaneAt`, `ColumnAt` and `SearchAt`, and the steps are laws of ``Joining`` and ``Searching``. Assumes nothing.
use mathlib.Core.Path.{◌≡◌, refl}
use Prim.Native.Nat.{◌+◌}
use native.Mathlib.Omega.{arith}
use lib.Bits.{bit_and}
use Rattle.pattern.specs.Decision.{trial}
use Rattle.planes.specs.Cells.{on}
use Rattle.planes.proofs.Searching.{Says, says_searched, search_stop}
use Rattle.planes.proofs.Joining.{plane_start, plane_end, plane_stop, plane_step, column_start, trial_held, trial_none, trial_next, column_found, column_missing, join_ready, join_blank}
use Rattle.planes.proofs.join.join.Goals as goal
use Rattle.planes.proofs.join.join.Goals.{then-cell-ne0, else-cell-ne0+then-m-i, then-is_some, else-is_some}

pub loop-j-init : goal.loop-j-init
loop-j-init c =
    let b = c.blank in
    plane_start (join_ready c.requires b.ensures b.auto.scratch) c.args.budget.within b.ensures.plane

pub loop-i-init : goal.loop-i-init
loop-i-init c = column_start c.loop-j.invariant c.loop-j-test.true

pub loop-spent-preserved : goal.loop-spent-preserved
loop-spent-preserved c =
    let h : bit_and c.cell.result c.cell-in-loop-spent.result ≡ 0 = c.if-cell-ne0.false in
    trial_next c.loop-i.invariant c.loop-spent.invariant c.if-spent-limit.false (rw (c.cell.ensures, c.cell-in-loop-spent.ensures) at h) c.if-m-i.false

pub returns-then-spent-limit : goal.returns-then-spent-limit
returns-then-spent-limit c =
    join_blank c.requires c.blank.ensures _ (plane_stop c.loop-j.invariant c.loop-j-test.true c.loop-i.invariant c.args.budget refl refl (omega arith) (search_stop c.loop-spent.invariant c.if-spent-limit.true))

pub loop-i-preserved : goal.loop-i-preserved
loop-i-preserved c =
    let column = c.loop-i.invariant in
    let inv = c.loop-spent.invariant in
    let s = c.loop-i.scratch in
    let says : Says (trial (on s c.args.w c.args.left) (on s c.args.w c.args.right) c.loop-i.i c.loop-j.j) c.loop-i.i c.loop-j.j c.args.budget.limit c.loop-i.spent (c.loop-spent.spent + 1) c.if-cell-ne0.found =
    elim c.if-cell-ne0.branch [
      | then-cell-ne0 w ↦
          let h : bit_and c.cell.result c.cell-in-loop-spent.result ≡ 0 → ⊥ = w.if-cell-ne0.true in
          rw w.found-is (trial_held column inv c.if-spent-limit.false (rw (c.cell.ensures, c.cell-in-loop-spent.ensures) at h))
      | else-cell-ne0+then-m-i w ↦
          let h : bit_and c.cell.result c.cell-in-loop-spent.result ≡ 0 = w.if-cell-ne0.false in
          rw w.found-is (trial_none column inv c.if-spent-limit.false (rw (c.cell.ensures, c.cell-in-loop-spent.ensures) at h) w.if-m-i.true)
    ] in
    let searched = says_searched c.if-cell-ne0.found says in
    elim c.if-is_some.branch [
      | then-is_some w ↦ rw (w.scratch-is, w.set_stretch.ensures) (column_found column (omega arith) (rw (← w.if-is_some.ensures) at searched))
      | else-is_some w ↦ rw w.scratch-is (column_missing column (omega arith) (rw (← w.if-is_some.ensures) at searched))
    ]

pub loop-j-preserved : goal.loop-j-preserved
loop-j-preserved c = plane_step c.loop-j.invariant c.loop-j-test.true c.loop-i.invariant (omega arith)

pub returns : goal.returns
returns c =
    join_blank c.requires c.blank.ensures _ (plane_end c.loop-j.invariant c.args.budget _ refl refl refl c.loop-j-test.false)

pub invariant_of-result : goal.invariant_of-result
invariant_of-result c = record { within = c.loop-j.invariant.counting.within }
