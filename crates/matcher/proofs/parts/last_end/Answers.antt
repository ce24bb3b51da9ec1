-- `matcher::parts::last_end` meets its contract: the ends above m don't hold. Assumes nothing.
use mathlib.Core.Path.{◌≡◌, refl, ◌∙◌}
use Prim.Native.Nat.{suc, ◌+◌, ◌-◌}
use native.Mathlib.Omega.{arith}
use lib.Bits.{bit_and}
use Rattle.pattern.specs.Decision.{trial}
use Rattle.planes.specs.Cells.{on}
use Rattle.planes.proofs.Planes.{trial_hit, trial_miss}
use Rattle.matcher.proofs.Ends.{longest_none, longest_hit, longest_miss}
use Rattle.matcher.proofs.parts.last_end.Goals as goal

pub loop-m-init : goal.loop-m-init
loop-m-init c = let z : suc c.args.n - c.args.i ≡ c.args.n + 1 - c.args.i = omega arith in (omega (arith, c.requires.start), omega arith, rw z refl)

pub returns-then-cell-ne0 : goal.returns-then-cell-ne0
returns-then-cell-ne0 c =
    let p = c.requires in
    let l = c.loop-m in
    let a = c.args in
    let z : l.m - a.i ≡ suc (l.m - 1) - a.i = omega arith in
    let h : bit_and c.cell.result c.cell-in-loop-m.result ≡ 0 → ⊥ = c.if-cell-ne0.true in
    let hit = trial_hit _ _ _ _ p.left.flags p.right.flags _ (l.m - 1) _ (omega arith) (omega arith) p.end (rw (c.cell.ensures, c.cell-in-loop-m.ensures) at h) in
    let found = longest_hit (trial (on a.scratch.now a.w a.left) (on a.scratch.now a.w a.right) a.i a.n) a.i (l.m - 1) (omega arith) hit in
    omega (arith, rw z at l.invariant.2, found)

pub loop-m-preserved : goal.loop-m-preserved
loop-m-preserved c =
    let p = c.requires in
    let l = c.loop-m in
    let z : l.m - c.args.i ≡ suc (l.m - 1) - c.args.i = omega arith in
    let y : suc (l.m - 1 - 1) - c.args.i ≡ l.m - 1 - c.args.i = omega arith in
    let h : bit_and c.cell.result c.cell-in-loop-m.result ≡ 0 = c.if-cell-ne0.false in
    let miss = trial_miss _ _ _ _ p.left.flags p.right.flags _ (l.m - 1) _ (omega arith) (omega arith) p.end (rw (c.cell.ensures, c.cell-in-loop-m.ensures) at h) in
    (omega arith, omega arith, rw z at l.invariant.2 ∙ longest_miss _ _ (l.m - 1) (omega arith) miss ∙ rw y refl)

pub returns : goal.returns
returns c =
    let l = c.loop-m in
    let a = c.args in
    let z : l.m - a.i ≡ suc (l.m - 1) - a.i = omega arith in
    let none = longest_none (trial (on a.scratch.now a.w a.left) (on a.scratch.now a.w a.right) a.i a.n) a.i (l.m - 1) (omega arith) in
    omega (arith, rw z at l.invariant.2, none)
