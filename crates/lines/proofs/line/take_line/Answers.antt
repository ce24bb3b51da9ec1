-- `line::take_line` meets its contract: what was taken so far is held. Assumes nothing.
use mathlib.Core.Path.{◌≡◌, refl, sym, ap, ◌∙◌}
use mathlib.Core.Bool.{cond}
use Prim.Native.Nat.{suc, ◌+◌}
use native.Mathlib.Omega.{arith}
use lib.ListN.{length, length-set}
use lib.Seq.{drop-set-lt}
use Rattle.pattern.proofs.Stores.{same_after}
use Rattle.lines.proofs.Lines.{taken_nothing, turn_newline, turn_room, turn_full}
use Rattle.lines.proofs.line.take_line.Goals as goal
use Rattle.lines.proofs.line.take_line.Goals.{then-n-lt-HELD_LIMIT, else-n-lt-HELD_LIMIT}

pub loop-at-init : goal.loop-at-init
loop-at-init c = record { fits = omega arith; size = refl; taken = taken_nothing _ c.args.chunk.now c.args.from; stays = refl; longer = omega arith }

pub shape_of-line-then-b-eq-NEWLINE : goal.shape_of-line-then-b-eq-NEWLINE
shape_of-line-then-b-eq-NEWLINE c = c.loop-at.invariant.size

pub returns-then-b-eq-NEWLINE : goal.returns-then-b-eq-NEWLINE
returns-then-b-eq-NEWLINE c =
    let k = c.loop-at.invariant in
    record {
      equal = turn_newline _ _ c.loop-at.line _ _ c.loop-at.n k.taken c.loop-at.auto.at c.loop-at-test.true c.if-b-eq-NEWLINE.true;
      stays = k.stays;
      size = k.size;
      longer = k.longer;
      held_fits = k.fits;
      next_fits = omega arith;
      forward = omega arith;
      moves = λ m. omega arith;
      stops = λ e. absurd (omega (arith, ap (λ b. cond b (suc 0) 0) e));
    }

pub loop-at-preserved : goal.loop-at-preserved
loop-at-preserved c =
    let k = c.loop-at.invariant in
    elim c.if-n-lt-HELD_LIMIT.branch [
      | then-n-lt-HELD_LIMIT w ↦
          rw (w.n-is, w.line-is)
          (record {
            fits = omega arith;
            size = simp length-set k.size;
            taken = turn_room _ _ _ _ _ _ k.taken c.loop-at.auto.at c.loop-at-test.true c.if-b-eq-NEWLINE.false w.if-n-lt-HELD_LIMIT.true (omega arith);
            stays = drop-set-lt (c.loop-at.n + 1) _ c.loop-at.n _ (omega arith) ∙ same_after _ _ c.loop-at.n (c.loop-at.n + 1) (omega arith) k.stays;
            longer = omega arith;
          })
      | else-n-lt-HELD_LIMIT w ↦
          rw (w.n-is, w.line-is)
          (record {
            fits = k.fits;
            size = k.size;
            taken = turn_full _ _ _ _ _ _ k.taken c.loop-at.auto.at c.loop-at-test.true c.if-b-eq-NEWLINE.false w.if-n-lt-HELD_LIMIT.false (omega arith);
            stays = k.stays;
            longer = k.longer;
          })
    ]

pub shape_of-line : goal.shape_of-line
shape_of-line c = c.loop-at.invariant.size

pub returns : goal.returns
returns c =
    let k = c.loop-at.invariant in
    let e : c.loop-at.at ≡ length c.args.chunk.now = omega arith in
    record { equal = rw (sym e) k.taken; stays = k.stays; size = k.size; longer = k.longer; held_fits = k.fits; next_fits = omega arith; forward = omega arith; moves = λ m. omega arith; stops = λ e. omega arith }
