-- `chunk::answer_chunk` meets its contract: what was taken of the chunk so far is done. What is left of the chunk falls. Assumes nothing.
use mathlib.Core.Path.{refl, sym, ap, ◌∙◌}
use Prim.Native.Nat.{◌≤◌}
use lib.ListN.{length}
use native.Mathlib.Omega.{arith}
use lib.Seq.{length-take-le}
use Rattle.pattern.proofs.Stores.{puts_length, length_zeroed}
use Rattle.lines.proofs.Lines.{taken_nothing}
use Rattle.lines.proofs.Sessions.{filled_first}
use Rattle.lines.proofs.Answering.{done_none, done_held, done_ended}
use Rattle.lines.proofs.chunk.answer_chunk.Goals as goal

pub loop-next-init : goal.loop-next-init
loop-next-init c =
    record {
      line_size = refl;
      scratch_size = refl;
      out_size = refl;
      forward = omega arith;
      fits = omega arith;
      done = rw taken_nothing (done_none _ _ (omega arith) (omega arith));
      whole = λ e m. absurd (omega arith);
    }

pub slice_bounds-answer_line-end : goal.slice_bounds-answer_line-end
slice_bounds-answer_line-end c = omega (arith, c.take_line-t.ensures.held_fits, c.take_line-t.ensures.size)

pub slice_bounds-answer_line-end-then-t : goal.slice_bounds-answer_line-end-then-t
slice_bounds-answer_line-end-then-t c =
    let t = c.take_line-t.ensures in
    sym (length-take-le _ _ (omega (arith, t.held_fits, t.size)))

pub loop-next-smaller-then-t : goal.loop-next-smaller-then-t
loop-next-smaller-then-t c =
    omega (arith, c.take_line-t.ensures.moves c.loop-next-test.true, c.take_line-t.ensures.next_fits)

pub loop-next-preserved-then-t : goal.loop-next-preserved-then-t
loop-next-preserved-then-t c =
    let k = c.loop-next.invariant in
    let t = c.take_line-t.ensures in
    let r = c.answer_line-end.ensures in
    let h : c.take_line-t.result.held ≤ length c.take_line-t.new.line = omega (arith, t.held_fits, t.size, k.line_size, c.requires.lent.line_size) in
    let z = filled_first _ _ _ h (c.fill.ensures.after (λ y e. e)) in
    record {
      line_size = ap length z ∙ length_zeroed _ _ h ∙ t.size ∙ k.line_size;
      scratch_size = c.answer_line-end.auto.scratch ∙ k.scratch_size;
      out_size = puts_length r.within.stores ∙ k.out_size;
      forward = omega (arith, t.forward);
      fits = t.next_fits;
      done = done_ended _ _ k.done k.forward t h c.if-t.true r (omega arith) z;
      whole = λ e m. refl;
    }

pub loop-next-smaller : goal.loop-next-smaller
loop-next-smaller c =
    omega (arith, c.take_line-t.ensures.moves c.loop-next-test.true, c.take_line-t.ensures.next_fits)

pub loop-next-preserved : goal.loop-next-preserved
loop-next-preserved c =
    let k = c.loop-next.invariant in
    let t = c.take_line-t.ensures in
    record {
      line_size = t.size ∙ k.line_size;
      scratch_size = k.scratch_size;
      out_size = k.out_size;
      forward = omega (arith, t.forward);
      fits = t.next_fits;
      done = done_held _ _ k.done k.forward t (omega (arith, t.held_fits, t.size)) c.if-t.false;
      whole = λ e m. absurd (omega (arith, t.stops c.if-t.false));
    }
