-- `text::put_matched` meets its contract: what stores the rest of the parts from here on stores all of them. Assumes nothing.
use mathlib.Core.Path.{◌≡◌, sym, ap, ◌∙◌}
use Prim.Native.Nat.{◌+◌, ◌*◌}
use native.Mathlib.Omega.{arith}
use lib.ListN.{get_or, length, length-append}
use Rattle.pattern.specs.Bytes.{bytes}
use Rattle.std.specs.Slice.Iter.{chunks_exact_rest}
use Rattle.replies.specs.Text.{matched_text}
use Rattle.pattern.proofs.Stores.{puts_then, puts_none, puts_as}
use Rattle.replies.proofs.Parts.{listed_join, listed_none}
use Rattle.replies.proofs.text.put_matched.Goals as goal

pub loop-pair-preserved : goal.loop-pair-preserved
loop-pair-preserved c =
    let k = c.loop-pair.invariant in
    let s = c.in-Some.ensures.steps in
    let p = c.put_part-end.ensures in
    let pair = c.in-Some.pair.now in
    let part : c.from_le_bytes-part.result ≡ get_or pair 0 0 + 256 * get_or pair 1 0 = omega (arith, c.from_le_bytes-part.ensures) in
    record {
      size = s.0 ∙ k.size;
      room = omega (arith, k.room, p.short, ap length s.1.0, length-append pair (chunks_exact_rest c.next.new.self), s.1.1, k.size);
      stores = λ m e d. k.stores m e (listed_join _ _ _ s.1.0 (s.1.1 ∙ k.size) (rw part at p.stores) d);
    }

pub returns : goal.returns
unfolding bytes matched_text
returns c =
    let b = c.put-end.ensures in
    let k = c.loop-pair.invariant in
    let s = c.in-None.ensures.steps in
    record { stores = puts_then b (k.stores _ _ (puts_as (puts_none _ _) (sym (listed_none _ _ (omega (arith, s.1.0, k.size)))))); short = omega (arith, b.next, k.room) }
