-- What is done of a chunk, line by line. Assumes nothing.
use mathlib.Core.Path.{◌≡◌, refl, sym, ap, ap₂, ◌∙◌}
use mathlib.Core.Bool.{Bool, true, false}
use mathlib.Core.List.{List, [], ◌∷◌, ◌++◌, append_assoc, append-nil}
use Prim.Native.Nat.{ℕ, ◌+◌, ◌≤◌}
use native.Mathlib.Omega.{arith}
use lib.ListN.{length, take, drop, replicate}
use lib.Seq.{slice, length-take-le}
use Rattle.pattern.specs.Bytes.{Bytes, overwrite, zeroed}
use Rattle.pattern.proofs.Stores.{overwrite_same, take_overwrite, drop_overwrite, store_at_overwrite, puts_none, puts_then, puts_as, puts_length}
use Rattle.replies.specs.Sizes.{held_limit}
use Rattle.replies.specs.Reply.{Reply, answer_to}
use Rattle.replies.specs.Stores.{Replied}
use Rattle.lines.specs.Output.{prefixed, answers, last_line, LinesIn, lines_in, wiped}
use Rattle.lines.specs.Taking.{one_line, TakeLinePost}
use Rattle.lines.specs.Chunk.{Buffers, lend, Done}
use Rattle.lines.specs.declared.line.Taken.{Taken}
use Rattle.lines.proofs.Lines.{lines_append, slice_join}

-- ---- replies one after the other

pub answers_append : (a b : List Bytes) (scratch : Bytes) → answers (a ++ b) scratch ≡ prefixed (answers a scratch).text (answers b (answers a scratch).scratch)
unfolding answers prefixed
answers_append [] b scratch = refl
answers_append (line ∷ a) b scratch =
    let first = answer_to line scratch in
    ap (prefixed first.text) (answers_append a b first.scratch) ∙ ap (λ v. record { text = v; scratch = (answers b (answers a first.scratch).scratch).scratch }) (sym (append_assoc first.text _ _))

answers_one : (line scratch : Bytes) → answers (line ∷ []) scratch ≡ answer_to line scratch
unfolding answers prefixed
answers_one line scratch = ap (λ v. record { text = v; scratch = (answer_to line scratch).scratch }) (append-nil _)

-- the answer to a last line with bytes, and to none
pub last_answered : (line scratch : Bytes) → ¬ (length line ≡ 0) → answer_to line scratch ≡ answers (last_line line) scratch
unfolding last_line
last_answered [] scratch f = absurd (f refl)
last_answered (c ∷ s) scratch f = sym (answers_one (c ∷ s) scratch)

pub last_none : (line scratch : Bytes) → length line ≡ 0 → record { text = []; scratch = scratch } ≡ answers (last_line line) scratch
unfolding last_line answers
last_none [] scratch e = refl
last_none (c ∷ s) scratch e = absurd (omega arith)

pub replied_none : (room : ℕ) (scratch out : Bytes) (at : ℕ) → Replied room (record { text = []; scratch = scratch }) out at scratch out at
replied_none room scratch out at = record { within = record { stores = puts_none out at; short = omega arith }; works = refl }

module _ {room at end : ℕ} {r : Reply} {out scratch' out' : Bytes} (a : Replied room r out at scratch' out' end) where
  -- by another name, within other room
  pub replied_as : {room' : ℕ} {r' : Reply} → r ≡ r' → end ≤ at + room' → Replied room' r' out at scratch' out' end
  replied_as e h = record { within = record { stores = puts_as a.within.stores (ap (λ (x : Reply). x.text) e); short = h }; works = a.works ∙ ap (λ (x : Reply). x.scratch) e }

-- the reply to a line more
replied_more : (ls : List Bytes) (line scratch₀ : Bytes) {room more end end' : ℕ} {out₀ scratch out scratch' out' : Bytes} → Replied room (answers ls scratch₀) out₀ 0 scratch out end
    → Replied more (answer_to line scratch) out end scratch' out' end' → end' ≤ room → Replied room (answers (ls ++ line ∷ []) scratch₀) out₀ 0 scratch' out' end'
unfolding prefixed
replied_more ls line scratch₀ {room} {scratch = scratch} a b h =
    let e : answers (ls ++ line ∷ []) scratch₀ ≡ prefixed (answers ls scratch₀).text (answer_to line scratch) =
    answers_append ls (line ∷ []) scratch₀ ∙ ap (λ s. prefixed (answers ls scratch₀).text (answers (line ∷ []) s)) (sym a.works) ∙ ap (prefixed (answers ls scratch₀).text) (answers_one line scratch) in
    replied_as {room = room} (record { within = record { stores = puts_then a.within.stores b.within.stores; short = omega arith }; works = b.works }) (sym e) (omega arith)

-- ---- a line's bytes

wiped_append : (a b : List Bytes) (line : Bytes) → wiped (a ++ b) line ≡ wiped b (wiped a line)
unfolding wiped
wiped_append [] b line = refl
wiped_append (l ∷ a) b line = wiped_append a b (zeroed (length l) line)

-- ---- what is done, read off the buffers

-- the replies stand at the start
pub take_replied : {end : ℕ} {r : Reply} {out scratch' out' : Bytes} → Replied (length out) r out 0 scratch' out' end → take end out' ≡ r.text
take_replied {r = r} {out} a =
    let w = a.within in
    let n : _ ≡ length r.text = w.stores.next ∙ omega arith in
    ap₂ (λ k v. take k v) n (w.stores.bytes ∙ store_at_overwrite out r.text (omega (arith, w.short))) ∙ take_overwrite r.text out

-- the output's other bytes stay
pub drop_replied : {end : ℕ} {r : Reply} {out scratch' out' : Bytes} → Replied (length out) r out 0 scratch' out' end → drop end out' ≡ drop end out
drop_replied {end} {r} {out} a =
    let w = a.within in
    ap (drop end) (w.stores.bytes ∙ store_at_overwrite out r.text (omega (arith, w.short, w.stores.next))) ∙ drop_overwrite end r.text out (omega (arith, w.stores.next))

-- and what is held in the line's bytes
pub held_overwrite : {l : LinesIn} {b b' : Buffers} {end n : ℕ} → Done l b b' end n → take n b'.line ≡ l.held
held_overwrite {l} {b} d = ap₂ (λ n s. take n s) d.held d.line ∙ take_overwrite l.held (wiped l.ended b.line)

-- ---- turns over a chunk

pub done_none : (held : ℕ) (b : Buffers) → held ≤ length b.line → held ≤ held_limit → Done (one_line false (take held b.line)) b b 0 held
unfolding one_line answers wiped
done_none held b h l =
    record { replied = replied_none _ _ _ _; line = overwrite_same held b.line b.line h refl; held = sym (length-take-le held b.line h); held_fits = l }

-- a line more is taken
module _ (held₀ : Bytes) (from : ℕ) {b₀ b : Buffers} {next n end : ℕ} {chunk after : Bytes} {r : Taken} (d : Done (lines_in held₀ (slice from next chunk)) b₀ b end n) (f : from ≤ next)
    (t : TakeLinePost chunk next b.line n after r) (h : r.held ≤ length after) where
  abbrev before : LinesIn
  before = lines_in held₀ (slice from next chunk)

  abbrev line : Bytes
  line = take r.held after

  more_lines : (e : Bool) → r.ended ≡ e → record { ended = before.ended ++ (one_line e line).ended; held = (one_line e line).held } ≡ lines_in held₀ (slice from r.next chunk)
  more_lines e q =
      let rest = slice next r.next chunk in
      ap (λ (m : LinesIn). record { ended = before.ended ++ m.ended; held = m.held }) (ap (λ x. one_line x line) (sym q) ∙ sym t.equal ∙ ap (λ v. lines_in v rest) (held_overwrite d))
      ∙ sym (lines_append held₀ (slice from next chunk) rest) ∙ ap (lines_in held₀) (sym (slice_join chunk from next r.next f t.forward t.next_fits))

  rest_stays : drop r.held after ≡ drop r.held (wiped before.ended b₀.line)
  rest_stays = t.stays ∙ ap (drop r.held) d.line ∙ drop_overwrite r.held before.held _ (omega (arith, t.longer, d.held))

  -- it did not end
  pub done_held : r.ended ≡ false → Done (lines_in held₀ (slice from r.next chunk)) b₀ (lend after b.scratch b.out) end r.held
  unfolding one_line
  done_held q =
      rw (← more_lines false q, append-nil)
      (record { replied = d.replied; line = overwrite_same r.held after _ h rest_stays; held = sym (length-take-le r.held after h); held_fits = t.held_fits })

  -- it ended: the reply stands after those before, and its bytes are zeroed
  pub done_ended : {scratch' out' line' : Bytes} {room j : ℕ} → r.ended ≡ true → Replied room (answer_to line b.scratch) b.out end scratch' out' j → end + room ≤ length b.out
      → line' ≡ zeroed r.held after → Done (lines_in held₀ (slice from r.next chunk)) b₀ (lend line' scratch' out') j 0
  unfolding one_line wiped overwrite
  done_ended q a g z =
      rw (← more_lines true q)
      (record {
        replied = replied_more before.ended line b₀.scratch d.replied a (omega (arith, a.within.short, puts_length d.replied.within.stores));
        line =
            z ∙ ap (λ v. replicate r.held 0 ++ v) rest_stays ∙ ap (λ n. zeroed n (wiped before.ended b₀.line)) (sym (length-take-le r.held after h))
            ∙ sym (wiped_append before.ended (line ∷ []) b₀.line);
        held = refl;
        held_fits = omega arith;
      })
