-- What a read's answer means, and what lent bytes are after a session's steps. Assumes nothing.
use mathlib.Core.Path.{◌≡◌, refl, sym, ap, ap₂, ◌∙◌, subst}
use mathlib.Core.Bool.{true, false, cond}
use Prim.Native.Nat.{ℕ, zero, suc, ◌≤◌}
use native.Mathlib.Omega.{arith}
use Rattle.std.specs.Prelude.{Option, Some, None}
use lib.ListN.{length, take, drop, replicate}
use lib.Seq.{drop-length, length-take-le}
use mathlib.Core.List.{◌++◌, append-nil}
use Rattle.pattern.specs.Bytes.{Bytes, zeroed}
use Rattle.pattern.proofs.Stores.{store_at_overwrite}
use Rattle.replies.specs.Reply.{Reply}
use Rattle.replies.specs.Stores.{Replied}
use Rattle.lines.specs.Chunk.{Buffers, lend}
use Rattle.lines.specs.Session.{reading_of, State, started, StartPost, finished, AfterRead}
use Rattle.lines.specs.declared.session.Input.{Input}
use Rattle.lines.specs.declared.session.Next.{Next}
use Rattle.lines.specs.declared.chunk.Pending.{Pending}
use Rattle.lines.specs.declared.session.Next.TheVariants.{Write, Read, Stop}
use Rattle.lines.specs.declared.session.Input.TheVariants.{Failed, Ended, Chunk}

pub apart : {X : Type 0} → true ≡ false → X
apart e = absurd (omega (arith, ap (λ b. cond b (suc 0) 0) e))

pub not_stop_read : {X : Type 0} {held : ℕ} → Read held ≡ Stop → X
not_stop_read e = absurd (let z : ◌≡◌ {A = ℕ} 0 1 = cc in omega arith)

pub not_stop_write : {X : Type 0} {p : Pending} → Write p ≡ Stop → X
not_stop_write e = absurd (let z : ◌≡◌ {A = ℕ} 0 1 = cc in omega arith)

abbrev count_of : Input → ℕ
count_of Failed = 0
count_of Ended = 0
count_of (Chunk n) = n

module _ (room : ℕ) where
  -- of a chunk no more than the buffer has
  pub chunk_fits : (got : Option ℕ) (n : ℕ) → Chunk n ≡ reading_of got room → n ≤ room
  unfolding reading_of
  chunk_fits got n e = omega (arith, ap count_of e, counted got)
    where
      counted : (got : Option ℕ) → count_of (reading_of got room) ≤ room
      counted None = omega arith
      counted (Some zero) = omega arith
      counted (Some (suc k)) = omega arith

-- by another name of what was read
pub read_as : (i j : Input) (held : ℕ) (input : Bytes) (b : Buffers) (s : State) → i ≡ j → AfterRead j held input b s → AfterRead i held input b s
read_as i j held input b s e a = subst (λ x. AfterRead x held input b s) (sym e) a

-- bytes that are filled with zeros, and the first n of them
pub filled : (s s' : Bytes) → s' ≡ replicate (length s) 0 → s' ≡ zeroed (length s) s
filled s s' e = e ∙ sym (append-nil _) ∙ ap (λ v. replicate (length s) 0 ++ v) (sym (drop-length s))

pub filled_first : (n : ℕ) (s s' : Bytes) → n ≤ length s → s' ≡ replicate (length (take n s)) 0 → s' ++ drop n s ≡ zeroed n s
filled_first n s s' h e = ap (λ v. v ++ drop n s) (e ∙ ap (λ k. replicate k 0) (length-take-le n s h))

-- a state by its bytes
pub state_by : {next : Next} {i i' l l' w w' o o' : Bytes} → i ≡ i' → l ≡ l' → w ≡ w' → o ≡ o'
    → ◌≡◌ {A = State} (record { next = next; input = i; buffers = lend l w o }) (record { next = next; input = i'; buffers = lend l' w' o' })
state_by a b c d = cc

-- the first state
pub started_by : (input line scratch : Bytes) {out out' : Bytes} {r : Next} → StartPost out out' r → record { next = r; input = input; buffers = lend line scratch out' } ≡ started input (lend line scratch out)
unfolding started
started_by input line scratch a = ap₂ (λ n o. record { next = n; input = input; buffers = lend line scratch o }) a.next a.bytes

-- the reply to the last line is over the output
pub finished_by : (held : ℕ) (b : Buffers) {end : ℕ} {input scratch' out' line' : Bytes} {last : Reply} → Replied (length b.out) last b.out 0 scratch' out' end → line' ≡ zeroed held b.line
    → record { next = Write (record { end = end; rest = None }); input = input; buffers = lend line' scratch' out' } ≡ finished last held input b
unfolding finished
finished_by held b {last = last} a w =
    let r = a.within in
    let e : _ ≡ length last.text = r.stores.next ∙ omega arith in
    rw e (state_by refl w a.works (r.stores.bytes ∙ store_at_overwrite b.out last.text (omega (arith, r.short, r.stores.next))))
