-- What a trace took from a reader and put into a writer: nothing, one trace after another, and the whole. Assumes nothing.
use mathlib.Core.Path.{◌≡◌, refl, sym, ap, subst, ◌∙◌}
use mathlib.Core.Bool.{Bool, true, false, ◌||◌}
use mathlib.Core.List.{List, [], ◌∷◌, ◌++◌, append_assoc, append-nil}
use Prim.Native.Nat.{ℕ, zero, suc, ◌+◌, ◌-◌, min, ◌≤◌}
use native.Mathlib.Omega.{arith}
use lib.ListN.{length, take, drop, length-append, length-take}
use lib.Seq.{length-take-le, take-take, take-add}
use Rattle.std.specs.Prelude.{Option, Some, None, IfSome, Result, Ok, Err}
use Rattle.std.specs.Result.{result_ok}
use Rattle.std.specs.Io.{ReadsAtMost}
use Rattle.std.specs.Io.KnownBytes.{Keeps, Appends, Consumes, IsAtEnd, ReadConsumes}
use Rattle.pattern.specs.Bytes.{Bytes}
use Rattle.lines.specs.Output.{joined}
use Rattle.lines.specs.Chunk.{Buffers}
use Rattle.lines.specs.Session.{State, reading_of, AfterRead, PendingIn, AfterWrite}
use Rattle.lines.specs.Trace.{Trace, followed_by, read, end, write, read_fails, write_fails}
use Rattle.lines.specs.declared.chunk.Pending.{Pending}
use Rattle.lines.specs.declared.session.Next.TheVariants.{Write, Read}
use Rattle.lines.proofs.Sessions.{apart}
use Rattle.mptline.specs.Run.{FromReader, ToWriter, WriteStep, ReadStep}

joined_append : (a b : List Bytes) → joined (a ++ b) ≡ joined a ++ joined b
unfolding joined
joined_append [] b = refl
joined_append (s ∷ a) b = ap (λ v. s ++ v) (joined_append a b) ∙ sym (append_assoc s (joined a) (joined b))

nothing : (s : Bytes) → length s ≡ 0 → s ≡ []
nothing [] e = refl
nothing (c ∷ s) e = absurd (omega arith)

-- ---- nothing

pub takes_none : (left : Option Bytes) → Consumes left left []
takes_none None = _
takes_none (Some s) = refl

pub appends_none : (held : Option Bytes) → Appends held held []
appends_none None = _
appends_none (Some s) = sym (append-nil s)

-- ---- one after another

consumes_more : (a b c : Option Bytes) (x y : Bytes) → Consumes a b x → Consumes b c y → Consumes a c (x ++ y)
consumes_more None b c x y h k = _
consumes_more (Some s) None c x y h k = absurd h
consumes_more (Some s) (Some t) None x y h k = absurd k
consumes_more (Some s) (Some t) (Some u) x y h k = h ∙ ap (λ v. x ++ v) k ∙ sym (append_assoc x y u)

appends_more : (a b c : Option Bytes) (x y : Bytes) → Appends a b x → Appends b c y → Appends a c (x ++ y)
appends_more None b c x y h k = _
appends_more (Some s) None c x y h k = absurd h
appends_more (Some s) (Some t) None x y h k = absurd k
appends_more (Some s) (Some t) (Some u) x y h k = k ∙ ap (λ v. v ++ y) h ∙ append_assoc s x y

-- one write more: the first of the bytes that were left are put after those that were written
pub appends_next : (a b c : Option Bytes) (s : Bytes) (k n : ℕ) → k ≤ length s → Appends a b (take k s) → n ≤ length (take (length s - k) (drop k s)) → Appends b c (take n (take (length s - k) (drop k s)))
    → (k + n ≤ length s) × Appends a c (take (k + n) s)
appends_next a b c s k n h p m q =
    let fits : n ≤ length s - k = omega (arith, length-take (length s - k) (drop k s)) in
    let next : take k s ++ take n (take (length s - k) (drop k s)) ≡ take (k + n) s = ap (λ v. take k s ++ v) (take-take n (length s - k) (drop k s) fits) ∙ sym (take-add k n s) in
    (omega arith, subst (Appends a c) next (appends_more a b c _ _ p q))

-- it ended in the second, or in the first, after which no more is taken
ends_more : (a b c : Option Bytes) (x y : Bytes) (t u : Bool) → Consumes a b x → Consumes b c y → (t ≡ true → IfSome a (λ s. s ≡ x)) → (u ≡ true → IfSome b (λ s. s ≡ y))
    → (u || t) ≡ true → IfSome a (λ s. s ≡ x ++ y)
ends_more None b c x y t u h k v w e = _
ends_more (Some s) None c x y t u h k v w e = absurd h
ends_more (Some s) (Some r) None x y t u h k v w e = absurd k
ends_more (Some s) (Some r) (Some q) x y t true h k v w e = h ∙ ap (λ z. x ++ z) (w refl)
ends_more (Some s) (Some r) (Some q) x y true false h k v w e =
    let none_left : y ≡ [] = nothing y (omega (arith, ap length h, ap length (v refl), length-append x r, ap length k, length-append y q)) in
    v refl ∙ sym (append-nil x) ∙ ap (λ z. x ++ z) (sym none_left)
ends_more (Some s) (Some r) (Some q) x y false false h k v w e = apart (sym e)

pub took_more : {t u : Trace} {a b c : Option Bytes} → FromReader t a b → FromReader u b c → FromReader (followed_by t u) a c
unfolding followed_by
took_more {t} {u} {a} {b} {c} h k =
    let e = sym (joined_append t.chunks u.chunks) in
    record {
      taken = subst (Consumes a c) e (consumes_more a b c _ _ h.taken k.taken);
      whole = λ d. subst (λ (v : Bytes). IfSome a (λ s. s ≡ v)) e (ends_more a b c _ _ t.ended u.ended h.taken k.taken h.whole k.whole d);
    }

pub gave_more : {t u : Trace} {a b c : Option Bytes} → ToWriter t a b → ToWriter u b c → ToWriter (followed_by t u) a c
unfolding followed_by
gave_more {t} {u} {a} {b} {c} h k = record { given = appends_more a b c _ _ h.given k.given }

-- ---- a write, and a read

takes_nothing : (t : Trace) → t.chunks ≡ [] → t.ended ≡ false → (left : Option Bytes) → FromReader t left left
unfolding joined
takes_nothing t c e left = record { taken = subst (λ v. Consumes left left (joined v)) (sym c) (takes_none left); whole = λ d. apart (sym d ∙ e) }

-- so many of the pending bytes were written, and all of them where it succeeded
pub write_moves : (wrote : Bool) (p : Pending) (k : ℕ) (input : Bytes) (b : Buffers) (s : State) → PendingIn p input b → AfterWrite wrote p input b s
    → (wrote ≡ true → k ≡ p.end) → k ≤ length (take p.end b.out)
    → {held held' : Option Bytes} → Appends held held' (take k (take p.end b.out)) → WriteStep (record { next = Write p; input = input; buffers = b }) s held held'
write_moves true p k input b s f a e m h =
    let all : take k (take p.end b.out) ≡ take p.end b.out = ap (λ n. take n (take p.end b.out)) (e refl) ∙ take-take p.end p.end b.out (omega arith) in
    record { trace = _; step = write p input b s f a; took = takes_nothing _ refl refl; gave = record { given = subst (Appends _ _) all h } }
write_moves false p k input b s f a e m h =
    let fits : k ≤ p.end = omega (arith, length-take-le p.end b.out f.end_fits) in
    record { trace = _; step = write_fails p k input b s fits f a; took = takes_nothing _ refl refl; gave = record { given = subst (Appends _ _) (take-take k p.end b.out fits) h } }

consumes_all : (left left' : Option Bytes) → Consumes left left' [] → IsAtEnd left' → IfSome left (λ s. s ≡ [])
consumes_all None left' c e = _
consumes_all (Some s) None c e = absurd c
consumes_all (Some s) (Some r) c e = c ∙ e

kept : (left left' : Option Bytes) → Keeps left left' → Consumes left left' []
kept None left' k = _
kept (Some s) None k = absurd k
kept (Some s) (Some r) k = sym k

module _ (held : ℕ) (input input' : Bytes) (b : Buffers) (s : State) (some : 1 ≤ length input') {left left' : Option Bytes} where
  pub read_moves : {E : Type 0} (r : Result ℕ E) → AfterRead (reading_of (result_ok r) (length input')) held input' b s → ReadsAtMost r input' → ReadConsumes left left' r input'
      → ReadStep (record { next = Read held; input = input; buffers = b }) s left left'
  unfolding reading_of joined
  read_moves (Err e) a m c = record { trace = _; step = read_fails held input input' b s a; took = record { taken = kept left left' c; whole = λ d. apart (sym d) }; gave = λ h. record { given = appends_none h } }
  read_moves (Ok zero) a m c =
      record { trace = _; step = end held input input' b s a; took = record { taken = c.0; whole = λ d. consumes_all left left' c.0 (c.1 refl (omega arith)) }; gave = λ h. record { given = appends_none h } }
  read_moves (Ok (suc k)) a m c =
      let e : min (suc k) (length input') ≡ suc k = omega (arith, m) in
      record {
        trace = _;
        step = read held _ input input' b s (omega arith) (omega arith) a;
        took = record { taken = subst (Consumes left left') (ap (λ n. take n input') (sym e) ∙ sym (append-nil _)) c.0; whole = λ d. apart (sym d) };
        gave = λ h. record { given = appends_none h };
      }

-- ---- the whole of a reader's bytes and the text after a writer's

pub taken_whole : (t : Trace) (s : Bytes) (left' : Option Bytes) → FromReader t (Some s) left' → t.ended ≡ true → joined t.chunks ≡ s
taken_whole t s left' h e = sym (h.whole e)

pub given_whole : (t : Trace) (s : Bytes) (held' : Option Bytes) → ToWriter t (Some s) held' → held' ≡ Some (s ++ t.text)
given_whole t s None h = absurd h.given
given_whole t s (Some r) h = ap Some h.given
