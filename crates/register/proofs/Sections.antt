-- What a section holds is laid out in it, and what is laid out is held. Assumes nothing.
use mathlib.Core.Path.{◌≡◌, refl, sym, ap, ◌∙◌}
use mathlib.Core.Bool.{Bool, true, false}
use mathlib.Core.List.{[], ◌∷◌, ◌++◌, append_assoc}
use mathlib.Core.Option.{Option, none, some}
use Prim.Native.Nat.{ℕ, zero, suc, ◌+◌, ◌*◌, ◌≤◌}
use native.Mathlib.Omega.{arith}
use borrow.Author.Tests.{le-leb}
use lib.Dec.{leb, leb→le}
use lib.ListN.{length, take, drop, replicate, length-append, length-drop}
use lib.Seq.{length-take-le, take-add, take-take, take_at, drop_at}
use Rattle.pattern.specs.Bytes.{Bytes, equal, little, number_in}
use Rattle.pattern.specs.Syntax.{pattern, Syntax}
use Rattle.pattern.specs.Decode.{decode}
use Rattle.pattern.proofs.Agree.{equal_decides}
use Rattle.pattern.proofs.Tests.{true-T, and_both, passed}
use Rattle.stores.proofs.Little.{length_little, number_little}
use Rattle.register.specs.Maps.{Map, tables, total}
use Rattle.summary.specs.Summary.{summary_of}
use Rattle.summary.proofs.SummaryBytes.{length_summary_bytes}
use Rattle.register.specs.Layout.{length_size, entry_size, entry, slot_size, slot, directory, allowed}
use Rattle.register.specs.Sections.{first_size, first_table, intact, cons_if, held}
use Rattle.register.proofs.Maps.{AllAllowed, allowed_short, no_bytes_no_tree}

-- ---- the parts of a layout

length_entry : (o : Option (Syntax pattern)) → length (entry o) ≡ entry_size
unfolding entry
length_entry none = refl
length_entry (some t) = omega (arith, length_summary_bytes (summary_of t))

pub length_slot : (t : Bytes) → length (slot t) ≡ slot_size
unfolding slot
length_slot t = omega (arith, length-append (little length_size (length t)) (entry (decode t)), length_little length_size (length t), length_entry (decode t))

-- the length in a slot
pub slot_length : (t : Bytes) → take length_size (slot t) ≡ little length_size (length t)
unfolding slot
slot_length t = take_at (little length_size (length t)) (entry (decode t)) length_size (length_little length_size (length t))

pub length_directory : (m : Map) → length (directory m) ≡ slot_size * length m
unfolding directory
length_directory [] = refl
length_directory (t ∷ m) = omega (arith, length-append (slot t) (directory m), length_slot t, length_directory m)

-- the slot of no table
pub slot_none : slot [] ≡ replicate slot_size 0
unfolding slot entry little
slot_none = ap (λ (o : Option (Syntax pattern)). little length_size 0 ++ entry o) no_bytes_no_tree

-- ---- what is held is laid out

pub record Holds (c : ℕ) (d s : Bytes) (m : Map) : Type 0 where
  pub count : length m ≡ c
  pub slots : take (slot_size * c) d ≡ directory m
  pub bytes : take (total m) s ≡ tables m
  pub within : total m ≤ length s
  pub each : AllAllowed m

pub cons_is : (b : Bool) (t : Bytes) (o : Option Map) (m : Map) → cons_if b t o ≡ some m
    → (b ≡ true) × ((n : Map) × (o ≡ some n) × (t ∷ n ≡ m))
unfolding cons_if
cons_is true t (some n) m e = (refl, (n, refl, cc))
cons_is true t none m e = absurd (let z : ◌≡◌ {A = ℕ} 0 1 = cc in omega arith)
cons_is false t o m e = absurd (let z : ◌≡◌ {A = ℕ} 0 1 = cc in omega arith)

pub record Intact (d s : Bytes) : Type 0 where
  pub there : first_size d ≤ length s
  pub allows : allowed (first_table d s) ≡ true
  pub told : take slot_size d ≡ slot (first_table d s)

pub intact_is : (d s : Bytes) → intact d s ≡ true → Intact d s
unfolding intact
intact_is d s e =
    let (a, b) = and_both (leb (first_size d) (length s)) _ (true-T _ e) in
    let (k, q) = and_both (allowed (first_table d s)) _ b in
    record { there = leb→le _ _ a; allows = passed _ k; told = (equal_decides (take slot_size d) (slot (first_table d s))).sound q }

pub is_intact : (d s : Bytes) → Intact d s → intact d s ≡ true
unfolding intact
is_intact d s r =
    let q = passed (equal (take slot_size d) (slot (first_table d s))) ((equal_decides (take slot_size d) (slot (first_table d s))).complete r.told) in
    rw (le-leb (first_size d) (length s) r.there, r.allows, q)

allowed_cons : (t : Bytes) (m : Map) → allowed t ≡ true → AllAllowed m → AllAllowed (t ∷ m)
allowed_cons t m h f zero = h
allowed_cons t m h f (suc k) = f k

held_cons : (c : ℕ) (d s : Bytes) (m : Map) → Intact d s → Holds c (drop slot_size d) (drop (first_size d) s) m → Holds (suc c) d s (first_table d s ∷ m)
unfolding directory tables
held_cons c d s m r h =
    let t : Bytes = first_table d s in
    let n : length t ≡ first_size d = length-take-le (first_size d) s r.there in
    let a : slot_size * suc c ≡ slot_size + slot_size * c = omega arith in
    let w : total m + first_size d ≤ length s = omega (arith, r.there, h.within, length-drop (first_size d) s) in
    let b : length (t ++ tables m) ≡ first_size d + total m = omega (arith, n, length-append t (tables m)) in
    record {
      count = ap suc h.count;
      slots = ap (λ (x : ℕ). take x d) a ∙ take-add slot_size (slot_size * c) d ∙ ap (λ (x : Bytes). x ++ take (slot_size * c) (drop slot_size d)) r.told ∙ ap (λ (x : Bytes). slot t ++ x) h.slots;
      bytes = ap (λ (x : ℕ). take x s) b ∙ take-add (first_size d) (total m) s ∙ ap (λ (x : Bytes). t ++ x) h.bytes;
      within = omega arith;
      each = allowed_cons t m r.allows h.each;
    }

pub held_is : (c : ℕ) (d s : Bytes) (m : Map) → held c d s ≡ some m → Holds c d s m
unfolding held directory tables allowed
held_is zero d s m e =
    let n : [] ≡ m = cc in
    rw (← n) (record { count = refl; slots = refl; bytes = refl; within = omega arith; each = λ k. refl })
held_is (suc c) d s m e =
    let (b, (n, o, x)) = cons_is (intact d s) (first_table d s) _ m e in
    rw (← x) (held_cons c d s n (intact_is d s b) (held_is c _ _ n o))

-- ---- what is laid out is held

held_next : (c : ℕ) (d s : Bytes) (m : Map) → intact d s ≡ true → held c (drop slot_size d) (drop (first_size d) s) ≡ some m → held (suc c) d s ≡ some (first_table d s ∷ m)
unfolding held cons_if
held_next c d s m r e = rw (r, e)

module _ (t : Bytes) (m : Map) (x y : Bytes) (f : allowed t ≡ true) where
  abbrev d : Bytes
  d = slot t ++ (directory m ++ x)

  abbrev s : Bytes
  s = t ++ (tables m ++ y)

  takes : take slot_size d ≡ slot t
  takes = take_at (slot t) (directory m ++ x) slot_size (length_slot t)

  sized : first_size d ≡ length t
  sized = ap number_in (sym (take-take length_size slot_size d (omega arith)) ∙ ap (take length_size) takes ∙ slot_length t) ∙ number_little (length t) (omega (arith, allowed_short t f))

  here : first_table d s ≡ t
  here = ap (λ (n : ℕ). take n s) sized ∙ take_at t (tables m ++ y) (length t) refl

  ok : intact d s ≡ true
  ok = is_intact d s (record { there = omega (arith, sized, length-append t (tables m ++ y)); allows = ap allowed here ∙ f; told = takes ∙ ap slot (sym here) })

  cons_held : held (length m) (directory m ++ x) (tables m ++ y) ≡ some m → held (suc (length m)) d s ≡ some (t ∷ m)
  cons_held h = held_next (length m) d s m ok rest ∙ ap (λ (u : Bytes). some (u ∷ m)) here
    where
      rest : held (length m) (drop slot_size d) (drop (first_size d) s) ≡ some m
      rest = rw (drop_at (slot t) (directory m ++ x) slot_size (length_slot t), sized, drop_at t (tables m ++ y) (length t) refl) h

pub is_held : (m : Map) (x y : Bytes) → AllAllowed m → held (length m) (directory m ++ x) (tables m ++ y) ≡ some m
unfolding directory tables held
is_held [] x y f = refl
is_held (t ∷ m) x y f = rw (append_assoc (slot t) (directory m) x, append_assoc t (tables m) y) (cons_held t m x y (f 0) (is_held m x y (λ k. f (suc k))))
