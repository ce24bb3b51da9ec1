-- Stores one after the other, and what they come to. Assumes nothing.
use mathlib.Core.Path.{◌≡◌, refl, sym, ap, ◌∙◌}
use mathlib.Core.List.{[], ◌∷◌, ◌++◌}
use Prim.Native.Nat.{ℕ, zero, suc, ◌+◌, ◌-◌, max, ◌≤◌, ◌<◌}
use native.Mathlib.Nat.{zero-max, max-zero, suc-max-suc}
use native.Mathlib.Omega.{arith}
use native.Mathlib.Numerals.{add-one}
use lib.ListN.{length, set, get_or, take, drop, replicate, length-append, length-drop, length-replicate, take-append-drop}
use lib.Seq.{sets, length-sets, sets-eq, set_comm, take-suc, take_at, drop_at, drop-drop, length-take-le}
use Rattle.pattern.specs.Bytes.{Bytes, overwrite, zeroed}
use Rattle.pattern.specs.Stores.{store_at, Puts}

pub length_store_at : (l : Bytes) (i : ℕ) (v : Bytes) → length (store_at l i v) ≡ length l
unfolding store_at
length_store_at l i v = length-sets l i v

pub store_at_none : (l : Bytes) (i : ℕ) → store_at l i [] ≡ l
unfolding store_at
store_at_none l i = refl

pub store_at_one : (l : Bytes) (i x : ℕ) → store_at l i (x ∷ []) ≡ set l i x
unfolding store_at
store_at_one l i x = refl

pub store_at_two : (l : Bytes) (i x y : ℕ) → store_at l i (x ∷ y ∷ []) ≡ set (set l i x) (i + 1) y
unfolding store_at
store_at_two l i x y = rw add-one

-- a byte before others
pub store_at_first : (l : Bytes) (i x : ℕ) (v : Bytes) → store_at l i (x ∷ v) ≡ store_at (set l i x) (i + 1) v
unfolding store_at
store_at_first l i x v = rw add-one

sets_sets : (l : Bytes) (i : ℕ) (v w : Bytes) → sets (sets l i v) (i + length v) w ≡ sets l i (v ++ w)
sets_sets l i [] w = let e : i + 0 ≡ i = omega arith in rw e
sets_sets l i (x ∷ v) w =
    let e : i + suc (length v) ≡ suc i + length v = omega arith in
    rw e (sets_sets (set l i x) (suc i) v w)

-- a store where another one ends
pub store_at_then : (l : Bytes) (i j : ℕ) (v w : Bytes) → j ≡ i + length v → store_at (store_at l i v) j w ≡ store_at l i (v ++ w)
unfolding store_at
store_at_then l i j v w e = rw e (sets_sets l i v w)

set_sets : (l : Bytes) (i j x : ℕ) (w : Bytes) → i < j → set (sets l j w) i x ≡ sets (set l i x) j w
set_sets l i j x [] h = refl
set_sets l i j x (y ∷ w) h = set_sets (set l j y) i (suc j) x w (omega arith) ∙ ap (λ (m : Bytes). sets m (suc j) w) (set_comm l j i y x (λ e. omega arith))

sets_before : (l : Bytes) (i j : ℕ) (v w : Bytes) → i + length v ≤ j → sets (sets l j w) i v ≡ sets (sets l i v) j w
sets_before l i j [] w h = refl
sets_before l i j (x ∷ v) w h = ap (λ (m : Bytes). sets m (suc i) v) (set_sets l i j x w (omega arith)) ∙ sets_before (set l i x) (suc i) j v w (omega arith)

-- a store that ends where one made before begins
pub store_at_before : (l : Bytes) (i j : ℕ) (v w : Bytes) → j ≡ i + length v → store_at (store_at l j w) i v ≡ store_at l i (v ++ w)
unfolding store_at
store_at_before l i j v w e = rw e (sets_before l i (i + length v) v w (omega arith) ∙ sets_sets l i v w)

-- one byte more
pub store_at_more : (l : Bytes) (i j x : ℕ) (v : Bytes) → j ≡ i + length v → set (store_at l i v) j x ≡ store_at l i (v ++ x ∷ [])
store_at_more l i j x v e = sym (store_at_one (store_at l i v) j x) ∙ store_at_then l i j v (x ∷ []) e

-- the last byte may be stored first
pub store_at_last : (l : Bytes) (i x : ℕ) (v : Bytes) → store_at l i (v ++ x ∷ []) ≡ store_at (set l (i + length v) x) i v
store_at_last l i x v = sym (store_at_before l i (i + length v) v (x ∷ []) refl) ∙ ap (λ (m : Bytes). store_at m i v) (store_at_one l (i + length v) x)

-- ---- a result over lent bytes

-- bytes that are the same from a place on are so from a later one
pub same_after : (s t : Bytes) (i j : ℕ) → i ≤ j → drop i s ≡ drop i t → drop j s ≡ drop j t
same_after s t i j h e = sym (on s) ∙ ap (drop (j - i)) e ∙ on t
  where
    on : (u : Bytes) → drop (j - i) (drop i u) ≡ drop j u
    on u = let k : i + (j - i) ≡ j = omega arith in drop-drop (j - i) i u ∙ ap (λ n. drop n u) k

-- bytes are the first of them over others that are the same past those
pub overwrite_same : (n : ℕ) (s t : Bytes) → n ≤ length s → drop n s ≡ drop n t → s ≡ overwrite (take n s) t
unfolding overwrite
overwrite_same n s t h e = sym (take-append-drop n s) ∙ ap (λ (v : Bytes). take n s ++ v) e ∙ ap (λ k. take n s ++ drop k t) (sym (length-take-le n s h))

pub length_overwrite : (v l : Bytes) → length v ≤ length l → length (overwrite v l) ≡ length l
unfolding overwrite
length_overwrite v l h = omega (arith, length-append v (drop (length v) l), length-drop (length v) l)

pub length_zeroed : (n : ℕ) (l : Bytes) → n ≤ length l → length (zeroed n l) ≡ length l
length_zeroed n l h = omega (arith, length-append (replicate n 0) (drop n l), length-replicate {A = ℕ} n 0, length-drop n l)

-- zeros twice over
pub zeroed_twice : (n k : ℕ) (l : Bytes) → k ≤ length l → zeroed n (zeroed k l) ≡ zeroed (max n k) l
zeroed_twice zero k l h = ap (λ m. zeroed m l) (sym (zero-max k))
zeroed_twice (suc n) zero l h = ap (λ m. zeroed m l) (sym (max-zero (suc n)))
zeroed_twice (suc n) (suc k) [] h = absurd (omega arith)
zeroed_twice (suc n) (suc k) (x ∷ l) h = ap (λ (v : Bytes). 0 ∷ v) (zeroed_twice n k l (omega arith)) ∙ ap (λ m. zeroed m (x ∷ l)) (sym (suc-max-suc n k))

pub take_overwrite : (v s : Bytes) → take (length v) (overwrite v s) ≡ v
unfolding overwrite
take_overwrite v s = take_at v (drop (length v) s) (length v) refl

pub drop_overwrite : (n : ℕ) (v s : Bytes) → length v ≤ n → drop n (overwrite v s) ≡ drop n s
unfolding overwrite
drop_overwrite n v s h = same_after (overwrite v s) s (length v) n h (drop_at v (drop (length v) s) (length v) refl)

-- what is stored from the start is over the bytes that were there
pub store_at_overwrite : (l v : Bytes) → length v ≤ length l → store_at l 0 v ≡ overwrite v l
unfolding store_at overwrite
store_at_overwrite l v h = sets-eq v l 0 (omega arith) ∙ let e : 0 + length v ≡ length v = omega arith in rw e

-- a byte copied after others
pub copied : (to from : Bytes) (at i : ℕ) → i < length from → set (store_at to at (take i from)) (at + i) (get_or from i 0) ≡ store_at to at (take (i + 1) from)
copied to from at i h =
    let n : length (take i from) ≡ i = length-take-le i from (omega arith) in
    rw (add-one, take-suc from i 0) (store_at_more to at (at + i) (get_or from i 0) (take i from) (omega arith))

-- ---- stores with the places after them

pub puts_none : (l : Bytes) (n : ℕ) → Puts l n [] l n
puts_none l n = record { bytes = sym (store_at_none l n); next = omega arith }

pub puts_byte : (l : Bytes) (n b : ℕ) → Puts l n (b ∷ []) (set l n b) (n + 1)
puts_byte l n b = record { bytes = sym (store_at_one l n b); next = refl }

module _ {l : Bytes} {n : ℕ} {u l' : Bytes} {m : ℕ} (h : Puts l n u l' m) where
  -- then more, where the first ended
  pub puts_then : {v l'' : Bytes} {k : ℕ} → Puts l' m v l'' k → Puts l n (u ++ v) l'' k
  puts_then {v} g =
      record {
        bytes = g.bytes ∙ ap (λ (x : Bytes). store_at x m v) h.bytes ∙ store_at_then l n m u v h.next;
        next = omega (arith, g.next, h.next, length-append u v);
      }

  -- then a byte
  pub puts_more : (b : ℕ) → Puts l n (u ++ b ∷ []) (set l' m b) (m + 1)
  puts_more b = puts_then (puts_byte l' m b)

  pub puts_length : length l' ≡ length l
  puts_length = ap length h.bytes ∙ length_store_at l n u

  -- the room that is left
  pub puts_room : (v : Bytes) → n + length (u ++ v) ≤ length l → m + length v ≤ length l'
  puts_room v r = omega (arith, r, length-append u v, h.next, puts_length)

  pub puts_as : {v : Bytes} → u ≡ v → Puts l n v l' m
  puts_as e = record { bytes = h.bytes ∙ ap (store_at l n) e; next = h.next ∙ ap (λ (x : Bytes). n + length x) e }
