-- Bytes that move within others, one after the other. Assumes nothing.
use mathlib.Core.Path.{◌≡◌, refl, sym, ap, ◌∙◌}
use mathlib.Core.Logic.{◌⊎◌, inl, inr, ⊎_elim}
use mathlib.Core.List.{[], ◌∷◌}
use Prim.Native.Nat.{ℕ, suc, ◌+◌, ◌-◌, ◌≤◌, ◌<◌}
use native.Mathlib.Omega.{arith}
use lib.ListN.{length, get_or, take, drop, set, length-drop, drop_of_length-le}
use lib.Seq.{sets, get_or-set_other, length-take-le, get_or-take, get_or-drop}
use Rattle.pattern.specs.Bytes.{Bytes}
use Rattle.pattern.specs.Stores.{store_at}
use Rattle.pattern.proofs.Stores.{store_at_none, store_at_one, store_at_before, copied}
use Rattle.pattern.proofs.Pairs.{drop_one}

-- a byte that a store doesn't reach stays
pub elsewhere : (l : Bytes) (i : ℕ) (v : Bytes) (j : ℕ) → (j < i) ⊎ (i + length v ≤ j) → get_or (store_at l i v) j 0 ≡ get_or l j 0
unfolding store_at
elsewhere l i v j = go v l i
  where
    go : (v l : Bytes) (i : ℕ) → (j < i) ⊎ (i + length v ≤ j) → get_or (sets l i v) j 0 ≡ get_or l j 0
    go [] l i h = refl
    go (x ∷ v) l i h =
        go v (set l i x) (suc i) (⊎_elim (λ b. inl (omega arith)) (λ b. inr (omega arith)) h)
        ∙ get_or-set_other l i j x 0 (⊎_elim (λ b e. omega arith) (λ b e. omega arith) h)

-- n bytes at a place
abbrev moved : (l : Bytes) (from n : ℕ) → Bytes
moved l from n = take n (drop from l)

module _ (l : Bytes) (from n : ℕ) (h : from + n ≤ length l) where
  length_moved : length (moved l from n) ≡ n
  length_moved = length-take-le n (drop from l) (omega (arith, length-drop from l))

  moved_at : (i : ℕ) → i < n → get_or l (from + i) 0 ≡ get_or (moved l from n) i 0
  moved_at i k = sym (get_or-take n (drop from l) i 0 k ∙ get_or-drop from l i 0)

-- the first i bytes are moved
pub record Down (l : Bytes) (from n to : ℕ) (s : Bytes) (i : ℕ) : Type 0 where
  pub bytes : s ≡ store_at l to (take i (moved l from n))

pub down_start : (l : Bytes) (from n to : ℕ) → Down l from n to l 0
down_start l from n to = record { bytes = sym (store_at_none l to) }

module _ {l : Bytes} {from n to : ℕ} {s : Bytes} {i : ℕ} (d : Down l from n to s i) (h : from + n ≤ length l) where
  pub down_more : to ≤ from → i < n → Down l from n to (set s (to + i) (get_or s (from + i) 0)) (i + 1)
  down_more b k =
      let v : Bytes = take i (moved l from n) in
      let j : to + length v ≤ from + i = omega (arith, length-take-le i (moved l from n) (omega (arith, length_moved l from n h))) in
      let r : get_or s (from + i) 0 ≡ get_or (moved l from n) i 0 = ap (λ (x : Bytes). get_or x (from + i) 0) d.bytes ∙ elsewhere l to v (from + i) (inr j) ∙ moved_at l from n h i k in
      record {
        bytes = ap (set s (to + i)) r ∙ ap (λ (x : Bytes). set x (to + i) (get_or (moved l from n) i 0)) d.bytes ∙ copied l (moved l from n) to i (omega (arith, length_moved l from n h));
      }

-- the bytes from i on are moved
pub record Up (l : Bytes) (from n to : ℕ) (s : Bytes) (i : ℕ) : Type 0 where
  pub bytes : s ≡ store_at l (to + i) (drop i (moved l from n))

pub up_start : (l : Bytes) (from n to : ℕ) → from + n ≤ length l → Up l from n to l n
up_start l from n to h = record { bytes = rw (drop_of_length-le (moved l from n) {i = n} (omega (arith, length_moved l from n h))) (sym (store_at_none l (to + n))) }

module _ {l : Bytes} {from n to : ℕ} {s : Bytes} {i : ℕ} (u : Up l from n to s i) where
  pub up_more : from + n ≤ length l → from ≤ to → 0 < i → i ≤ n → Up l from n to (set s (to + (i - 1)) (get_or s (from + (i - 1)) 0)) (i - 1)
  up_more h b k m =
      let j : ℕ = i - 1 in
      let e : i ≡ j + 1 = omega arith in
      let v : Bytes = moved l from n in
      let x : ℕ = get_or v j 0 in
      let w : Bytes = drop (j + 1) v in
      let y : s ≡ store_at l (to + (j + 1)) w = u.bytes ∙ ap (λ m. store_at l (to + m) (drop m v)) e in
      let r : get_or s (from + j) 0 ≡ x = ap (λ (z : Bytes). get_or z (from + j) 0) y ∙ elsewhere l (to + (j + 1)) w (from + j) (inl (omega arith)) ∙ moved_at l from n h j (omega arith) in
      record {
        bytes = ap (set s (to + j)) r ∙ ap (λ (z : Bytes). set z (to + j) x) y ∙ sym (store_at_one (store_at l (to + (j + 1)) w) (to + j) x)
            ∙ store_at_before l (to + j) (to + (j + 1)) (x ∷ []) w (omega arith) ∙ ap (store_at l (to + j)) (sym (drop_one v j (omega (arith, length_moved l from n h))));
      }
