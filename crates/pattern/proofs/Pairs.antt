-- Numbers of two bytes each, from a place in bytes on. Assumes nothing.
use mathlib.Core.Path.{◌≡◌, refl, sym, ap, ◌∙◌}
use mathlib.Core.List.{[], ◌∷◌}
use Prim.Native.Nat.{ℕ, zero, suc, ◌+◌, ◌*◌, ◌/◌, ◌≤◌, ◌<◌}
use native.Mathlib.Omega.{arith}
use native.Mathlib.Numerals.{add-one}
use lib.ListN.{length, get_or, drop, length-drop}
use lib.Seq.{drop-cons}
use Rattle.pattern.specs.Bytes.{Bytes, numbers_in}
use Rattle.pattern.specs.Decode.{field}

-- a list from a place on: a byte and then others
pub drop_one : (s : Bytes) (i : ℕ) → i < length s → drop i s ≡ get_or s i 0 ∷ drop (i + 1) s
drop_one s i h = rw (add-one, drop-cons s i 0)

numbers_few : (s : Bytes) → length s ≤ 1 → numbers_in s ≡ []
unfolding numbers_in
numbers_few [] h = refl
numbers_few (a ∷ []) h = refl
numbers_few (a ∷ b ∷ s) h = absurd (omega arith)

module _ (s : Bytes) (i : ℕ) where
  drop_two : i + 1 < length s → drop i s ≡ get_or s i 0 ∷ get_or s (i + 1) 0 ∷ drop (i + 2) s
  drop_two h =
      let e : i + 1 + 1 ≡ i + 2 = omega arith in
      drop_one s i (omega arith) ∙ ap (λ v. get_or s i 0 ∷ v) (drop_one s (i + 1) h) ∙ ap (λ k. get_or s i 0 ∷ get_or s (i + 1) 0 ∷ drop k s) e

  -- a number and then others, and none
  pub numbers_more : i + 1 < length s → numbers_in (drop i s) ≡ field s i ∷ numbers_in (drop (i + 2) s)
  unfolding numbers_in
  numbers_more h = ap numbers_in (drop_two h)

  pub numbers_none : length s ≤ i + 1 → numbers_in (drop i s) ≡ []
  numbers_none h = numbers_few (drop i s) (omega (arith, length-drop i s))

-- how many they are, and each
pub numbers_length : (s : Bytes) → length (numbers_in s) ≡ length s / 2
unfolding numbers_in
numbers_length [] = refl
numbers_length (a ∷ []) = refl
numbers_length (a ∷ b ∷ s) = omega (arith, numbers_length s)

field_later : (a b : ℕ) (s : Bytes) (i : ℕ) → field (a ∷ b ∷ s) (suc (suc i)) ≡ field s i
field_later a b s i = let e : suc (suc i) + 1 ≡ suc (suc (i + 1)) = omega arith in ap (λ k. get_or s i 0 + 256 * get_or (a ∷ b ∷ s) k 0) e

pub numbers_at : (s : Bytes) (k : ℕ) → k < length s / 2 → get_or (numbers_in s) k 0 ≡ field s (2 * k)
unfolding numbers_in
numbers_at [] k h = absurd (omega arith)
numbers_at (a ∷ []) k h = absurd (omega arith)
numbers_at (a ∷ b ∷ s) zero h = refl
numbers_at (a ∷ b ∷ s) (suc k) h = let e : 2 * suc k ≡ suc (suc (2 * k)) = omega arith in numbers_at s k (omega arith) ∙ sym (field_later a b s (2 * k)) ∙ ap (field (a ∷ b ∷ s)) (sym e)
