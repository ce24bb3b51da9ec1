-- Sets of bytes as words of 64 bits. Assumes nothing.
use mathlib.Core.Path.{◌≡◌, refl, sym, ap, ap₂, ◌∙◌}
use mathlib.Core.Bool.{Bool, true, false, cond, ◌||◌}
use Prim.Native.Nat.{ℕ, zero, suc, ◌+◌, ◌*◌, ◌/◌, ◌%◌, ◌^◌, ◌≤◌, ◌<◌, max}
use native.Mathlib.Nat.{pow-suc, mod-eq_of_lt}
use native.Mathlib.Omega.{arith}
use lib.Bits.{bit_or, or_step}
use lib.Dec.{leb, leb→le, eqb}
use borrow.Author.Tests.{eq-eqb, ne_eqb}
use Rattle.pattern.proofs.Tests.{all, all_at}
use Rattle.summary.specs.Summary.{bits}
use Rattle.summary.specs.Packing.{word_of}

pub bits_same : (n : ℕ) (f g : ℕ → Bool) → ((j : ℕ) → j < n → f j ≡ g j) → bits n f ≡ bits n g
unfolding bits
bits_same zero f g h = refl
bits_same (suc n) f g h = ap₂ (λ (x : Bool) (y : ℕ). cond x 1 0 + 2 * y) (h 0 (omega arith)) (bits_same n _ _ (λ j l. h (suc j) (omega arith)))

pub bits_none : (n : ℕ) (f : ℕ → Bool) → ((j : ℕ) → j < n → f j ≡ false) → bits n f ≡ 0
unfolding bits
bits_none zero f h = refl
bits_none (suc n) f h = rw (h 0 (omega arith)) (omega (arith, bits_none n (λ j. f (suc j)) (λ j l. h (suc j) (omega arith))))

-- 0 has no bit set
pub bits_zero : (n : ℕ) (f : ℕ → Bool) → bits n f ≡ 0 → (j : ℕ) → j < n → f j ≡ false
unfolding bits
bits_zero zero f e j l = absurd (omega arith)
bits_zero (suc n) f e zero l = go (f 0) (omega arith)
  where
    go : (b : Bool) → ◌≡◌ {A = ℕ} (cond b 1 0) 0 → b ≡ false
    go true z = absurd (omega arith)
    go false z = refl
bits_zero (suc n) f e (suc j) l = bits_zero n (λ j. f (suc j)) (omega arith) j (omega arith)

digit_or : (x y : Bool) → max (cond x 1 0) (cond y 1 0) ≡ cond (x || y) 1 0
digit_or true true = refl
digit_or true false = refl
digit_or false true = refl
digit_or false false = refl

pub digit_small : (x : Bool) → cond x 1 0 < 2
digit_small true = omega arith
digit_small false = omega arith

or_digits : (x y p q : ℕ) → x < 2 → y < 2 → bit_or (x + 2 * p) (y + 2 * q) ≡ max x y + 2 * bit_or p q
or_digits x y p q h k =
    let e : (x + 2 * p) / 2 ≡ p = omega arith in
    let f : (y + 2 * q) / 2 ≡ q = omega arith in
    let g : (x + 2 * p) % 2 ≡ x = omega arith in
    let i : (y + 2 * q) % 2 ≡ y = omega arith in
    let z : bit_or ((x + 2 * p) / 2) ((y + 2 * q) / 2) ≡ bit_or p q = ap₂ bit_or e f in
    omega (arith, or_step (x + 2 * p) (y + 2 * q), z)

-- the bits of a union
pub bits_or : (n : ℕ) (f g : ℕ → Bool) → bits n (λ j. f j || g j) ≡ bit_or (bits n f) (bits n g)
unfolding bits
bits_or zero f g = refl
bits_or (suc n) f g =
    sym (or_digits (cond (f 0) 1 0) (cond (g 0) 1 0) _ _ (digit_small (f 0)) (digit_small (g 0))
    ∙ ap₂ (λ (x y : ℕ). x + 2 * y) (digit_or (f 0) (g 0)) (sym (bits_or n (λ j. f (suc j)) (λ j. g (suc j)))))

-- the bits of one number
pub bits_one : (n a c d : ℕ) → a ≡ c + d → d < n → bits n (λ j. eqb a (c + j)) ≡ 2 ^ d
unfolding bits
bits_one zero a c d e l = absurd (omega arith)
bits_one (suc n) a c zero e l =
    rw (eq-eqb a (c + 0) (omega arith)) (omega (arith, bits_none n (λ j. eqb a (c + suc j)) (λ j k. ne_eqb a (c + suc j) (λ z. omega arith))))
bits_one (suc n) a c (suc d) e l =
    let w : bits n (λ j. eqb a (c + suc j)) ≡ bits n (λ j. eqb a (suc c + j)) =
    bits_same n _ _ (λ j k. ap (λ (z : ℕ). eqb a z) (omega arith)) in
    rw (ne_eqb a (c + 0) (λ z. omega arith)) (omega (arith, w, bits_one n a (suc c) d (omega arith) (omega arith), pow-suc 2 d))

module _ (i : ℕ) where
  pub word_same : (f g : ℕ → Bool) → ((b : ℕ) → f b ≡ g b) → word_of f i ≡ word_of g i
  unfolding word_of
  word_same f g h = bits_same 64 _ _ (λ j l. h (64 * i + j))

  pub word_none : word_of (λ b. false) i ≡ 0
  unfolding word_of
  word_none = bits_none 64 _ (λ j l. refl)

  pub word_or : (f g : ℕ → Bool) → word_of (λ b. f b || g b) i ≡ bit_or (word_of f i) (word_of g i)
  unfolding word_of
  word_or f g = bits_or 64 _ _

  pub word_here : (a : ℕ) → a / 64 ≡ i → word_of (eqb a) i ≡ 2 ^ (a % 64)
  unfolding word_of
  word_here a e = bits_one 64 a (64 * i) (a % 64) (omega arith) (omega arith)

  pub word_there : (a : ℕ) → ¬ (a / 64 ≡ i) → word_of (eqb a) i ≡ 0
  unfolding word_of
  word_there a n = bits_none 64 _ (λ j l. ne_eqb a (64 * i + j) (λ e. n (omega arith)))

  pub word_zero : (f : ℕ → Bool) → word_of f i ≡ 0 → (b : ℕ) → b / 64 ≡ i → f b ≡ false
  unfolding word_of
  word_zero f e b q = let z : 64 * i + b % 64 ≡ b = omega arith in ap f (sym z) ∙ bits_zero 64 _ e (b % 64) (omega arith)

power_small : (k : ℕ) → k < 64 → 2 ^ k < 2 ^ 64
unfolding all
power_small k h = let l : 2 ^ k ≤ 2 ^ 63 = leb→le _ _ (all_at 64 (λ k. leb (2 ^ k) (2 ^ 63)) tt k h) in omega arith

-- the word of one byte, as a shift makes it
pub shift_word : (a i : ℕ) → a / 64 ≡ i → 1 * 2 ^ (a % 64) % 18446744073709551616 ≡ word_of (eqb a) i
shift_word a i e =
    let z : 1 * 2 ^ (a % 64) ≡ 2 ^ (a % 64) = omega arith in
    ap (λ (x : ℕ). x % 18446744073709551616) z ∙ mod-eq_of_lt (power_small (a % 64) (omega arith)) ∙ sym (word_here i a e)
