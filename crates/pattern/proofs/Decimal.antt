-- Laws of numbers in decimal. Assumes nothing.
use mathlib.Core.Path.{◌≡◌, refl, sym, ap, ◌∙◌}
use mathlib.Core.Logic.{⊎_elim}
use mathlib.Core.List.{[], ◌∷◌, ◌++◌}
use Prim.Native.Nat.{ℕ, zero, suc, ◌+◌, ◌*◌, ◌/◌, ◌%◌, ◌^◌, ◌≤◌, ◌<◌}
use native.Mathlib.Nat.{pow-suc, div-lt_iff_lt-mul}
use native.Mathlib.Omega.{arith}
use lib.ListN.{length, length-append}
use borrow.Author.Tests.{lt-ltb, le-ltb}
use Rattle.pattern.specs.Numbers.{zero_byte}
use Rattle.pattern.specs.Bytes.{Bytes}
use Rattle.pattern.specs.Print.{decimal_of, decimal}
use Rattle.pattern.proofs.Tests.{if_true, if_false, le_or_lt}

-- one digit, and more than one
one_digit : (f n : ℕ) → n < 10 → decimal_of f n ≡ (zero_byte + n) ∷ []
unfolding decimal_of
one_digit zero n h = refl
one_digit (suc f) n h = if_true _ _ _ (lt-ltb n 10 h)

more_digits : (f n : ℕ) → 10 ≤ n → decimal_of (suc f) n ≡ decimal_of f (n / 10) ++ (zero_byte + n % 10) ∷ []
unfolding decimal_of
more_digits f n h = if_false _ _ _ (le-ltb n 10 h)

-- the largest number of f + 1 digits
unfoldable pub most : ℕ → ℕ
most zero = 9
most (suc f) = 10 * most f + 9

pub le_most : (f : ℕ) → f ≤ most f
unfolding most
le_most zero = omega arith
le_most (suc f) = omega (arith, le_most f)

-- how many digits are allowed does not matter where they are enough
enough : (f g n : ℕ) → n ≤ most f → n ≤ most g → decimal_of f n ≡ decimal_of g n
unfolding most
enough zero g n h k = one_digit zero n (omega arith) ∙ sym (one_digit g n (omega arith))
enough (suc f) zero n h k = one_digit (suc f) n (omega arith) ∙ sym (one_digit zero n (omega arith))
enough (suc f) (suc g) n h k =
    ⊎_elim
    (λ l. more_digits f n l ∙ ap (λ (v : Bytes). v ++ (zero_byte + n % 10) ∷ []) (enough f g (n / 10) (omega arith) (omega arith)) ∙ sym (more_digits g n l))
    (λ l. one_digit (suc f) n l ∙ sym (one_digit (suc g) n l))
    (le_or_lt 10 n)

pub decimal_one : (n : ℕ) → n < 10 → decimal n ≡ (zero_byte + n) ∷ []
unfolding decimal
decimal_one n h = one_digit n n h

pub decimal_more : (n : ℕ) → 10 ≤ n → decimal n ≡ decimal (n / 10) ++ (zero_byte + n % 10) ∷ []
unfolding decimal
decimal_more zero h = absurd (omega arith)
decimal_more (suc f) h = more_digits f (suc f) h ∙ ap (λ (v : Bytes). v ++ (zero_byte + suc f % 10) ∷ []) (enough f (suc f / 10) (suc f / 10) (omega (arith, le_most f)) (le_most (suc f / 10)))

pub decimal_longer : (n : ℕ) → 10 ≤ n → length (decimal n) ≡ length (decimal (n / 10)) + 1
decimal_longer n h = ap length (decimal_more n h) ∙ length-append (decimal (n / 10)) _

-- how many digits a number of two, three and four digits has, and how many more than that without its last four
pub two_digits : (n : ℕ) → 10 ≤ n → n < 100 → length (decimal n) ≡ 2
two_digits n h k = omega (arith, decimal_longer n h, ap length (decimal_one (n / 10) (omega arith)))

pub three_digits : (n : ℕ) → 100 ≤ n → n < 1000 → length (decimal n) ≡ 3
three_digits n h k = omega (arith, decimal_longer n (omega arith), two_digits (n / 10) (omega arith) (omega arith))

pub four_digits : (n : ℕ) → 1000 ≤ n → n < 10000 → length (decimal n) ≡ 4
four_digits n h k = omega (arith, decimal_longer n (omega arith), three_digits (n / 10) (omega arith) (omega arith))

pub four_longer : (n : ℕ) → 10000 ≤ n → length (decimal n) ≡ length (decimal (n / 10000)) + 4
four_longer n h =
    let e : n / 10 / 10 / 10 / 10 ≡ n / 10000 = omega arith in
    omega (
      arith,
      decimal_longer n (omega arith),
      decimal_longer (n / 10) (omega arith),
      decimal_longer (n / 10 / 10) (omega arith),
      decimal_longer (n / 10 / 10 / 10) (omega arith),
      ap (λ (k : ℕ). length (decimal k)) e,
    )

-- a number below a power of ten has no more digits
pub decimal_short : (k n : ℕ) → n < 10 ^ suc k → length (decimal n) ≤ suc k
decimal_short zero n h = omega (arith, ap length (decimal_one n h))
decimal_short (suc k) n h =
    ⊎_elim
    (λ l. let d : n / 10 < 10 ^ suc k = (div-lt_iff_lt-mul (omega arith)).1 (rw pow-suc at h) in omega (arith, decimal_longer n l, decimal_short k (n / 10) d))
    (λ l. omega (arith, ap length (decimal_one n l)))
    (le_or_lt 10 n)
