-- A number's digits stored from the last to the first. Assumes nothing.
use mathlib.Core.Path.{◌≡◌, sym, ap, ◌∙◌}
use Prim.Native.Nat.{ℕ, ◌+◌, ◌-◌, ◌/◌, ◌%◌, ◌≤◌, ◌<◌}
use native.Mathlib.Omega.{arith}
use lib.ListN.{length, set}
use Rattle.pattern.specs.Numbers.{zero_byte}
use Rattle.pattern.specs.Bytes.{Bytes}
use Rattle.pattern.specs.Print.{decimal}
use Rattle.pattern.specs.Stores.{store_at}
use Rattle.pattern.proofs.Stores.{store_at_last, store_at_one}
use Rattle.pattern.proofs.Decimal.{decimal_one, decimal_more, decimal_longer}

module _ (out : Bytes) (at n : ℕ) where
  -- the last of several digits, at the end of the number less one
  pub last_digit : (o : ℕ) → 10 ≤ n → o ≡ at + length (decimal n) → store_at (set out (o - 1) (zero_byte + n % 10)) at (decimal (n / 10)) ≡ store_at out at (decimal n)
  last_digit o h e =
      let d : at + length (decimal (n / 10)) ≡ o - 1 = omega (arith, decimal_longer n h) in
      sym (ap (store_at out at) (decimal_more n h) ∙ store_at_last out at _ (decimal (n / 10)) ∙ ap (λ i. store_at (set out i (zero_byte + n % 10)) at (decimal (n / 10))) d)

  -- the only digit
  only_digit : n < 10 → set out at (zero_byte + n) ≡ store_at out at (decimal n)
  only_digit h = sym (ap (store_at out at) (decimal_one n h) ∙ store_at_one out at _)

-- the digits of x from place o on are stored, and n is what is left: its digits come before o
pub record Stored (l : Bytes) (at x : ℕ) (out : Bytes) (n o : ℕ) : Type 0 where
  pub place : o ≡ at + length (decimal n)
  pub within : length (decimal n) ≤ length (decimal x)
  pub bytes : store_at out at (decimal n) ≡ store_at l at (decimal x)

module _ {l : Bytes} {at x : ℕ} {out : Bytes} {n o : ℕ} (s : Stored l at x out n o) where
  pub stored_more : 10 ≤ n → Stored l at x (set out (o - 1) (zero_byte + n % 10)) (n / 10) (o - 1)
  stored_more h = record { place = omega (arith, decimal_longer n h, s.place); within = omega (arith, decimal_longer n h, s.within); bytes = last_digit out at n o h s.place ∙ s.bytes }

  pub stored_all : n < 10 → set out at (zero_byte + n) ≡ store_at l at (decimal x)
  stored_all h = only_digit out at n h ∙ s.bytes
