-- The text of parts, pair by pair of their bytes. Assumes nothing.
use mathlib.Core.Path.{◌≡◌, refl, ap, ◌∙◌}
use mathlib.Core.List.{[], ◌∷◌, ◌++◌}
use Prim.Native.Nat.{ℕ, ◌+◌, ◌*◌, ◌<◌}
use native.Mathlib.Omega.{arith}
use lib.ListN.{length, get_or}
use Rattle.pattern.specs.Numbers.{comma_byte}
use Rattle.pattern.specs.Bytes.{Bytes, numbers_in}
use Rattle.pattern.specs.Print.{decimal}
use Rattle.replies.specs.Text.{listed}
use Rattle.pattern.specs.Stores.{Puts}
use Rattle.pattern.proofs.Stores.{puts_then}

module _ (c : ℕ) where
  -- a number, and none
  listed_more : (pair rest : Bytes) → length pair ≡ 2 → listed c (numbers_in (pair ++ rest)) ≡ c ∷ decimal (get_or pair 0 0 + 256 * get_or pair 1 0) ++ listed comma_byte (numbers_in rest)
  unfolding listed numbers_in
  listed_more [] rest h = absurd (omega arith)
  listed_more (a ∷ []) rest h = absurd (omega arith)
  listed_more (a ∷ b ∷ []) rest h = refl
  listed_more (a ∷ b ∷ d ∷ s) rest h = absurd (omega arith)

  pub listed_none : (rest : Bytes) → length rest < 2 → listed c (numbers_in rest) ≡ []
  unfolding listed numbers_in
  listed_none [] h = refl
  listed_none (a ∷ []) h = refl
  listed_none (a ∷ b ∷ s) h = absurd (omega arith)

  -- an end stored before the rest
  pub listed_join : (pair rest : Bytes) {parts : Bytes} → parts ≡ pair ++ rest → length pair ≡ 2 → {l m n : Bytes} {e j k : ℕ}
      → Puts l e (c ∷ decimal (get_or pair 0 0 + 256 * get_or pair 1 0)) m j
      → Puts m j (listed comma_byte (numbers_in rest)) n k
      → Puts l e (listed c (numbers_in parts)) n k
  listed_join pair rest e h a b = rw (ap (λ s. listed c (numbers_in s)) e ∙ listed_more pair rest h) (puts_then a b)
