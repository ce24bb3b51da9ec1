-- A repeat number may be cut to the label's length: the bodies beyond it are empty. Assumes nothing.
use mathlib.Core.Path.{refl, ap}
use mathlib.Core.Logic.{◌↔◌, ◌⊎◌, inl, inr, ⊎_elim}
use mathlib.Core.List.{[], ◌∷◌}
use mathlib.Core.Option.{Option, none, some}
use Prim.Native.Nat.{ℕ, zero, suc, ◌<◌, ◌≤◌, min, max}
use native.Mathlib.Decide.{le_ind}
use native.Mathlib.Omega.{arith}
use lib.ListN.{length, length-append}
use Rattle.pattern.specs.Bytes.{Bytes}
use Rattle.pattern.specs.Meaning.{Cut, Power, UpTo}
use Rattle.pattern.specs.Decision.{max_count}
use Rattle.pattern.proofs.Tests.{le_or_lt}

-- of k + 1 stretches of at most k bytes in all one is empty, and can go
shed : (P : Bytes → Type 0) (k : ℕ) (s : Bytes) → length s ≤ k → Power P (suc k) s → P [] × Power P k s
unfolding Power Cut
shed P zero s h ([], b, e, p, q) = (p, rw e q)
shed P zero s h (x ∷ a, b, e, p, q) = absurd (omega (arith, ap length e))
shed P (suc k) s h ([], b, e, p, q) = (p, rw e q)
shed P (suc k) s h (x ∷ a, b, e, p, q) =
    let (o, m) = shed P k b (omega (arith, simp length-append at (ap length e))) q in
    (o, (x ∷ a, b, e, p, m))

-- more empty stretches
power_grow : (P : Bytes → Type 0) (s : Bytes) → P [] → {n : ℕ} → Power P n s → (k : ℕ) → n ≤ k → Power P k s
unfolding Power Cut
power_grow P s p m = le_ind (λ k. Power P k s) m (λ k h q. ([], s, refl, p, q))

-- fewer empty stretches
shrink : (P : Bytes → Type 0) (s : Bytes) (n : ℕ) → length s ≤ n → (k : ℕ) → n ≤ k → Power P k s → Power P n s
shrink P s n h = le_ind (λ k. Power P k s → Power P n s) (λ m. m) (λ k g f m. f (shed P k s (omega arith) m).1)

-- k is at most K just when it is at most n and not above the high number
upto_max_count : (n : ℕ) (high : Option ℕ) (k : ℕ) → k ≤ max_count n high → UpTo high k
unfolding max_count UpTo
upto_max_count n none k h = tt
upto_max_count n (some m) k h = omega arith

max_count_upto : (n : ℕ) (high : Option ℕ) (k : ℕ) → k ≤ n → UpTo high k → k < suc (max_count n high)
unfolding max_count UpTo
max_count_upto n none k h u = omega arith
max_count_upto n (some m) k h u = omega arith

upto_less : (high : Option ℕ) (j k : ℕ) → UpTo high k → j ≤ k → UpTo high j
unfolding UpTo
upto_less none j k u h = tt
upto_less (some m) j k u h = omega arith

upto_max : (high : Option ℕ) (j k : ℕ) → UpTo high j → UpTo high k → UpTo high (max j k)
unfolding UpTo
upto_max none j k u v = tt
upto_max (some m) j k u v = omega arith

-- a stretch of at most n bytes is low to high bodies just when it is so with both numbers cut to n, and a body is empty where low is above n
pub few : (P : Bytes → Type 0) (low : ℕ) (high : Option ℕ) (n : ℕ) (s : Bytes) → UpTo high low → length s ≤ n
    → (((k : ℕ) × (k < suc (max_count n high)) × ((min low n ≤ k) × Power P k s)) × ((low ≤ n) ⊎ P [])) ↔ ((k : ℕ) × (low ≤ k) × UpTo high k × Power P k s)
few P low high n s o h = (
  λ ((k, f, (g, m)), c).
      let u : UpTo high k = upto_max_count n high k (omega arith) in
      ⊎_elim (λ v. (k, omega arith, u, m)) (λ p. (max low k, omega arith, upto_max high low k o u, power_grow P s p m (max low k) (omega arith))) c,
  λ (k, f, u, m).
      ⊎_elim (λ x. ((k, max_count_upto n high k x u, (omega arith, m)), inl (omega arith)))
      (λ x. let (p, q) = shed P n s h (shrink P s (suc n) (omega arith) k x m) in ((n, max_count_upto n high n (omega arith) (upto_less high n k u (omega arith)), (omega arith, q)), inr p))
      (le_or_lt k n),
)
