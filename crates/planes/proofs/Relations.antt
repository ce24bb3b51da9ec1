-- Relations that agree on all stretches have the same joins, found in as many trials. Assumes nothing.
use mathlib.Core.Path.{◌≡◌, refl}
use mathlib.Core.Bool.{Bool}
use Prim.Native.Nat.{ℕ, zero, suc, ◌+◌, ◌-◌, ◌≤◌, ◌<◌}
use native.Mathlib.Omega.{arith}
use Rattle.pattern.specs.Decision.{Rel, any, trial, join, power}
use Rattle.pattern.specs.Trials.{tries, sum, column_trials, joins}
use Rattle.planes.proofs.Planes.{Same}

module _ (p q : ℕ → Bool) where
  pub any_same : (c : ℕ) → ((d : ℕ) → d < c → p d ≡ q d) → any c p ≡ any c q
  unfolding any
  any_same zero h = refl
  any_same (suc c) h = rw (h c (omega arith), any_same c (λ d l. h d (omega arith)))

  pub tries_same : (c : ℕ) → ((d : ℕ) → d < c → p d ≡ q d) → tries c p ≡ tries c q
  unfolding tries
  tries_same zero h = refl
  tries_same (suc c) h = rw (h c (omega arith), tries_same c (λ d l. h d (omega arith)))

pub sum_same : (c : ℕ) (f g : ℕ → ℕ) → ((k : ℕ) → k < c → f k ≡ g k) → sum c f ≡ sum c g
unfolding sum
sum_same zero f g h = refl
sum_same (suc c) f g h = rw (h c (omega arith), sum_same c f g (λ k l. h k (omega arith)))

module _ (w : ℕ) (L L' R R' : Rel) (l : Same w L L') (r : Same w R R') where
  pub trial_same : (i j : ℕ) → i ≤ j → j < w → (d : ℕ) → d < suc j - i → trial L R i j d ≡ trial L' R' i j d
  unfolding trial
  trial_same i j hi hj d hd = rw (l i (i + d) (omega arith) (omega arith), r (i + d) j (omega arith) hj)

  pub join_same : Same w (join L R) (join L' R')
  unfolding join
  join_same i j hi hj = any_same _ _ (suc j - i) (trial_same i j hi hj)

  pub column_same : (j : ℕ) → j < w → column_trials L R j ≡ column_trials L' R' j
  unfolding column_trials
  column_same j hj = sum_same (suc j) _ _ (λ i h. tries_same _ _ (suc j - i) (trial_same i j (omega arith) hj))

  pub joins_same : joins w L R ≡ joins w L' R'
  unfolding joins
  joins_same = sum_same w _ _ column_same

pub power_same : (w : ℕ) (R S : Rel) → Same w R S → (k : ℕ) → Same w (power R k) (power S k)
unfolding power
power_same w R S h zero i j hi hj = refl
power_same w R S h (suc k) i j hi hj = join_same w R S (power R k) (power S k) h (power_same w R S h k) i j hi hj
