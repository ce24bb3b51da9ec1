-- A loop whose turns make trials against a budget, in plain numbers: turn k makes f k of them, and the loop stops where the budget runs out. Assumes nothing.
use mathlib.Core.Path.{◌≡◌, refl, ◌∙◌}
use mathlib.Core.Logic.{⊎_elim}
use Prim.Native.Nat.{ℕ, zero, suc, ◌+◌, ◌≤◌, ◌<◌}
use native.Mathlib.Nat.{eq-or-lt_of_le, le_of_suc-le-suc}
use native.Mathlib.Numerals.{add-one}
use native.Mathlib.Omega.{arith}
use Rattle.std.specs.Prelude.{Option, Some, None}
use Rattle.planes.specs.declared.budget.Budget.{Budget}
use Rattle.pattern.specs.Trials.{sum}
use Rattle.planes.specs.Budget.{Counted}

sum_none : (f : ℕ → ℕ) → sum 0 f ≡ 0
unfolding sum
sum_none f = refl

sum_more : (f : ℕ → ℕ) (n : ℕ) → sum (n + 1) f ≡ sum n f + f n
unfolding sum
sum_more f n = rw add-one

sum_up : (f : ℕ → ℕ) (m n : ℕ) → m ≤ n → sum m f ≤ sum n f
unfolding sum
sum_up f m zero h = let e : m ≡ 0 = omega arith in rw e (omega arith)
sum_up f m (suc n) h = ⊎_elim (λ e. rw e (omega arith)) (λ l. omega (arith, sum_up f m n (le_of_suc-le-suc l))) (eq-or-lt_of_le h)

-- so far the trials are those of the turns before k
pub record Counting (f : ℕ → ℕ) (n limit trials spent k : ℕ) : Type 0 where
  pub below : k ≤ n
  pub within : spent ≤ limit
  pub count : spent ≡ trials + sum k f

module _ (f : ℕ → ℕ) (n limit trials : ℕ) where
  pub count_start : trials ≤ limit → Counting f n limit trials trials 0
  count_start h = record { below = omega arith; within = h; count = omega (arith, sum_none f) }

  module _ (spent k : ℕ) (inv : Counting f n limit trials spent k) where
    pub count_end : n ≤ k → spent ≡ trials + sum n f
    count_end h = let e : k ≡ n = omega (arith, inv.below) in rw e at inv.count

    -- turn k makes g trials, which is f k
    module _ (more : k < n) (g : ℕ) (same : g ≡ f k) where
      pub count_step : (t : ℕ) → t ≤ limit → t ≡ spent + g → Counting f n limit trials t (k + 1)
      count_step t within count = record { below = omega arith; within = within; count = omega (arith, sum_more f k, inv.count, count) }

      pub count_stop : limit < spent + g → limit < trials + sum n f
      count_stop over = omega (arith, inv.count, sum_more f k, sum_up f (k + 1) n (omega arith))

-- some trials, and then more
pub counted_then : (b c : Budget) (m n : ℕ) (r : Option Budget) → Counted b m (Some c) → Counted c n r → Counted b (m + n) r
counted_then b c m n None e h = omega (arith, e, h)
counted_then b c m n (Some d) e h = (h.0 ∙ e.0, omega (arith, e.1, h.1))
