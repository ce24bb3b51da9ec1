-- The count of trials is at most A x (n+1) x (n+1) x (n+2) x (n+3) / 6. Assumes nothing.
use mathlib.Core.Path.{◌≡◌, refl, ap}
use mathlib.Core.Bool.{Bool}
use Prim.Native.Nat.{ℕ, zero, suc, ◌+◌, ◌-◌, ◌*◌, ◌<◌, ◌≤◌}
use native.Mathlib.Nat.{mul-le-mul_right}
use native.Mathlib.Omega.{arith}
use mathlib.Core.List.{List, [], ◌∷◌}
use mathlib.Core.Option.{Option, none, some}
use lib.ListN.{length, length-append}
use Rattle.pattern.specs.Bytes.{Bytes}
use Rattle.pattern.specs.Syntax.{Sort, pattern, atom, body, branches, Syntax, last, then, repeat, codes, literal, group, only, or, size, nodes}
use Rattle.pattern.specs.Decision.{Rel, max_count, trial, power, decide}
use Rattle.pattern.specs.Trials.{tries, sum, column_trials, joins, repeats, atom_trials, total, trials, trial_bound}
use Rattle.pattern.proofs.Tests.{cond_case}

tries_le : (c : ℕ) (p : ℕ → Bool) → tries c p ≤ c
unfolding tries
tries_le zero p = omega arith
tries_le (suc c) p = cond_case (p c) (λ x. x ≤ suc c) (λ t. omega arith) (λ t. omega (arith, tries_le c p))

sum_le : (c : ℕ) (f g : ℕ → ℕ) → ((k : ℕ) → k < c → f k ≤ g k) → sum c f ≤ sum c g
unfolding sum
sum_le zero f g h = omega arith
sum_le (suc c) f g h = omega (arith, sum_le c f g (λ k l. h k (omega arith)), h c (omega arith))

sum_const : (c x : ℕ) → sum c (λ k. x) ≡ c * x
unfolding sum
sum_const zero x = omega arith
sum_const (suc c) x = omega (arith, sum_const c x)

max_count_le : (n : ℕ) (high : Option ℕ) → max_count n high ≤ n
unfolding max_count
max_count_le n none = omega arith
max_count_le n (some m) = omega arith

-- the most trials of a join: every place of every stretch of n bytes
all_places : ℕ → ℕ
all_places n = sum (suc n) (λ j. sum (suc j) (λ i. suc j - i))

joins_le : (n : ℕ) (R S : Rel) → joins (suc n) R S ≤ all_places n
unfolding joins column_trials all_places
joins_le n R S = sum_le (suc n) _ _ (λ j h. sum_le (suc j) _ _ (λ i k. tries_le (suc j - i) (trial R S i j)))

row : (n c : ℕ) → c ≤ n → 2 * sum c (λ i. n - i) + c * c ≡ c * (2 * n + 1)
unfolding sum
row n zero h = omega arith
row n (suc c) h = omega (arith, row n c (omega arith))

row_sums : (c : ℕ) → 6 * sum c (λ j. sum (suc j) (λ i. suc j - i)) ≡ c * (c + 1) * (c + 2)
unfolding sum
row_sums zero = omega arith
row_sums (suc c) = omega (arith, row_sums c, row (suc c) (suc c) (omega arith))

total_le : (f : Syntax pattern → ℕ) (b : ℕ) → ((x : Syntax pattern) → f x ≤ b) → (xs : List (Syntax pattern)) → total f xs ≤ length xs * b
unfolding total
total_le f b h [] = omega arith
total_le f b h (x ∷ xs) = omega (arith, h x, total_le f b h xs)

-- an atom is not among the nodes of its body
unfoldable pub outside : Sort → ℕ
outside pattern = 0
outside atom = 1
outside body = 0
outside branches = 0

pub all_nodes : {s : Sort} (x : Syntax s) → outside s + length (nodes x) ≡ size x
unfolding outside nodes size
all_nodes (last a) = omega (arith, all_nodes a)
all_nodes (then a p) = omega (arith, all_nodes a, all_nodes p, length-append (nodes a) (nodes p))
all_nodes (repeat low high b) = omega (arith, all_nodes b)
all_nodes (codes set) = refl
all_nodes (literal value) = refl
all_nodes (group bs) = all_nodes bs
all_nodes (only p) = all_nodes p
all_nodes (or p bs) = omega (arith, all_nodes p, all_nodes bs, length-append (nodes p) (nodes bs))

pub nodes_size : (p : Syntax pattern) → length (nodes p) ≡ size p
unfolding outside
nodes_size p = omega (arith, all_nodes p)

module _ (l : Bytes) where
  repeats_le : (a : Syntax atom) → repeats l a ≤ length l * all_places (length l)
  unfolding repeats
  repeats_le (repeat low high b) =
      let n : ℕ = length l in
      let f : ℕ → ℕ = λ k. joins (suc n) (decide l b) (power (decide l b) k) in
      let below : max_count n high ≤ n = max_count_le n high in
      omega (arith, sum_le (max_count n high) f (λ k. all_places n) (λ k h. joins_le n (decide l b) (power (decide l b) k)), sum_const (max_count n high) (all_places n), mul-le-mul_right (all_places n) below)

  atom_trials_le : (x : Syntax pattern) → atom_trials l x ≤ suc (length l) * all_places (length l)
  unfolding atom_trials
  atom_trials_le (last a) = omega (arith, repeats_le a)
  atom_trials_le (then a p) = omega (arith, repeats_le a, joins_le (length l) (decide l a) (decide l p))

  -- the count is within the bound
  pub bound : (p : Syntax pattern) → trials l p ≤ trial_bound (size p) (length l)
  unfolding all_places trials trial_bound
  bound p =
      rw (← nodes_size p)
      (omega (arith, total_le (atom_trials l) (suc (length l) * all_places (length l)) atom_trials_le (nodes p), ap (λ x. length (nodes p) * suc (length l) * x) (row_sums (suc (length l)))))
