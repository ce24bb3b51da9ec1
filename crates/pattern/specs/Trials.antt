-- The count of trials, as 'Counting trials' has it. To be believed.
use Rattle.std.specs.Prelude.{Bool, cond, List, [], ◌∷◌, ℕ, zero, suc, ◌+◌, ◌-◌, ◌*◌, ◌/◌, length}
use Rattle.pattern.specs.Bytes.{Bytes}
use Rattle.pattern.specs.Syntax.{pattern, atom, Syntax, last, then, repeat, nodes}
use Rattle.pattern.specs.Decision.{Rel, trial, power, max_count, decide}

-- how many numbers below c are tried, from c - 1 down, until one passes
unfoldable pub tries : ℕ → (ℕ → Bool) → ℕ
tries zero p = zero
tries (suc c) p = cond (p c) 1 (suc (tries c p))

-- the sum of f at the numbers below c
unfoldable pub sum : ℕ → (ℕ → ℕ) → ℕ
sum zero f = zero
sum (suc c) f = sum c f + f c

-- the trials of a join for the stretches that end at j, one stretch for each i from 0 to j
unfoldable pub column_trials : Rel → Rel → ℕ → ℕ
column_trials R S j = sum (suc j) (λ i. tries (suc j - i) (trial R S i j))

-- the trials of a join, for all i and j with 0 ≤ i ≤ j < w
unfoldable pub joins : ℕ → Rel → Rel → ℕ
joins w R S = sum w (column_trials R S)

-- the trials of an atom's bodies: one join for each k from 1 to K
unfoldable pub repeats : Bytes → Syntax atom → ℕ
repeats l (repeat low high b) = sum (max_count (length l) high) (λ k. joins (suc (length l)) (decide l b) (power (decide l b) k))

-- the trials of an atom: those of its bodies, and those of the join with its followers if it is not last in its branch
unfoldable pub atom_trials : Bytes → Syntax pattern → ℕ
atom_trials l (last a) = repeats l a
atom_trials l (then a p) = repeats l a + joins (suc (length l)) (decide l a) (decide l p)

-- the sum of f over a list
unfoldable pub total : (Syntax pattern → ℕ) → List (Syntax pattern) → ℕ
total f [] = 0
total f (x ∷ xs) = f x + total f xs

-- the count: the trials of all atoms of a pattern on a label
unfoldable pub trials : Bytes → Syntax pattern → ℕ
trials l p = total (atom_trials l) (nodes p)

-- "A x (n+1) x (n+1) x (n+2) x (n+3) / 6"
unfoldable pub trial_bound : (A n : ℕ) → ℕ
trial_bound A n = A * (n + 1) * (n + 1) * (n + 2) * (n + 3) / 6
