-- The meaning as tests that compute, on a label and two places of it. To be believed.
use Rattle.std.specs.Prelude.{Bool, false, ◌&&◌, ◌||◌, [], ◌∷◌, ℕ, zero, suc, ◌+◌, ◌-◌, min, leb, eqb, length}
use Rattle.std.proofs.Math.Option.{Option, none, some}
use Rattle.std.proofs.Math.Seq.{slice}
use Rattle.pattern.specs.Bytes.{Bytes, equal}
use Rattle.pattern.specs.Codes.{in_set}
use Rattle.pattern.specs.Syntax.{Sort, Syntax, last, then, repeat, codes, literal, group, only, or}

-- a relation between two places
abbrev pub Rel : Type 0
Rel = ℕ → ℕ → Bool

-- some number below c passes, tried from c - 1 down
unfoldable pub any : ℕ → (ℕ → Bool) → Bool
any zero p = false
any (suc c) p = p c || any c p

-- one trial: i to i + d in the first relation and from there to j in the second
unfoldable pub trial : Rel → Rel → ℕ → ℕ → ℕ → Bool
trial R S i j d = R i (i + d) && S (i + d) j

-- i to j is cut at some end m, tried from j down
unfoldable pub join : Rel → Rel → Rel
join R S i j = any (suc j - i) (trial R S i j)

-- the power of a relation: i to j is cut into k stretches in it, and into none just if it is empty
unfoldable pub power : Rel → ℕ → Rel
power R zero = λ i j. eqb i j
power R (suc k) = join R (power R k)

-- the paper's K: the lesser of n and the high number, n if there is no upper end
unfoldable pub max_count : ℕ → Option ℕ → ℕ
max_count n none = n
max_count n (some high) = min n high

-- i to j is cut into low to high stretches in R, both numbers cut to the label's length n; beyond n some stretch is empty
unfoldable pub repeated : ℕ → ℕ → Option ℕ → Rel → Rel
repeated n low high R i j = any (suc (max_count n high)) (λ k. leb (min low n) k && power R k i j) && (leb low n || R i i)

-- a list is one byte of the set
unfoldable pub single : ℕ → Bytes → Bool
single set [] = false
single set (b ∷ []) = in_set set b
single set (b ∷ c ∷ s) = false

-- i to j of the label satisfies the tree
unfoldable pub decide : Bytes → {s : Sort} → Syntax s → Rel
decide l (last a) = decide l a
decide l (then a p) = join (decide l a) (decide l p)
decide l (repeat low high b) = repeated (length l) low high (decide l b)
decide l (codes set) = λ i j. single set (slice i j l)
decide l (literal value) = λ i j. equal (slice i j l) value
decide l (group bs) = decide l bs
decide l (only p) = decide l p
decide l (or p bs) = λ i j. decide l p i j || decide l bs i j
