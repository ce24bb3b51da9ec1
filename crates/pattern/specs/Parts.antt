-- The parts: where the stretches of the top-level atoms end, the longest first. To be believed.
use Rattle.std.specs.Prelude.{◌≡◌, ◌⊎◌, List, [], ◌∷◌, Bool, true, false, cond, ℕ, zero, suc, ◌+◌, ◌-◌, ◌≤◌, ◌<◌, length}
use Rattle.std.proofs.Math.Option.{Option, none, some}
use Rattle.std.proofs.Math.Seq.{slice}
use Rattle.pattern.specs.Bytes.{Bytes}
use Rattle.pattern.specs.Syntax.{pattern, atom, Syntax, last, then}
use Rattle.pattern.specs.Meaning.{Satisfies}
use Rattle.pattern.specs.Decision.{decide, trial}

-- the label from i on is cut at these ends, one for each top-level atom, each stretch satisfying its atom
unfoldable pub Partition : Bytes → Syntax pattern → ℕ → List ℕ → Type 0
Partition l (last a) i ends = (ends ≡ length l ∷ []) × Satisfies a (slice i (length l) l)
Partition l (then a p) i ends =
    (m : ℕ) × (rest : List ℕ) × (ends ≡ m ∷ rest) × (i ≤ m) × (m ≤ length l) × Satisfies a (slice i m l) × Partition l p m rest

-- the first list is the second, or less at the first place where they differ
unfoldable pub Lex : List ℕ → List ℕ → Type 0
Lex [] ys = Unit {0}
Lex (x ∷ xs) [] = ⊥
Lex (x ∷ xs) (y ∷ ys) = (x < y) ⊎ ((x ≡ y) × Lex xs ys)

-- what a verdict means: the label does not satisfy the pattern, or these ends are its longest_first partition
unfoldable pub IsVerdict : Bytes → Syntax pattern → Option (List ℕ) → Type 0
IsVerdict l p none = ¬ Satisfies p l
IsVerdict l p (some ends) = Partition l p 0 ends × ((others : List ℕ) → Partition l p 0 others → Lex others ends)

-- the largest number below c that passes, 0 if none
unfoldable pub longest : ℕ → (ℕ → Bool) → ℕ
longest zero p = zero
longest (suc c) p = cond (p c) c (longest c p)

-- where the stretch of an atom ends: the last place from which its followers still reach the end
unfoldable pub end : Bytes → Syntax atom → Syntax pattern → ℕ → ℕ
end l a p i = i + longest (suc (length l) - i) (trial (decide l a) (decide l p) i (length l))

-- the ends of the stretches from i on, each as long as it can be
unfoldable pub parts : Bytes → Syntax pattern → ℕ → List ℕ
parts l (last a) i = length l ∷ []
parts l (then a p) i = let m : ℕ = end l a p i in m ∷ parts l p m

-- the verdict: yes with the parts, or no
unfoldable pub verdict : Bytes → Syntax pattern → Option (List ℕ)
verdict l p = elim (decide l p 0 (length l)) [ true ↦ some (parts l p 0) | false ↦ none ]
