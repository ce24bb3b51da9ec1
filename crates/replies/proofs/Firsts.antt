-- Laws of the first place of a byte. Assumes nothing.
use mathlib.Core.Path.{◌≡◌, refl, ◌∙◌}
use mathlib.Core.Bool.{Bool, true, false, not, cond}
use mathlib.Core.List.{[], ◌∷◌}
use Prim.Native.Nat.{ℕ, suc, ◌+◌, ◌≤◌, ◌<◌}
use native.Mathlib.Omega.{arith}
use lib.Dec.{eqb, ltb}
use lib.ListN.{length}
use borrow.Author.Tests.{ltb-true, ltb-false}
use Rattle.std.specs.Prelude.{Some, None, position}
use Rattle.std.specs.List.{position_or_len}
use Rattle.pattern.specs.Bytes.{Bytes}
use Rattle.replies.specs.Reply.{index_of}

-- the place that the library finds
first_place : (b : ℕ) (s : Bytes) → position_or_len (λ c. eqb c b) s ≡ index_of b s
unfolding index_of
first_place b [] = refl
first_place b (c ∷ s) = go (eqb c b) (first_place b s)
  where
    go : (t : Bool) → position_or_len (λ c. eqb c b) s ≡ index_of b s → cond (not t) (1 + position_or_len (λ c. eqb c b) s) 0 ≡ elim t [ true ↦ 0 | false ↦ suc (index_of b s) ]
    go true e = refl
    go false e = omega arith

module _ (b : ℕ) (s : Bytes) where
  abbrev place : ℕ
  place = position_or_len (λ c. eqb c b) s

  pub first_some : (k : ℕ) → Some k ≡ position (λ c. eqb c b) s → (k ≡ index_of b s) × (k < length s)
  first_some k e = go (ltb place (length s)) refl e
    where
      go : (t : Bool) → ltb place (length s) ≡ t → Some k ≡ cond t (Some place) None → (k ≡ index_of b s) × (k < length s)
      go true l e =
          let n : k ≡ place = cc in
          (n ∙ first_place b s, omega (arith, ltb-true place (length s) l))
      go false l e = absurd (let z : ◌≡◌ {A = ℕ} 0 1 = cc in omega arith)

  pub first_none : None ≡ position (λ c. eqb c b) s → length s ≤ index_of b s
  first_none e = go (ltb place (length s)) refl e
    where
      go : (t : Bool) → ltb place (length s) ≡ t → None ≡ cond t (Some place) None → length s ≤ index_of b s
      go true l e = absurd (let z : ◌≡◌ {A = ℕ} 0 1 = cc in omega arith)
      go false l e = omega (arith, first_place b s, ltb-false place (length s) l)
