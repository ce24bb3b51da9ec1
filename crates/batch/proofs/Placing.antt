-- Ends that don't fall or run past the buffer. Assumes nothing.
use mathlib.Core.Path.{◌≡◌, refl, sym, ap, ◌∙◌}
use mathlib.Core.Logic.{◌↔◌, ◌⊎◌, ⊎_elim}
use mathlib.Core.Bool.{true, false, ◌||◌, or-true}
use mathlib.Core.List.{List, [], ◌∷◌, ◌++◌}
use Prim.Native.Nat.{ℕ, zero, suc, ◌*◌, ◌/◌, ◌≤◌, ◌<◌}
use native.Mathlib.Omega.{arith}
use lib.Dec.{ltb}
use lib.ListN.{length, get_or}
use borrow.Author.Tests.{ltb-false, lt-ltb, le-ltb}
use Rattle.pattern.specs.Bytes.{Bytes, numbers_in}
use Rattle.pattern.specs.Decode.{field}
use Rattle.pattern.proofs.Tests.{neither}
use Rattle.pattern.proofs.Pairs.{numbers_length, numbers_at}
use Rattle.batch.specs.Batch.{misplaced}
use Rattle.batch.specs.Labels.{label_start}
use Rattle.batch.proofs.Labels.{begin, begins}

-- what the test says of the first end
module _ (from end size : ℕ) (ends : List ℕ) (h : misplaced from (end ∷ ends) size ≡ false) where
  pub not_fallen : from ≤ end
  unfolding misplaced
  not_fallen = ltb-false _ _ (neither (ltb end from) _ (neither (ltb end from || ltb size end) _ h).0).0

  pub not_past : end ≤ size
  unfolding misplaced
  not_past = ltb-false _ _ (neither (ltb end from) _ (neither (ltb end from || ltb size end) _ h).0).1

  pub later_placed : misplaced end ends size ≡ false
  unfolding misplaced
  later_placed = (neither (ltb end from || ltb size end) _ h).1

numbers_pair : (pair rest : Bytes) → length pair ≡ 2 → numbers_in (pair ++ rest) ≡ field pair 0 ∷ numbers_in rest
unfolding numbers_in
numbers_pair [] rest h = absurd (omega arith)
numbers_pair (a ∷ []) rest h = absurd (omega arith)
numbers_pair (a ∷ b ∷ []) rest h = refl
numbers_pair (a ∷ b ∷ d ∷ s) rest h = absurd (omega arith)

-- by the tests of the first end
module _ (ends pair rest : Bytes) (e : ends ≡ pair ++ rest) (h : length pair ≡ 2) (from size end : ℕ) (is : end ≡ field pair 0) where
  placed_more : misplaced from (numbers_in ends) size ≡ (ltb end from || ltb size end || misplaced end (numbers_in rest) size)
  unfolding misplaced
  placed_more = ap (λ es. misplaced from es size) (ap numbers_in e ∙ numbers_pair pair rest h) ∙ ap (λ x. ltb x from || ltb size x || misplaced x (numbers_in rest) size) (sym is)

  pub misplaced_here : (end < from) ⊎ ((from ≤ end) × (size < end)) → misplaced from (numbers_in ends) size ≡ true
  misplaced_here = ⊎_elim (λ f. placed_more ∙ rw (lt-ltb _ _ f) refl) (λ p. placed_more ∙ rw (lt-ltb _ _ p.1, or-true (ltb end from)) refl)

  pub placed_next : from ≤ end → end ≤ size → misplaced end (numbers_in rest) size ≡ misplaced from (numbers_in ends) size
  placed_next f g = sym (placed_more ∙ rw (le-ltb _ _ f, le-ltb _ _ g) refl)

pub all_placed : (rest : Bytes) (from size : ℕ) → length rest < 2 → misplaced from (numbers_in rest) size ≡ false
unfolding misplaced numbers_in
all_placed [] from size h = refl
all_placed (a ∷ []) from size h = refl
all_placed (a ∷ b ∷ s) from size h = absurd (omega arith)

-- ---- end by end

abbrev EachPlaced : (from : ℕ) → List ℕ → (size : ℕ) → Type 0
EachPlaced from ends size = (k : ℕ) → k < length ends → (begin from ends k ≤ get_or ends k 0) × (get_or ends k 0 ≤ size)

each_placed : (from : ℕ) (ends : List ℕ) (size : ℕ) → misplaced from ends size ≡ false → EachPlaced from ends size
unfolding begin
each_placed from [] size h k l = absurd (omega arith)
each_placed from (end ∷ ends) size h zero l = (not_fallen from end size ends h, not_past from end size ends h)
each_placed from (end ∷ ends) size h (suc zero) l = each_placed end ends size (later_placed from end size ends h) zero (omega arith)
each_placed from (end ∷ ends) size h (suc (suc k)) l = each_placed end ends size (later_placed from end size ends h) (suc k) (omega arith)

placed_each : (from : ℕ) (ends : List ℕ) (size : ℕ) → EachPlaced from ends size → misplaced from ends size ≡ false
unfolding begin misplaced
placed_each from [] size p = refl
placed_each from (end ∷ ends) size p = let (f, g) = p 0 (omega arith) in rw (le-ltb _ _ f, le-ltb _ _ g) (placed_each end ends size later)
  where
    later : EachPlaced end ends size
    later zero l = p 1 (omega arith)
    later (suc k) l = p (suc (suc k)) (omega arith)

pub placed_exactly : (ends : Bytes) (size : ℕ) → (misplaced 0 (numbers_in ends) size ≡ false) ↔ ((k : ℕ) → k < length ends / 2 → (label_start ends k ≤ field ends (2 * k)) × (field ends (2 * k) ≤ size))
placed_exactly ends size = (
  λ h k l. let (f, g) = each_placed 0 (numbers_in ends) size h k (omega (arith, numbers_length ends)) in let e = begins ends k l in let n = numbers_at ends k l in (omega arith, omega arith),
  λ p. placed_each 0 (numbers_in ends) size (λ k l. let i : k < length ends / 2 = omega (arith, numbers_length ends) in let (f, g) = p k i in let e = begins ends k i in let n = numbers_at ends k i in (omega arith, omega arith)),
)
