-- Whether what is lent fits a batch, test by test. Assumes nothing.
use mathlib.Core.Path.{◌≡◌, sym, subst, ◌∙◌}
use mathlib.Core.Logic.{◌↔◌}
use mathlib.Core.Bool.{Bool, true, false, ◌||◌, or-true, or-false}
use Prim.Native.Nat.{ℕ, ◌*◌, ◌/◌, ◌%◌, ◌≤◌, ◌<◌}
use native.Mathlib.Omega.{arith}
use lib.Dec.{T, eqb, ltb}
use lib.ListN.{length}
use borrow.Author.Tests.{ltb-false, lt-ltb, le-ltb, eq-eqb, ne_eqb}
use Rattle.pattern.specs.Bytes.{Bytes, numbers_in}
use Rattle.pattern.proofs.Tests.{neither}
use Rattle.batch.specs.Batch.{batch_limit, misplaced, unfit}
use Rattle.batch.specs.Labels.{BatchFits}
use Rattle.batch.proofs.Placing.{placed_exactly}

module _ (width : ℕ) (buffer ends verdicts parts : Bytes) where
  pub half_end : length ends % 2 ≡ 1 → unfit width buffer ends verdicts parts ≡ true
  unfolding unfit
  half_end h = simp (eq-eqb _ _ h, or-true)

  pub many_labels : batch_limit < length ends / 2 → unfit width buffer ends verdicts parts ≡ true
  unfolding unfit
  many_labels h = simp (lt-ltb _ _ h, or-true)

  pub verdicts_short : length verdicts < length ends / 2 → unfit width buffer ends verdicts parts ≡ true
  unfolding unfit
  verdicts_short h = simp (lt-ltb _ _ h, or-true)

  pub parts_short : length parts < length ends / 2 * width → unfit width buffer ends verdicts parts ≡ true
  unfolding unfit
  parts_short h = simp (lt-ltb _ _ h, or-true)

  pub by_places : ¬ (length ends % 2 ≡ 1) → length ends / 2 ≤ batch_limit → length ends / 2 ≤ length verdicts → length ends / 2 * width ≤ length parts
      → misplaced 0 (numbers_in ends) (length buffer) ≡ unfit width buffer ends verdicts parts
  unfolding unfit
  by_places a b c d = sym (simp (ne_eqb _ _ a, le-ltb _ _ b, le-ltb _ _ c, le-ltb _ _ d, or-false))

-- it fits exactly where no test refuses it
pub fits_exactly : (width : ℕ) (buffer ends verdicts parts : Bytes) → (unfit width buffer ends verdicts parts ≡ false) ↔ BatchFits width buffer ends verdicts parts
unfolding unfit
fits_exactly width buffer ends verdicts parts = (fit, λ f. sym (by_places width buffer ends verdicts parts (λ e. omega (arith, f.whole)) f.few f.verdicts_long f.parts_long) ∙ (placed_exactly ends (length buffer)).1 f.placed)
  where
    fit : unfit width buffer ends verdicts parts ≡ false → BatchFits width buffer ends verdicts parts
    fit h =
        let a : Bool = misplaced 0 (numbers_in ends) (length buffer) in
        let b : Bool = eqb (length ends % 2) 1 in
        let c : Bool = ltb batch_limit (length ends / 2) in
        let d : Bool = ltb (length verdicts) (length ends / 2) in
        let (abcd, e') = neither (a || b || c || d) _ (unfold unfit in h) in
        let (abc, d') = neither (a || b || c) _ abcd in
        let (ab, c') = neither (a || b) _ abc in
        let (a', b') = neither a _ ab in
        let o : ¬ (length ends % 2 ≡ 1) = λ e. subst T (sym (eq-eqb _ _ e) ∙ b') tt in
        record { whole = omega arith; few = ltb-false _ _ c'; placed = (placed_exactly ends (length buffer)).0 a'; verdicts_long = ltb-false _ _ d'; parts_long = ltb-false _ _ e' }
