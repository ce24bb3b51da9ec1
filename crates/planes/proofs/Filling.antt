-- The loop that fills a plane, in plain values. Assumes nothing.
use mathlib.Core.Path.{◌≡◌, refl, sym, ap, ◌∙◌}
use mathlib.Core.Bool.{Bool, true, false}
use mathlib.Core.List.{List}
use mathlib.Core.Logic.{◌⊎◌, inl, inr, ⊎_elim}
use Prim.Native.Nat.{ℕ, ◌+◌, ◌≤◌, ◌<◌}
use native.Mathlib.Nat.{eq-or-lt_of_le}
use native.Mathlib.Omega.{arith}
use borrow.Author.Tests.{eq-eqb, ne_eqb, eqb-true, eqb-false}
use lib.Dec.{eqb}
use lib.ListN.{length, get_or}
use lib.Seq.{slice}
use Rattle.pattern.specs.Bytes.{equal}
use Rattle.pattern.specs.Codes.{in_set}
use Rattle.planes.specs.declared.fill.Content.{Content}
use Rattle.planes.specs.declared.fill.Content.TheVariants.{Empty, Codes, Literal}
use Rattle.planes.specs.Cells.{Tells, Kept, Others, bit_of, stretch_set}
use Rattle.planes.specs.Whole.{BlankPost}
use Rattle.planes.specs.Stretches.{Said, FillStretchesPre, FillStretchesPost}
use Rattle.planes.specs.Fill.{held_in, span, Fit, FillPre, FillPost}
use Rattle.planes.proofs.Planes.{stretch_long, stretch_tells, stretch_kept, kept_all, kept_then, tells_same, tells_kept}
use Rattle.planes.proofs.Slices.{single_byte, single_not, equal_apart}

same_or_not : (a b : ℕ) → (a ≡ b) ⊎ (a ≡ b → ⊥)
same_or_not a b = go (eqb a b) (eqb-true a b) (eqb-false a b)
  where
    go : (x : Bool) → (x ≡ true → a ≡ b) → (x ≡ false → a ≡ b → ⊥) → (a ≡ b) ⊎ (a ≡ b → ⊥)
    go true f g = inl (f refl)
    go false f g = inr (g refl)

-- a plane is filled with no stretch of another length
held_off : (table label : List ℕ) (content : Content) → Fit table content → (i j : ℕ) → i ≤ j → j ≤ length label → (i + span content ≡ j → ⊥) → held_in table label content i j ≡ false
unfolding held_in Fit
held_off table label Empty f i j hi hj n = ne_eqb i j (λ e. n (omega arith))
held_off table label (Codes set) f i j hi hj n = single_not set label i j hj (λ e. n (omega arith))
held_off table label (Literal from len) f i j hi hj n = equal_apart label table i j from (from + len) hj f (λ e. n (omega arith))

-- what is said of the stretch from i on, and where its bytes lie
module _ (table label : List ℕ) (i : ℕ) where
  pub value_empty : held_in table label Empty i (i + 0) ≡ true
  unfolding held_in
  value_empty = eq-eqb i (i + 0) (omega arith)

  pub value_codes : (set : ℕ) → i + 1 ≤ length label → held_in table label (Codes set) i (i + 1) ≡ in_set set (get_or label i 0)
  unfolding held_in
  value_codes set h = single_byte set label i (i + 1) h (omega arith)

  pub value_literal : (from len : ℕ) → held_in table label (Literal from len) i (i + len) ≡ equal (slice i (i + len) label) (slice from (from + len) table)
  unfolding held_in
  value_literal from len = refl

pub literal_in : (table : List ℕ) (from len : ℕ) → Fit table (Literal from len) → from + len ≤ length table
unfolding Fit
literal_in table from len f = f

-- ---- the loop over the places

-- the stretches that end before j are filled, the others empty
pub record FillAt (s₁ : List ℕ) (w out n : ℕ) (post : ℕ → Bool → Type 0) (s : List ℕ) (j : ℕ) : Type 0 where
  pub from : n ≤ j
  pub long : length s ≡ length s₁
  pub done : (a b : ℕ) → a ≤ b → b < w → b < j → (v : Bool) × Said n post a b v × Tells s w out a b v
  pub ahead : (a b : ℕ) → a ≤ b → b < w → j ≤ b → Tells s w out a b false
  pub kept : Kept s₁ s w (out + 1) (Others out)

module _ (s₀ s₁ : List ℕ) (w out n : ℕ) (pre : ℕ → Type 0) (post : ℕ → Bool → Type 0) (ok : FillStretchesPre s₀ w out n pre) (len : length s₁ ≡ length s₀) (empty : BlankPost s₀ s₁ w out) where
  off : (a b : ℕ) → (a + n ≡ b → ⊥) → Said n post a b false
  off a b d = record { tested = λ e. absurd (d e); off = λ _. refl }

  pub fill_start : FillAt s₁ w out n post s₁ n
  fill_start = record {
    from = omega arith;
    long = refl;
    done = λ a b l m k. (false, off a b (λ e. omega arith), empty.plane.holds a b l m);
    ahead = λ a b l m k. empty.plane.holds a b l m;
    kept = kept_all s₁ w (out + 1) (Others out);
  }

  module _ (s : List ℕ) (j : ℕ) (inv : FillAt s₁ w out n post s j) where
    pub fill_step : j < w → (i : ℕ) → i + n ≡ j → (v : Bool) → post i v → FillAt s₁ w out n post (stretch_set s w out i j (bit_of v)) (j + 1)
    fill_step more i e v got =
        let hi : i ≤ j = omega arith in
        let k = stretch_kept w out i j hi more s v in
        let other : (a b : ℕ) → a ≤ b → b < w → (a ≡ i → b ≡ j → ⊥) → (x : Bool) → Tells s w out a b x → Tells (stretch_set s w out i j (bit_of v)) w out a b x
        = λ a b l m n x. tells_kept k l m (λ _. (n, λ y z. n (omega arith) (omega arith)), λ _. (λ y z. n (omega arith) (omega arith), λ y z. n z y)) in
        let column : (a : ℕ) → a ≤ j → (x : Bool) × Said n post a j x × Tells (stretch_set s w out i j (bit_of v)) w out a j x
        = λ a l. ⊎_elim
        (λ z. rw z (v, record { tested = λ _. got; off = λ x. absurd (x e) }, stretch_tells w out i j hi more s v (rw (inv.long ∙ len) ok.into)))
        (λ d. (false, off a j (λ z. d (omega arith)), other a j l more (λ y _. d y) _ (inv.ahead a j l more (omega arith))))
        (same_or_not a i) in
        record {
          from = omega (arith, inv.from);
          long = stretch_long w out i j s (bit_of v) ∙ inv.long;
          done = λ a b l m f. ⊎_elim
              (λ z. let y : a ≤ j = omega arith in rw z (column a y))
              (λ z. let (x, said, told) = inv.done a b l m z in (x, said, other a b l m (λ _ y. omega arith) _ told))
              (eq-or-lt_of_le (let y : b ≤ j = omega arith in y));
          ahead = λ a b l m f. other a b l m (λ _ y. omega arith) _ (inv.ahead a b l m (omega arith));
          kept = kept_then inv.kept k (λ q a b n. n) (λ q a b n x. absurd (n x));
        }

    pub fill_end : w ≤ j → FillStretchesPost s₀ s w out n post
    fill_end h = record { plane = λ a b l m. inv.done a b l m (omega arith); kept = kept_then empty.kept inv.kept (λ q a b n. n) (λ q a b n. n) }

-- ---- what a plane is filled with

module _ (table label s : List ℕ) (w : ℕ) (content : Content) (out : ℕ) (ok : FillPre table label s w content out) where
  pub fill_told : (s' : List ℕ) (post : ℕ → Bool → Type 0) → FillStretchesPost s s' w out (span content) post
      → ((i : ℕ) (b : Bool) → i + span content ≤ length label → post i b → b ≡ held_in table label content i (i + span content)) → FillPost table label s s' w content out
  fill_told s' post got h = record {
    plane = record {
      holds = λ i j l m.
          let (b, said, told) = got.plane i j l m in
          tells_same told (⊎_elim
          (λ e. h i b (omega (arith, ok.wide)) (said.tested e) ∙ ap (λ (k : ℕ). held_in table label content i k) e)
          (λ n. said.off n ∙ sym (held_off table label content ok.fit i j l (omega (arith, ok.wide)) n))
          (same_or_not (i + span content) j));
    };
    kept = got.kept;
  }
