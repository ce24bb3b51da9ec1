-- A loop over all cells of a plane, in plain values: cell k stands in row k / w, column k % w. Assumes nothing.
use mathlib.Core.Path.{◌≡◌, refl, sym, ap, ap₂, ◌∙◌}
use mathlib.Core.Bool.{Bool, true, false, ◌||◌}
use mathlib.Core.List.{List}
use mathlib.Core.Logic.{⊎_elim}
use Prim.Native.Nat.{ℕ, ◌+◌, ◌*◌, ◌/◌, ◌%◌, ◌≤◌, ◌<◌}
use native.Mathlib.Nat.{add-mul, mod-lt, div-add-mod', div-lt_iff_lt-mul, eq-or-lt_of_le}
use native.Mathlib.Omega.{arith}
use lib.Arith.{digits_lt, digits_div, digits_mod}
use lib.Bits.{bit_or}
use lib.ListN.{length, get_or, set, length-set}
use Rattle.planes.specs.Cells.{cell_index, cell, InRoom, bit_of, on, Kept, Others}
use Rattle.planes.specs.Whole.{BlankPost, AddPre, AddPost}
use Rattle.planes.proofs.Planes.{set_here, set_kept, kept_all, kept_then, kept_less}

-- the first k cells of plane out are those of f, and all others are as they were
pub record PassAt (s₀ : List ℕ) (w out : ℕ) (f : ℕ → ℕ → ℕ) (s : List ℕ) (k : ℕ) : Type 0 where
  pub below : k ≤ w * w
  pub long : length s ≡ length s₀
  pub done : (i j : ℕ) → i < w → j < w → i * w + j < k → cell s w out i j ≡ f i j
  pub kept : Kept s₀ s w (out + 1) (λ q i j. q ≡ out → i * w + j < k → ⊥)

module _ (s₀ : List ℕ) (w out : ℕ) (f : ℕ → ℕ → ℕ) where
  pub pass_start : PassAt s₀ w out f s₀ 0
  pass_start = record { below = omega arith; long = refl; done = λ i j hi hj l. absurd (omega arith); kept = kept_all _ _ _ _ }

  module _ (s : List ℕ) (k : ℕ) (inv : PassAt s₀ w out f s k) where
    pub pass_end : w * w ≤ k → ((i j : ℕ) → i < w → j < w → cell s w out i j ≡ f i j) × Kept s₀ s w (out + 1) (Others out)
    pass_end h = (λ i j hi hj. inv.done i j hi hj (omega (arith, digits_lt hi hj)), kept_less (out + 1) (out + 1) (omega arith) inv.kept (λ q i j n e l. n e))

    module _ (some : 1 ≤ w) (more : k < w * w) where
      row : k / w < w
      row = (div-lt_iff_lt-mul some).1 more

      column : k % w < w
      column = mod-lt k some

      -- cell k of plane p
      pass_cell : (p : ℕ) → cell_index w p 0 0 + k ≡ cell_index w p (k / w) (k % w)
      pass_cell p = omega (arith, add-mul (p * w) (k / w) w, div-add-mod' k w)

      -- what is still to be passed is as it was
      pub pass_same : (p : ℕ) → get_or s (cell_index w p 0 0 + k) 0 ≡ cell s₀ w p (k / w) (k % w)
      pass_same p = rw (pass_cell p) (inv.kept.same p (k / w) (k % w) row column (λ e l. omega (arith, div-add-mod' k w)))

      pub pass_step : InRoom s₀ w out → (v : ℕ) → v ≡ f (k / w) (k % w) → PassAt s₀ w out f (set s (cell_index w out 0 0 + k) v) (k + 1)
      pass_step room v got =
          let m = set_kept w out (k / w) (k % w) row column s v in
          rw (pass_cell out)
          record {
            below = omega arith;
            long = length-set s (cell_index w out (k / w) (k % w)) v ∙ inv.long;
            done = λ i j hi hj l. ⊎_elim
                (λ e. let (a, b) : (i ≡ k / w) × (j ≡ k % w) = (sym (digits_div i hj) ∙ ap (λ (x : ℕ). x / w) e, sym (digits_mod i hj) ∙ ap (λ (x : ℕ). x % w) e) in
                rw (a, b) (set_here w out (k / w) (k % w) row column s v (rw inv.long room) ∙ got))
                (λ z. m.same out i j hi hj (λ _ a b. omega (arith, div-add-mod' k w, ap (λ (x : ℕ). x * w) a)) ∙ inv.done i j hi hj z)
                (eq-or-lt_of_le (let y : i * w + j ≤ k = omega arith in y));
            kept = kept_then inv.kept m (λ q i j n e l. n e (omega arith)) (λ q i j n e a b. n e (omega (arith, div-add-mod' k w, ap (λ (x : ℕ). x * w) a)));
          }

pub blank_end : (s₀ : List ℕ) (w out : ℕ) (s : List ℕ) (k : ℕ) → PassAt s₀ w out (λ i j. 0) s k → w * w ≤ k → BlankPost s₀ s w out
blank_end s₀ w out s k inv h =
    let (all, rest) = pass_end s₀ w out (λ i j. 0) s k inv h in
    record { plane = record { holds = λ i j hi hj. record { by_begin = all i j (omega arith) hj; by_end = all j i hj (omega arith) } }; kept = rest }

-- ---- one plane added to another

or_bits : (a b : Bool) → bit_or (bit_of b) (bit_of a) ≡ bit_of (a || b)
or_bits true true = refl
or_bits true false = refl
or_bits false true = refl
or_bits false false = refl

abbrev pub either : List ℕ → ℕ → ℕ → ℕ → ℕ → ℕ → ℕ
either s w from out i j = bit_or (cell s w out i j) (cell s w from i j)

pub add_end : (s₀ : List ℕ) (w from out : ℕ) → AddPre s₀ w from out → (s : List ℕ) (k : ℕ) → PassAt s₀ w out (either s₀ w from out) s k → w * w ≤ k → AddPost s₀ s w from out
add_end s₀ w from out ok s k inv h =
    let (all, rest) = pass_end s₀ w out (either s₀ w from out) s k inv h in
    record {
      plane = record {
        holds = λ i j hi hj.
            let a = ok.added.flags.holds i j hi hj in
            let b = ok.into.flags.holds i j hi hj in
            let or = or_bits (on s₀ w from i j) (on s₀ w out i j) in
            record { by_begin = all i j (omega arith) hj ∙ ap₂ bit_or b.by_begin a.by_begin ∙ or; by_end = all j i hj (omega arith) ∙ ap₂ bit_or b.by_end a.by_end ∙ or };
      };
      kept = rest;
    }
