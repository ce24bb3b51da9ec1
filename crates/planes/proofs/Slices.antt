-- Stretches of a label beside a set of codes and beside bytes of the table. Assumes nothing.
use mathlib.Core.Path.{◌≡◌, refl, sym, ap, ◌∙◌}
use mathlib.Core.Bool.{Bool, true, false}
use mathlib.Core.List.{[], ◌∷◌}
use Prim.Native.Nat.{ℕ, suc, ◌-◌, ◌≤◌}
use native.Mathlib.Omega.{arith}
use lib.ListN.{length, get_or}
use lib.Seq.{slice, slice_empty, slice-cons, length-slice}
use Rattle.pattern.specs.Bytes.{Bytes, equal}
use Rattle.pattern.specs.Codes.{in_set}
use Rattle.pattern.specs.Decision.{single}
use Rattle.pattern.proofs.Tests.{Decides}
use Rattle.pattern.proofs.Agree.{equal_decides}

single_short : (set : ℕ) (s : Bytes) → (length s ≡ 1 → ⊥) → single set s ≡ false
unfolding single
single_short set [] h = refl
single_short set (b ∷ []) h = absurd (h refl)
single_short set (b ∷ c ∷ s) h = refl

module _ (set : ℕ) (l : Bytes) (i j : ℕ) (hj : j ≤ length l) where
  pub single_byte : j - i ≡ 1 → single set (slice i j l) ≡ in_set set (get_or l i 0)
  unfolding single
  single_byte e =
      let z : j ≡ suc i = omega arith in
      ap (single set) (slice-cons i j l 0 (omega arith) hj ∙ ap (λ (t : Bytes). get_or l i 0 ∷ t) (ap (λ (k : ℕ). slice (suc i) k l) z ∙ slice_empty (suc i) l))

  pub single_not : (j - i ≡ 1 → ⊥) → single set (slice i j l) ≡ false
  single_not h = single_short set (slice i j l) (λ e. h (sym (length-slice i j l hj) ∙ e))

pub equal_false : (s v : Bytes) → (s ≡ v → ⊥) → equal s v ≡ false
equal_false s v h = go (equal s v) (equal_decides s v)
  where
    go : (b : Bool) → Decides b (s ≡ v) → b ≡ false
    go true d = absurd (h (d.sound tt))
    go false d = refl

module _ (l t : Bytes) (i j from to : ℕ) (hj : j ≤ length l) (ht : to ≤ length t) where
  pub equal_apart : (to - from ≡ j - i → ⊥) → equal (slice i j l) (slice from to t) ≡ false
  equal_apart h = equal_false _ _ (λ e. h (sym (length-slice from to t ht) ∙ ap length (sym e) ∙ length-slice i j l hj))
