-- The parts that a reply lists are the verdict's own. Assumes nothing.
use mathlib.Core.Path.{◌≡◌, refl, ap, ap₂, ◌∙◌}
use mathlib.Core.List.{List, [], ◌∷◌}
use Prim.Native.Nat.{ℕ, ◌+◌, ◌*◌, ◌/◌, ◌%◌}
use native.Mathlib.Omega.{arith}
use lib.ListN.{length, take}
use lib.Seq.{take-append_seam}
use Rattle.pattern.specs.Bytes.{Bytes, numbers_in, overwrite}
use Rattle.pattern.specs.Answers.{part_bytes}
use Rattle.pattern.proofs.Longest.{part_bytes_length}

-- ends are read as they were written
numbers_read : (es : List ℕ) → numbers_in (part_bytes es) ≡ es
unfolding part_bytes numbers_in
numbers_read [] = refl
numbers_read (e ∷ es) = let v : e % 256 + 256 * (e / 256) ≡ e = omega arith in ap₂ (λ x y. x ∷ y) v (numbers_read es)

-- from the first bytes of the parts
pub parts_read : (es : List ℕ) (k : ℕ) (lent : Bytes) → length es ≡ k → numbers_in (take (2 * k) (overwrite (part_bytes es) lent)) ≡ es
unfolding overwrite
parts_read es k lent e =
    let n : 2 * k ≡ length (part_bytes es) = omega (arith, part_bytes_length es) in
    ap (λ m. numbers_in (take m (overwrite (part_bytes es) lent))) n ∙ ap numbers_in (take-append_seam (part_bytes es) _) ∙ numbers_read es
