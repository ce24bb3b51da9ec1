-- Two stretches of bytes compared. Assumes nothing.
use mathlib.Core.Path.{◌≡◌, refl, ap, ap₂, ◌∙◌}
use mathlib.Core.Bool.{Bool, ◌&&◌}
use mathlib.Core.List.{[], ◌∷◌}
use Prim.Native.Nat.{ℕ, ◌+◌}
use lib.Dec.{eqb}
use lib.Seq.{slice}
use Rattle.std.specs.Cmp.Lexicographic.{pointwise}
use Rattle.std.specs.List.{between}
use Rattle.std.proofs.lemmas.Slice.{between_is}
use Rattle.pattern.specs.Bytes.{Bytes, equal}

pub equal_pointwise : (s t : Bytes) → pointwise eqb s t ≡ equal s t
unfolding equal
equal_pointwise [] [] = refl
equal_pointwise [] (b ∷ t) = refl
equal_pointwise (a ∷ s) [] = refl
equal_pointwise (a ∷ s) (b ∷ t) = ap (λ (r : Bool). eqb a b && r) (equal_pointwise s t)

pub equal_slices : (s t : Bytes) (i j n : ℕ) → pointwise eqb (between i (i + n) s) (between j (j + n) t) ≡ equal (slice i (i + n) s) (slice j (j + n) t)
equal_slices s t i j n = equal_pointwise _ _ ∙ ap₂ equal (between_is s i (i + n)) (between_is t j (j + n))
