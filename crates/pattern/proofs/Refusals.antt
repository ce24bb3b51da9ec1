-- The numbers of the refusals: none is 0, and each has at most two digits. Assumes nothing.
use mathlib.Core.Path.{◌≡◌}
use Prim.Native.Nat.{◌<◌}
use native.Mathlib.Omega.{arith}
use Rattle.pattern.specs.Refusals.{number_of}
use Rattle.pattern.specs.declared.refusal.Refusal.{Refusal}
use Rattle.pattern.specs.declared.refusal.Refusal.TheVariants.{Long}

-- no refusal has the number 0
pub numbered : (r : Refusal) → ¬ (number_of r ≡ 0)
numbered Long e = omega arith
numbered _ e = omega arith

pub number_short : (r : Refusal) → number_of r < 100
number_short Long = omega arith
number_short _ = omega arith
