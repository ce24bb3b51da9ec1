-- The classes hold bytes alone. Assumes nothing.
use mathlib.Core.Logic.{◌⊎◌, inl, inr, ⊎_elim}
use mathlib.Core.Bool.{Bool, true, false, ◌&&◌, ◌||◌}
use mathlib.Core.List.{List, [], ◌∷◌}
use Prim.Native.Nat.{ℕ, suc, ◌/◌, ◌%◌, ◌<◌}
use native.Mathlib.Omega.{arith}
use lib.Dec.{T, leb, eqb}
use Rattle.pattern.specs.Bytes.{between}
use Rattle.pattern.specs.Codes.{Code, all_codes, in_ranges, in_codes, in_set}
use Rattle.pattern.proofs.Tests.{and_both, leb_decides}
use Rattle.summary.specs.Summary.{byte_count}

or_cases : (a b : Bool) → T (a || b) → T a ⊎ T b
or_cases true b t = inl tt
or_cases false b t = inr t

-- every range of every code ends at a byte
ends_in : List (ℕ × ℕ) → Bool
ends_in [] = true
ends_in (r ∷ rs) = leb (suc r.1) byte_count && ends_in rs

all_in : List Code → Bool
all_in [] = true
all_in (c ∷ cs) = ends_in c.ranges && all_in cs

in_ranges_small : (rs : List (ℕ × ℕ)) → T (ends_in rs) → (b : ℕ) → T (in_ranges rs b) → b < byte_count
unfolding ends_in in_ranges between
in_ranges_small [] i b t = absurd t
in_ranges_small (r ∷ rs) i b t =
    let (h, k) = and_both (leb (suc r.1) byte_count) (ends_in rs) i in
    ⊎_elim (λ u. omega (arith, (leb_decides (suc r.1) byte_count).sound h, (leb_decides b r.1).sound (and_both (leb r.0 b) (leb b r.1) u).1))
    (in_ranges_small rs k b) (or_cases (between r.0 r.1 b) (in_ranges rs b) t)

in_codes_small : (cs : List Code) → T (all_in cs) → (set b : ℕ) → T (in_codes cs set b) → b < byte_count
unfolding all_in in_codes
in_codes_small [] i set b t = absurd t
in_codes_small (c ∷ cs) i set b t =
    let (h, k) = and_both (ends_in c.ranges) (all_in cs) i in
    ⊎_elim (λ u. in_ranges_small c.ranges h b (and_both (eqb (set % 2) 1) (in_ranges c.ranges b) u).1) (in_codes_small cs k (set / 2) b)
    (or_cases (eqb (set % 2) 1 && in_ranges c.ranges b) (in_codes cs (set / 2) b) t)

pub set_small : (set b : ℕ) → T (in_set set b) → b < byte_count
unfolding in_set all_codes all_in ends_in
set_small set b t = in_codes_small all_codes tt set b t
