-- Three answer areas, byte by byte. Assumes nothing.
use mathlib.Core.Path.{◌≡◌, refl}
use mathlib.Core.List.{[], ◌∷◌, ◌++◌}
use lib.ListN.{replicate}
use Rattle.pattern.specs.Bytes.{little}
use Rattle.mpt.specs.Area.{four_numbers, area, search_area}

-- the area of verdict yes after 1,000 trials, of a refusal at position 258, and of a search with yes at number 255 after 7 that were skipped
pub areas_hold : (area record { number = 0; position = 0; value = 1; trials = 1000 } ≡ replicate 8 0 ++ 1 ∷ replicate 7 0 ++ 232 ∷ 3 ∷ replicate 14 0)
    × (area record { number = 2; position = 258; value = 0; trials = 0 } ≡ 2 ∷ 1 ∷ replicate 30 0)
    × (search_area record { number = 0; verdict = 1; at = 255; skipped = 7; scratch = []; parts = [] } ≡ replicate 8 0 ++ 1 ∷ replicate 7 0 ++ 255 ∷ replicate 7 0 ++ 7 ∷ replicate 7 0)
unfolding little four_numbers area search_area
areas_hold = (refl, refl, refl)
