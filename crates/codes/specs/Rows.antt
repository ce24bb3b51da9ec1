-- The rows of the table `CODES`. Private: a model for contracts inside the library.
use Rattle.std.specs.Prelude.{List, [], ◌∷◌, ◌++◌, map, ℕ, get_or, take}
use Rattle.pattern.specs.Bytes.{Bytes}
use Rattle.pattern.specs.Codes.{Code, all_codes}
use Rattle.codes.specs.declared.Code.{Code as Row}

-- the capital letter of the code with bit k, 0 past the last one
unfoldable pub letter_at : ℕ → ℕ
letter_at k = get_or (map (λ (c : Code). c.letter) all_codes) k 0

-- ranges one after the other, each its first and its last byte
unfoldable pub flatten : List (ℕ × ℕ) → Bytes
flatten [] = []
flatten (r ∷ rs) = r.0 ∷ r.1 ∷ flatten rs

-- the row of a code: its letter, and its ranges filled up to four with empty ones
unfoldable pub row_of : Code → Row
row_of c = record { letter = c.letter; ranges = take 8 (flatten c.ranges ++ 1 ∷ 0 ∷ 1 ∷ 0 ∷ 1 ∷ 0 ∷ []) }

-- the row of the code with bit k
unfoldable pub row_at : ℕ → Row
row_at k = get_or (map row_of all_codes) k (record { letter = 0; ranges = [] })

-- the ranges that a row holds
unfoldable pub ranges_in : Bytes → List (ℕ × ℕ)
ranges_in [] = []
ranges_in (a ∷ []) = []
ranges_in (a ∷ z ∷ s) = (a, z) ∷ ranges_in s

-- the codes as the rows have them
unfoldable pub table_codes : List Code
table_codes = map (λ (r : Row). record { letter = r.letter; ranges = ranges_in r.ranges }) (map row_of all_codes)
