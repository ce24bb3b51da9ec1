-- The code letters with their bytes: one table for what a letter stands for, which bytes are of a set, and how a set is written. To be believed.
use Rattle.std.specs.Prelude.{Bool, false, ◌&&◌, ◌||◌, cond, List, [], ◌∷◌, ℕ, ◌+◌, ◌*◌, ◌/◌, ◌%◌, eqb}
use Rattle.pattern.specs.Bytes.{between}

-- a code: its capital letter, and the ranges of its bytes
pub record Code : Type 0 where
  pub letter : ℕ
  pub ranges : List (ℕ × ℕ)

-- the codes A C E L N P U, in the order of a set's bits; "E becomes 0 to 255" (02)
unfoldable pub all_codes : List Code
all_codes =
    record { letter = 65; ranges = (65, 90) ∷ (97, 122) ∷ [] }
    ∷ record { letter = 67; ranges = (0, 31) ∷ (127, 127) ∷ [] }
    ∷ record { letter = 69; ranges = (0, 255) ∷ [] }
    ∷ record { letter = 76; ranges = (97, 122) ∷ [] }
    ∷ record { letter = 78; ranges = (48, 57) ∷ [] }
    ∷ record { letter = 80; ranges = (32, 47) ∷ (58, 64) ∷ (91, 96) ∷ (123, 126) ∷ [] }
    ∷ record { letter = 85; ranges = (65, 90) ∷ [] }
    ∷ []

-- a byte is in one of the ranges
unfoldable pub in_ranges : List (ℕ × ℕ) → ℕ → Bool
in_ranges [] b = false
in_ranges (r ∷ rs) b = between r.0 r.1 b || in_ranges rs b

-- a byte is of a code whose bit is in the set
unfoldable pub in_codes : List Code → ℕ → ℕ → Bool
in_codes [] set b = false
in_codes (c ∷ cs) set b = eqb (set % 2) 1 && in_ranges c.ranges b || in_codes cs (set / 2) b

-- a byte is of the set
unfoldable pub in_set : ℕ → ℕ → Bool
in_set set b = in_codes all_codes set b

-- the bit of a letter of either case among codes whose first has this bit; the bit after all of them for any other letter
unfoldable pub bit_among : List Code → ℕ → ℕ → ℕ
bit_among [] bit c = bit
bit_among (l ∷ ls) bit c = cond (eqb l.letter c || eqb (l.letter + 32) c) bit (bit_among ls (bit * 2) c)

unfoldable pub bit : ℕ → ℕ
bit c = bit_among all_codes 1 c

-- "several letters mean the union": a byte is of the code of one of these letters
unfoldable pub in_letters : List ℕ → ℕ → Bool
in_letters [] b = false
in_letters (c ∷ s) b = in_set (bit c) b || in_letters s b
