-- The seven classes, tested at all 256 bytes against the character set laid out in order. Assumes nothing.
use mathlib.Core.Path.{◌≡◌, refl}
use mathlib.Core.Bool.{cond}
use mathlib.Core.List.{List, [], ◌∷◌, ◌++◌, map}
use Prim.Native.Nat.{ℕ, zero, suc, ◌+◌}
use lib.ListN.{replicate}
use Rattle.pattern.specs.Bytes.{between, bytes}
use Rattle.pattern.specs.Codes.{all_codes, in_ranges, in_codes, in_set, bit_among, bit}

-- the set of a byte's classes, with the bits of A C E L N P U
unfoldable pub classes : ℕ → ℕ
classes b =
    cond (in_set 1 b) 1 0 + cond (in_set 2 b) 2 0 + cond (in_set 4 b) 4 0 + cond (in_set 8 b) 8 0 + cond (in_set 16 b) 16 0 + cond (in_set 32 b) 32 0 + cond (in_set 64 b) 64 0

-- C and E
abbrev control : ℕ
control = 2 + 4

-- P and E
abbrev punctuation : ℕ
punctuation = 32 + 4

-- N and E
abbrev digit : ℕ
digit = 16 + 4

-- A, U and E
abbrev capital : ℕ
capital = 1 + 64 + 4

-- A, L and E
abbrev small : ℕ
small = 1 + 8 + 4

-- E alone
abbrev above_127 : ℕ
above_127 = 4

-- the character set in order: how many bytes of each sort follow each other
abbrev pub in_order : List ℕ
in_order =
    replicate 32 control ++ replicate 16 punctuation ++ replicate 10 digit ++ replicate 7 punctuation ++ replicate 26 capital
    ++ replicate 6 punctuation ++ replicate 26 small ++ replicate 4 punctuation ++ replicate 1 control ++ replicate 128 above_127

-- c numbers from b on
unfoldable pub count_up : ℕ → ℕ → List ℕ
count_up zero b = []
count_up (suc c) b = b ∷ count_up c (suc b)

-- the bits of the letters, of either case
pub bits_hold : (map bit (bytes "ACELNPU") ≡ 1 ∷ 2 ∷ 4 ∷ 8 ∷ 16 ∷ 32 ∷ 64 ∷ []) × (map bit (bytes "acelnpu") ≡ 1 ∷ 2 ∷ 4 ∷ 8 ∷ 16 ∷ 32 ∷ 64 ∷ [])
unfolding bytes all_codes bit_among bit
bits_hold = (refl, refl)

pub classes_hold : map classes (count_up 256 0) ≡ in_order
unfolding between all_codes in_ranges in_codes in_set classes count_up
classes_hold = refl
