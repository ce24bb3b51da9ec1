-- The list `CLASSES`. Private: a model for contracts inside the library.
use Rattle.std.specs.Prelude.{cond, List, [], ◌∷◌, ℕ, zero, suc, ◌+◌, ◌*◌, ◌/◌, ◌%◌, ◌^◌, get_or, take, drop}
use Rattle.pattern.specs.Bytes.{Bytes}
use Rattle.pattern.specs.Codes.{Code, in_ranges}
use Rattle.pattern.proofs.Classes.{in_order}

-- sets in one number, the first in its lowest byte
abbrev packed : Bytes → ℕ
packed [] = 0
packed (s ∷ ss) = s + 256 * packed ss

-- a number for each of the first n eights
abbrev by_eights : (n : ℕ) → Bytes → List ℕ
by_eights zero ss = []
by_eights (suc n) ss = packed (take 8 ss) ∷ by_eights n (drop 8 ss)

-- the word of the eight bytes from 8 * k on
abbrev pub word_at : ℕ → ℕ
word_at k = get_or (by_eights 32 in_order) k 0

-- the set that the list has for a byte
abbrev pub set_at : ℕ → ℕ
set_at b = word_at (b / 8) / 2 ^ (b % 8 * 8) % 256

-- the set of the codes whose ranges have a byte, the first one's bit lowest
unfoldable pub set_of : List Code → ℕ → ℕ
set_of [] b = 0
set_of (c ∷ cs) b = set_of cs b * 2 + cond (in_ranges c.ranges b) 1 0
