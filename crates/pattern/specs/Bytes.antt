-- Lists of bytes. To be believed.
use Rattle.std.specs.Prelude.{Bool, true, false, ◌&&◌, List, [], ◌∷◌, ◌++◌, ℕ, zero, suc, ◌+◌, ◌*◌, ◌/◌, ◌%◌, leb, eqb, length, drop, replicate}
use Prim.Native.Char.{code}
use Prim.Native.String.{String, [] as end, ◌∷◌ as ◌then◌}

abbrev pub Bytes : Type 0
Bytes = List ℕ

-- a number is from a to b
unfoldable pub between : ℕ → ℕ → ℕ → Bool
between a b c = leb a c && leb c b

-- two lists are the same
unfoldable pub equal : Bytes → Bytes → Bool
equal [] [] = true
equal [] (b ∷ s) = false
equal (a ∷ v) [] = false
equal (a ∷ v) (b ∷ s) = eqb a b && equal v s

-- a number in two bytes, the lower first, before others
abbrev pub le16 : ℕ → Bytes → Bytes
le16 x s = x % 256 ∷ x / 256 ∷ s

-- a number in c bytes, the lowest first
unfoldable pub little : ℕ → ℕ → Bytes
little zero x = []
little (suc c) x = x % 256 ∷ little c (x / 256)

-- the number that bytes are, the lowest first
unfoldable pub number_in : Bytes → ℕ
number_in [] = 0
number_in (b ∷ s) = b + 256 * number_in s

-- the numbers that bytes hold, two bytes each, the lower first
unfoldable pub numbers_in : Bytes → List ℕ
numbers_in [] = []
numbers_in (a ∷ []) = []
numbers_in (a ∷ b ∷ s) = (a + 256 * b) ∷ numbers_in s

-- lent bytes with a result at their start; the bytes after it stay
unfoldable pub overwrite : Bytes → Bytes → Bytes
overwrite result lent = result ++ drop (length result) lent

-- lent bytes with zeros over the first n: "patient data stays in no buffer"
abbrev pub zeroed : (n : ℕ) → Bytes → Bytes
zeroed n lent = replicate n 0 ++ drop n lent

-- the bytes of a text
unfoldable pub bytes : String → Bytes
bytes end = []
bytes (c then s) = code c ∷ bytes s
