-- The shortest source of a tree. To be believed.
use Rattle.std.specs.Prelude.{true, false, List, [], ◌∷◌, ◌++◌, ℕ, zero, suc, ◌+◌, ◌/◌, ◌%◌, ltb, eqb}
use Rattle.std.proofs.Math.Option.{Option, none, some}
use Rattle.pattern.specs.Numbers.{quote_byte, opening_byte, closing_byte, comma_byte, point_byte, zero_byte}
use Rattle.pattern.specs.Bytes.{Bytes}
use Rattle.pattern.specs.Codes.{Code, all_codes}
use Rattle.pattern.specs.Syntax.{Sort, Syntax, last, then, repeat, codes, literal, group, only, or}

-- a number in decimal, of at most f + 1 digits
unfoldable pub decimal_of : ℕ → ℕ → Bytes
decimal_of zero n = (zero_byte + n) ∷ []
decimal_of (suc f) n = elim (ltb n 10) [ true ↦ (zero_byte + n) ∷ [] | false ↦ decimal_of f (n / 10) ++ (zero_byte + n % 10) ∷ [] ]

-- n + 1 digits are enough for every n
unfoldable pub decimal : ℕ → Bytes
decimal n = decimal_of n n

-- "0 left out as the first number"
unfoldable pub print_low : ℕ → Bytes
print_low n = elim (eqb n 0) [ true ↦ [] | false ↦ decimal n ]

-- "one number if low equals high, else ., n., .m or n.m"
unfoldable pub print_count : ℕ → Option ℕ → Bytes
print_count low none = print_low low ++ point_byte ∷ []
print_count low (some high) = elim (eqb low high) [ true ↦ decimal low | false ↦ print_low low ++ point_byte ∷ decimal high ]

-- "capital letters in the order above, each once"
unfoldable pub print_set : List Code → ℕ → Bytes
print_set [] set = []
print_set (c ∷ cs) set = elim (eqb (set % 2) 1) [ true ↦ c.letter ∷ print_set cs (set / 2) | false ↦ print_set cs (set / 2) ]

-- the value of a literal with its quotes doubled
unfoldable pub double : Bytes → Bytes
double [] = []
double (c ∷ v) = elim (eqb c quote_byte) [ true ↦ quote_byte ∷ quote_byte ∷ double v | false ↦ c ∷ double v ]

unfoldable pub print : {s : Sort} → Syntax s → Bytes
print (last a) = print a
print (then a p) = print a ++ print p
print (repeat low high b) = print_count low high ++ print b
print (codes set) = print_set all_codes set
print (literal value) = quote_byte ∷ double value ++ quote_byte ∷ []
print (group bs) = opening_byte ∷ print bs ++ closing_byte ∷ []
print (only p) = print p
print (or p bs) = print p ++ comma_byte ∷ print bs
