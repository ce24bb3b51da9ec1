-- What a summary of a set of byte strings is, when it is exact, how that of a pattern is worked out, and what it rules out. To be believed.
use Rattle.std.specs.Prelude.{◌≡◌, Bool, true, false, cond, not, ◌&&◌, ◌||◌, [], ◌∷◌, ℕ, zero, suc, ◌+◌, ◌*◌, ◌≤◌, ◌<◌, min, max, T, leb, ltb, eqb, length}
use Rattle.std.proofs.Math.Option.{Option, none, some}
use Rattle.pattern.specs.Bytes.{Bytes, le16}
use Rattle.pattern.specs.Codes.{in_set}
use Rattle.pattern.specs.Syntax.{Sort, Syntax, last, then, repeat, codes, literal, group, only, or}
use Rattle.pattern.specs.Decision.{any}

-- "each written as 256 if above 255"
abbrev pub length_cap : ℕ
length_cap = 256

-- the bytes are the numbers below this
abbrev pub byte_count : ℕ
byte_count = 256

-- the shortest length, the longest, and "the set of bytes that can begin a non-empty one"
pub record Summary : Type 0 where
  pub shortest : ℕ
  pub longest : ℕ
  pub first : ℕ → Bool

-- ---- when it is exact: of any set P of byte strings, "over strings of any length"

-- "the shortest length of any byte string that satisfies it"; 256 if no string is in the set
pub record IsShortest (P : Bytes → Type 0) (n : ℕ) : Type 0 where
  pub capped : n ≤ length_cap
  pub least : (s : Bytes) → P s → n ≤ length s
  pub met : n < length_cap → (s : Bytes) × P s × (length s ≡ n)

-- "the longest"; 0 if no string is in the set
pub record IsLongest (P : Bytes → Type 0) (n : ℕ) : Type 0 where
  pub capped : n ≤ length_cap
  pub most : (s : Bytes) → P s → min (length s) length_cap ≤ n
  pub met : 0 < n → (s : Bytes) × P s × (n ≤ length s)

-- "the set of bytes that can begin a non-empty one"
pub record AreFirst (P : Bytes → Type 0) (f : ℕ → Bool) : Type 0 where
  pub sound : (b : ℕ) → T (f b) → (s : Bytes) × P (b ∷ s)
  pub complete : (b : ℕ) (s : Bytes) → P (b ∷ s) → T (f b)

-- "These three are exact"
pub record Exact (P : Bytes → Type 0) (m : Summary) : Type 0 where
  pub shortest : IsShortest P m.shortest
  pub longest : IsLongest P m.longest
  pub first : AreFirst P m.first

-- ---- how it is worked out

-- something satisfies it: what nothing satisfies has shortest 256 and longest 0
unfoldable pub possible : Summary → Bool
possible m = leb m.shortest m.longest

-- one byte of a class, which may be empty
unfoldable pub of_class : (ℕ → Bool) → Summary
of_class f = let full : Bool = any byte_count f in record { shortest = cond full 1 length_cap; longest = cond full 1 0; first = f }

unfoldable pub of_literal : Bytes → Summary
of_literal [] = record { shortest = 0; longest = 0; first = λ b. false }
of_literal (a ∷ s) = record { shortest = min (suc (length s)) length_cap; longest = min (suc (length s)) length_cap; first = eqb a }

-- one after the other
unfoldable pub of_both : Summary → Summary → Summary
of_both m n = record {
  shortest = min (m.shortest + n.shortest) length_cap;
  longest = cond (possible m && possible n) (min (m.longest + n.longest) length_cap) 0;
  first = λ b. possible n && (m.first b || eqb m.shortest 0 && n.first b);
}

-- one or the other
unfoldable pub of_either : Summary → Summary → Summary
of_either m n = record { shortest = min m.shortest n.shortest; longest = max m.longest n.longest; first = λ b. m.first b || n.first b }

-- a length as often as the high number allows
unfoldable pub often : Option ℕ → ℕ → ℕ
often none n = cond (eqb n 0) 0 length_cap
often (some high) n = min (high * n) length_cap

-- the high number allows one
unfoldable pub once : Option ℕ → Bool
once none = true
once (some high) = leb 1 high

unfoldable pub of_repeat : ℕ → Option ℕ → Summary → Summary
of_repeat low high m = record { shortest = min (low * m.shortest) length_cap; longest = often high m.longest; first = λ b. once high && m.first b }

-- the summary of a tree
unfoldable pub summary_of : {s : Sort} → Syntax s → Summary
summary_of (last a) = summary_of a
summary_of (then a p) = of_both (summary_of a) (summary_of p)
summary_of (repeat low high b) = of_repeat low high (summary_of b)
summary_of (codes set) = of_class (in_set set)
summary_of (literal value) = of_literal value
summary_of (group bs) = summary_of bs
summary_of (only p) = summary_of p
summary_of (or p bs) = of_either (summary_of p) (summary_of bs)

-- ---- its bytes

-- n bits as a number, the lowest first
unfoldable pub bits : ℕ → (ℕ → Bool) → ℕ
bits zero f = 0
bits (suc n) f = cond (f 0) 1 0 + 2 * bits n (λ j. f (suc j))

-- a set in n bytes: b is bit b % 8 of byte b / 8
unfoldable pub set_bytes : ℕ → (ℕ → Bool) → Bytes
set_bytes zero f = []
set_bytes (suc n) f = bits 8 f ∷ set_bytes n (λ b. f (8 + b))

-- shortest and longest in 16 bits each, and the set
unfoldable pub summary_bytes : Summary → Bytes
summary_bytes m = le16 m.shortest (le16 m.longest (set_bytes 32 m.first))

abbrev pub summary_size : ℕ
summary_size = 36

-- ---- what it rules out

-- "rules out the label's length"
unfoldable pub length_out : Summary → Bytes → Bool
length_out m l = ltb (length l) m.shortest || ltb m.longest (length l)

-- "or its first byte if it has one"
unfoldable pub first_out : Summary → Bytes → Bool
first_out m [] = false
first_out m (b ∷ l) = not (m.first b)

unfoldable pub rules_out : Summary → Bytes → Bool
rules_out m l = length_out m l || first_out m l

-- what that comes to, by the strings themselves: every string of P is longer than the label, or every one shorter, or none begins with its first byte
pub data RuledOut (P : Bytes → Type 0) (l : Bytes) : Type 0 where
  too_short : ((s : Bytes) → P s → length l < length s) → RuledOut P l
  too_long : ((s : Bytes) → P s → length s < length l) → RuledOut P l
  never_first : (b : ℕ) (rest : Bytes) → l ≡ b ∷ rest → ((s : Bytes) → ¬ P (b ∷ s)) → RuledOut P l
