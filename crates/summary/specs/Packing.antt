-- A summary as the code holds it, and what is worked out of two. Private: a model for contracts inside the library.
use Rattle.std.specs.Prelude.{Bool, cond, List, [], ◌∷◌, ◌++◌, get_or, ℕ, ◌+◌, ◌*◌, ◌≤◌, min, max, leb, eqb}
use Rattle.std.proofs.Math.Option.{Option}
use Rattle.std.specs.Int.Bits.{bit_or}
use Rattle.pattern.specs.Bytes.{Bytes, le16, little}
use Rattle.summary.specs.Summary.{length_cap, Summary, often, once, bits}
use Rattle.summary.specs.declared.packed.Packed.{Packed}

-- word i of a set of bytes, 64 to a word
unfoldable pub word_of : (ℕ → Bool) → ℕ → ℕ
word_of f i = bits 64 (λ j. f (64 * i + j))

-- the four of them
unfoldable pub words_of : (ℕ → Bool) → List ℕ
words_of f = word_of f 0 ∷ word_of f 1 ∷ word_of f 2 ∷ word_of f 3 ∷ []

unfoldable pub packed_of : Summary → Packed
packed_of m = record { shortest = m.shortest; longest = m.longest; first = words_of m.first }

-- the words of no bytes
abbrev pub no_bytes : List ℕ
no_bytes = 0 ∷ 0 ∷ 0 ∷ 0 ∷ []

-- those of the bytes of two sets
unfoldable pub union : List ℕ → List ℕ → List ℕ
union v w = bit_or (get_or v 0 0) (get_or w 0 0) ∷ bit_or (get_or v 1 0) (get_or w 1 0) ∷ bit_or (get_or v 2 0) (get_or w 2 0) ∷ bit_or (get_or v 3 0) (get_or w 3 0) ∷ []

-- its numbers are at most 256
pub record Capped (m : Packed) : Type 0 where
  pub shortest : m.shortest ≤ length_cap
  pub longest : m.longest ≤ length_cap

-- the longest of both, where something satisfies the second
unfoldable pub longest_both : Packed → Packed → ℕ
longest_both m n = cond (leb m.shortest m.longest) (min (m.longest + n.longest) length_cap) 0

-- the first bytes of both: none if nothing satisfies the second, and the second's too if the first can be empty
unfoldable pub both_first : (possible empty : Bool) → List ℕ → List ℕ → List ℕ
both_first possible empty v w = cond possible (cond empty (union v w) v) no_bytes

unfoldable pub both_packed : Packed → Packed → Packed
both_packed m n = record {
  shortest = min (m.shortest + n.shortest) length_cap;
  longest = cond (leb n.shortest n.longest) (longest_both m n) 0;
  first = both_first (leb n.shortest n.longest) (eqb m.shortest 0) m.first n.first;
}

unfoldable pub either_packed : Packed → Packed → Packed
either_packed m n = record { shortest = min m.shortest n.shortest; longest = max m.longest n.longest; first = union m.first n.first }

unfoldable pub repeat_packed : ℕ → Option ℕ → Packed → Packed
repeat_packed low high m = record { shortest = min (low * m.shortest) length_cap; longest = often high m.longest; first = cond (once high) m.first no_bytes }

-- words one after the other
unfoldable pub words_bytes : List ℕ → Bytes
words_bytes [] = []
words_bytes (x ∷ v) = little 8 x ++ words_bytes v

-- what is written of it
unfoldable pub packed_bytes : Packed → Bytes
packed_bytes m = le16 m.shortest [] ++ le16 m.longest [] ++ words_bytes m.first
