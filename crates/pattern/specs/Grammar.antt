-- The grammar: which sources a tree derives. Any letter counts as a code here, and no number is limited. To be believed.
use Rattle.std.specs.Prelude.{◌≡◌, ◌||◌, cond, [], ◌∷◌, ◌++◌, ℕ, ◌+◌, ◌-◌, ◌*◌, eqb}
use Rattle.std.proofs.Math.Option.{Option, none, some}
use Rattle.std.specs.Int.Bits.{bit_or}
use Rattle.pattern.specs.Numbers.{quote_byte, opening_byte, closing_byte, comma_byte, point_byte, zero_byte}
use Rattle.pattern.specs.Bytes.{Bytes, between}
use Rattle.pattern.specs.Codes.{bit}
use Rattle.pattern.specs.Syntax.{Sort, Syntax, last, then, repeat, codes, literal, group, only, or}
use Rattle.pattern.specs.Meaning.{Cut}

-- with what a body begins
pub data BodyStart : Type 0 where
  letter quote opening : BodyStart

-- with what a branch ends, or neither of the two
pub data BranchEnd : Type 0 where
  closing comma neither : BranchEnd

-- of what a count is made
pub data CountChar : Type 0 where
  digit point : CountChar

-- what a byte is, outside a literal
pub data CharClass : Type 0 where
  count_char : CountChar → CharClass
  body_start : BodyStart → CharClass
  branch_end : BranchEnd → CharClass

unfoldable pub char_class : ℕ → CharClass
char_class c =
    cond (between 48 57 c) (count_char digit)
    (cond (between 65 90 c || between 97 122 c) (body_start letter)
    (cond (eqb c point_byte) (count_char point)
    (cond (eqb c quote_byte) (body_start quote)
    (cond (eqb c opening_byte) (body_start opening)
    (cond (eqb c closing_byte) (branch_end closing)
    (cond (eqb c comma_byte) (branch_end comma) (branch_end neither)))))))

-- what a byte is, inside a literal
pub data LiteralClass : Type 0 where
  plain quoting barred : LiteralClass

unfoldable pub literal_class : ℕ → LiteralClass
literal_class c = cond (eqb c quote_byte) quoting (cond (between 32 126 c) plain barred)

-- a number: one or more digits, leading zeros allowed
pub data Number : ℕ → Bytes → Type 0 where
  one : (c : ℕ) → char_class c ≡ count_char digit → Number (c - zero_byte) (c ∷ [])
  more : {n : ℕ} {s : Bytes} → Number n s → (c : ℕ) → char_class c ≡ count_char digit → Number (10 * n + (c - zero_byte)) (s ++ c ∷ [])

-- a missing first number is 0
pub data Low : ℕ → Bytes → Type 0 where
  missing : Low 0 []
  given : {n : ℕ} {s : Bytes} → Number n s → Low n s

-- a repeat count: n; then . or n. without an upper end; then .m or n.m
pub data Count : ℕ → Option ℕ → Bytes → Type 0 where
  exact : {n : ℕ} {s : Bytes} → Number n s → Count n (some n) s
  from : {n : ℕ} {s : Bytes} → Low n s → Count n none (s ++ point_byte ∷ [])
  range : {n m : ℕ} {s w : Bytes} → Low n s → Number m w → Count n (some m) (s ++ point_byte ∷ w)

-- a set of codes: one or more letters, the union of their bits
pub data Letters : ℕ → Bytes → Type 0 where
  one : (c : ℕ) → char_class c ≡ body_start letter → Letters (bit c) (c ∷ [])
  more : {set : ℕ} {s : Bytes} → Letters set s → (c : ℕ) → char_class c ≡ body_start letter → Letters (bit_or set (bit c)) (s ++ c ∷ [])

-- a literal before its last quote: a quote and then the bytes of its value, a quote inside doubled
pub data Quoted : Bytes → Bytes → Type 0 where
  start : Quoted [] (quote_byte ∷ [])
  byte : {v s : Bytes} → Quoted v s → (c : ℕ) → literal_class c ≡ plain → Quoted (v ++ c ∷ []) (s ++ c ∷ [])
  quote : {v s : Bytes} → Quoted v s → Quoted (v ++ quote_byte ∷ []) (s ++ quote_byte ∷ quote_byte ∷ [])

-- a tree derives a source: the source is one of the ways to write the tree
unfoldable pub Derives : {s : Sort} → Syntax s → Bytes → Type 0
Derives (last a) s = Derives a s
Derives (then a p) s = Cut (Derives a) (Derives p) s
Derives (repeat low high b) s = Cut (Count low high) (Derives b) s
Derives (codes set) s = Letters set s
Derives (literal value) s = (q : Bytes) × (s ≡ q ++ quote_byte ∷ []) × Quoted value q
Derives (group bs) s = (w : Bytes) × (s ≡ opening_byte ∷ w ++ closing_byte ∷ []) × Derives bs w
Derives (only p) s = Derives p s
Derives (or p bs) s = (u w : Bytes) × (s ≡ u ++ comma_byte ∷ w) × Derives p u × Derives bs w
