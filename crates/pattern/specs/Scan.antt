-- The refusals of a source, 1 to 7, by the order of their positions, and the tree of an accepted one. To be believed.
use Rattle.std.specs.Prelude.{Bool, true, false, not, ◌&&◌, cond, List, [], ◌∷◌, ℕ, suc, ◌+◌, ◌-◌, ◌*◌, leb, ltb, length}
use Rattle.std.proofs.Math.Option.{Option, none, some}
use Rattle.pattern.specs.Numbers.{source_limit, atom_limit, depth_limit, number_limit, set_limit, zero_byte, LONG, FORM, CODE, NUMBER, RANGE, ATOMS, DEPTH}
use Rattle.pattern.specs.Bytes.{Bytes}
use Rattle.pattern.specs.Codes.{bit}
use Rattle.pattern.specs.Syntax.{pattern, Syntax}
use Rattle.pattern.specs.Grammar.{BodyStart, letter, quote, opening, digit, point, CharClass, count_char, body_start, branch_end, char_class}
use Rattle.pattern.specs.Parser.{CountState, empty, first, pointed, second, Phase, counting, inside, after, Stack, top, within, ParserState, grow, step, finish, start}

-- the two numbers of a count
unfoldable pub low : CountState → ℕ
low empty = 0
low (first n) = n
low (pointed n) = n
low (second n m) = n

unfoldable pub high : CountState → Option ℕ
high empty = none
high (first n) = some n
high (pointed n) = none
high (second n m) = some m

-- the longest count that begins so
unfoldable pub longest_count : CountState → Bytes → CountState
longest_count r [] = r
longest_count r (c ∷ s) = elim (char_class c) [ count_char m ↦ elim (grow r m c) [ none ↦ r | some r' ↦ longest_count r' s ] | body_start b ↦ r | branch_end e ↦ r ]

-- how many groups are open
unfoldable pub depth : Stack → ℕ
depth (top before) = 0
depth (within k l h others before) = suc (depth k)

-- what a byte begins or adds: an atom, one more digit of a number with this value so far, a code letter, a group, or none of these
pub data Begins : Type 0 where
  an_atom a_code a_group nothing : Begins
  a_digit : (value : ℕ) → Begins

unfoldable pub body_begins : BodyStart → Begins
body_begins letter = a_code
body_begins quote = nothing
body_begins opening = a_group

unfoldable pub begins : Phase → CharClass → Begins
begins (counting empty) (count_char m) = an_atom
begins (counting (first n)) (count_char digit) = a_digit n
begins (counting (first n)) (count_char point) = nothing
begins (counting (pointed n)) (count_char m) = nothing
begins (counting (second n m)) (count_char digit) = a_digit m
begins (counting (second n m)) (count_char point) = nothing
begins (counting r) (body_start b) = body_begins b
begins (counting r) (branch_end e) = nothing
begins (inside l h value) x = nothing
begins (after l h b) (count_char m) = an_atom
begins (after l h b) (body_start x) = body_begins x
begins (after l h b) (branch_end e) = nothing

-- the atoms begun once that byte is read
unfoldable pub begun : Begins → ℕ → ℕ
begun an_atom n = suc n
begun (a_digit v) n = n
begun a_code n = n
begun a_group n = n
begun nothing n = n

-- a second number over 9,999
unfoldable pub large : Option ℕ → Bool
large none = false
large (some m) = ltb number_limit m

-- a second number less than the first
unfoldable pub falls : ℕ → Option ℕ → Bool
falls n none = false
falls n (some m) = ltb m n

-- the number of the first test that finds a fault
unfoldable pub refuse : List (Bool × ℕ) → Option ℕ
refuse [] = none
refuse (t ∷ ts) = elim t.0 [ true ↦ some t.1 | false ↦ refuse ts ]

-- rows 5 and 6 of the refusal table for an atom that begins after n others with this count: "both numbers fit and the second is less",
-- and an atom begins after 256 others, by "Atom limit 256"
unfoldable pub atom_rows : ℕ → CountState → List (Bool × ℕ)
atom_rows n r =
    (leb (low r) number_limit && not (large (high r)) && falls (low r) (high r), RANGE)
    ∷ (leb atom_limit n, ATOMS)
    ∷ []

-- rows 3 to 7 for what begins with the byte c, inside d groups and after n atoms; s is the source after it. NUMBER applies at a digit with
-- which the value is above 9,999, and the least such "takes" it there; the first digit of a number is none
unfoldable pub rows : Begins → (d n c : ℕ) → Bytes → List (Bool × ℕ)
unfolding atom_rows
rows an_atom d n c s = atom_rows n (longest_count empty (c ∷ s))
rows (a_digit v) d n c s = (ltb number_limit (10 * v + (c - zero_byte)), NUMBER) ∷ []
rows a_code d n c s = (leb set_limit (bit c), CODE) ∷ []
rows a_group d n c s = (leb depth_limit d, DEPTH) ∷ []
rows nothing d n c s = []

-- the lowest fault other than FORM of what begins with a byte
unfoldable pub fault : Begins → (d n c : ℕ) → Bytes → Option ℕ
unfolding rows refuse
fault b d n c s = refuse (rows b d n c s)

-- what becomes of a source: the refusal and its position, or the tree
pub data Outcome : Type 0 where
  refused : (number position : ℕ) → Outcome
  accepted : Syntax pattern → Outcome

-- the source from position i on, after n atoms: the first position with a fault, and there the lowest number
unfoldable pub scan : ParserState → (i n : ℕ) → Bytes → Outcome
scan q i n [] = elim (finish q.0 q.1) [ none ↦ refused FORM i | some t ↦ accepted t ]
scan q i n (c ∷ s) = elim (step q c) [
  | none ↦ refused FORM i
  | some q' ↦ elim (fault (begins q.0 (char_class c)) (depth q.1) n c s) [
    | some f ↦ refused f i
    | none ↦ scan q' (suc i) (begun (begins q.0 (char_class c)) n) s
  ]
]

-- LONG first, then the scan
unfoldable pub outcome : Bytes → Outcome
outcome s = cond (leb (length s) source_limit) (scan start 0 0 s) (refused LONG source_limit)
