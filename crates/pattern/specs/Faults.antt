-- The refusals of a source as the paper lists them: which rows of the table apply at each position, and where each stands by what the bytes spell.
-- To be believed.
use Rattle.std.specs.Prelude.{◌≡◌, ◌⊎◌, Bool, true, List, [], ◌∷◌, ◌++◌, ℕ, suc, ◌≤◌, ◌<◌, T, length, take, drop, get_or}
use Rattle.std.proofs.Math.Option.{Option, none, some}
use Rattle.pattern.specs.Numbers.{atom_limit, depth_limit, number_limit, set_limit, FORM}
use Rattle.pattern.specs.Bytes.{Bytes}
use Rattle.pattern.specs.Codes.{bit}
use Rattle.pattern.specs.Syntax.{pattern, Syntax, codes}
use Rattle.pattern.specs.Grammar.{CountChar, count_char, char_class, Derives}
use Rattle.pattern.specs.Parser.{CountState, empty, first, pointed, second, counting, after, Stack, top, within, ParserState, step, finish, start}
use Rattle.pattern.specs.ParserInvariant.{state_after, CountSoFar, StackSoFar, ReadSoFar, stack_size, begun_at}
use Rattle.pattern.specs.Scan.{depth, begins, rows, Outcome, refused, accepted}

-- ---- the rows at each position, and the least of them

-- FORM, with which the search for faults ends
abbrev pub form_row : List (Bool × ℕ)
form_row = (true, FORM) ∷ []

-- the rows in a state of the parser with the source s to come: FORM alone where no pattern continues so, else rows 3 to 7
unfoldable pub rows_there : Option ParserState → Bytes → List (Bool × ℕ)
rows_there none s = []
rows_there (some q) [] = elim (finish q.0 q.1) [ none ↦ form_row | some t ↦ [] ]
rows_there (some q) (c ∷ s) = elim (step q c) [ none ↦ form_row | some q' ↦ rows (begins q.0 (char_class c)) (depth q.1) (begun_at q.0 q.1) c s ]

-- the rows at a position: those in the state after the bytes before it; none where no pattern begins with them
unfoldable pub rows_at : Bytes → ℕ → List (Bool × ℕ)
rows_at s p = rows_there (state_after start (take p s)) (drop p s)

-- one of the rows applies, and this is its number
unfoldable pub Applies : List (Bool × ℕ) → ℕ → Type 0
Applies [] f = ⊥
Applies (t ∷ ts) f = (T t.0 × (t.1 ≡ f)) ⊎ Applies ts f

-- "the one with the least position, and at one position the lower number"; or no row applies anywhere
unfoldable pub Least : Bytes → Outcome → Type 0
Least s (refused f p) = Applies (rows_at s p) f × ((g : ℕ) → Applies (rows_at s p) g → f ≤ g) × ((j g : ℕ) → j < p → ¬ Applies (rows_at s j) g)
Least s (accepted t) = (j g : ℕ) → ¬ Applies (rows_at s j) g

-- ---- where each stands, by what the bytes spell

-- bytes that some pattern begins with
unfoldable pub Viable : Bytes → Type 0
Viable u = (w : Bytes) × (t : Syntax pattern) × Derives t (u ++ w)

-- FORM, without the automaton: the "first byte that no pattern continues with, or the length if the source ends too soon"
unfoldable pub FormAt : Bytes → ℕ → Type 0
FormAt s p = Viable (take p s) × (((p < length s) × ¬ Viable (take (suc p) s)) ⊎ ((p ≡ length s) × ¬ ((t : Syntax pattern) × Derives t s)))

-- CODE, "a letter other than the seven stands as a code", at "the letter": the bytes up to and with it end in code letters, of which the
-- last is none of the seven
unfoldable pub CodeAt : Bytes → ℕ → Type 0
CodeAt s p = (p < length s) × (set_limit ≤ bit (get_or s p 0)) × (l : ℕ) × (h : Option ℕ) × (set : ℕ) × (k : Stack) × ReadSoFar (after l h (codes set)) k (take (suc p) s)

-- a count so far that ends in a number over 9,999
unfoldable pub Over : CountState → Type 0
Over empty = ⊥
Over (first n) = number_limit < n
Over (pointed n) = ⊥
Over (second n m) = number_limit < m

-- NUMBER, by what the bytes up to and with a digit spell: all that is before an atom, and then such a count so far. The least such
-- position is "the first digit that takes the value above 9,999"
unfoldable pub NumberAt : Bytes → ℕ → Type 0
NumberAt s p = (p < length s) × (r : CountState) × (k : Stack) × Over r × ReadSoFar (counting r) k (take (suc p) s)

-- "taken as the longest run": s begins with a count in this state, and no longer beginning of s is a count
unfoldable pub LongestCount : CountState → Bytes → Type 0
LongestCount r s =
    (w rest : Bytes) × (s ≡ w ++ rest) × CountSoFar (top []) r w × ((x y : Bytes) (r' : CountState) → rest ≡ x ++ y → CountSoFar (top []) r' (w ++ x) → x ≡ [])

-- RANGE at the "first byte of the count": all that is before an atom stands before it, and then a count of which "both numbers fit and the
-- second is less"
unfoldable pub RangeAt : Bytes → ℕ → Type 0
RangeAt s p = (k : Stack) × StackSoFar k (take p s) × (n m : ℕ) × LongestCount (second n m) (drop p s) × (n ≤ number_limit) × (m ≤ number_limit) × (m < n)

-- an atom begins with a byte of a count
unfoldable pub AtomBegins : Bytes → Type 0
AtomBegins [] = ⊥
AtomBegins (c ∷ s) = (m : CountChar) × (char_class c ≡ count_char m)

-- ATOMS, by "Atom limit 256", at "its first byte": all that is before an atom stands before it, with 256 atoms in it or more
unfoldable pub AtomsAt : Bytes → ℕ → Type 0
AtomsAt s p = (k : Stack) × StackSoFar k (take p s) × (atom_limit ≤ stack_size k) × AtomBegins (drop p s)

-- DEPTH, "a group opens inside 8 open ones", at "its (": the bytes up to and with it open a group
unfoldable pub DepthAt : Bytes → ℕ → Type 0
DepthAt s p = (p < length s) × (k : Stack) × (l : ℕ) × (h : Option ℕ) × (depth_limit ≤ depth k) × StackSoFar (within k l h [] []) (take (suc p) s)
