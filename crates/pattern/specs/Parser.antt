-- The parser: an automaton over the bytes of a source, with the tree read so far. To be believed.
use Rattle.std.specs.Prelude.{List, [], ◌∷◌, ◌++◌, ℕ, ◌+◌, ◌-◌, ◌*◌}
use Rattle.std.proofs.Math.Option.{Option, none, some}
use Rattle.std.specs.Int.Bits.{bit_or}
use Rattle.pattern.specs.Numbers.{quote_byte, zero_byte}
use Rattle.pattern.specs.Bytes.{Bytes}
use Rattle.pattern.specs.Codes.{bit}
use Rattle.pattern.specs.Syntax.{pattern, atom, body, branches, Syntax, last, then, repeat, codes, literal, group, only, or}
use Rattle.pattern.specs.Grammar.{BodyStart, letter, quote, opening, BranchEnd, closing, comma, neither, CountChar, digit, point, CharClass, count_char, body_start, branch_end, char_class, LiteralClass, plain, quoting, barred, literal_class}

-- the state of a count so far: nothing; in its first number; after the point; in its second number
pub data CountState : Type 0 where
  empty : CountState
  first pointed : (n : ℕ) → CountState
  second : (n m : ℕ) → CountState

-- the phase between two bytes: before or in a count; inside a literal; after a body or a part of it, which a code letter, a quote or a closing parenthesis ended
pub data Phase : Type 0 where
  counting : CountState → Phase
  inside : (low : ℕ) (high : Option ℕ) (value : Bytes) → Phase
  after : (low : ℕ) (high : Option ℕ) → Syntax body → Phase

-- the stack: what stands before the atom, the nearest first: the atoms before it in its branch, and if a group is open its count and the branches before
pub data Stack : Type 0 where
  top : (before : List (Syntax atom)) → Stack
  within : Stack → (low : ℕ) (high : Option ℕ) (others : List (Syntax pattern)) (before : List (Syntax atom)) → Stack

-- the pattern of the atoms before and then p
unfoldable pub chain : List (Syntax atom) → Syntax pattern → Syntax pattern
chain [] p = p
chain (a ∷ before) p = chain before (then a p)

-- the branches before and then bs
unfoldable pub fork : List (Syntax pattern) → Syntax branches → Syntax branches
fork [] bs = bs
fork (p ∷ others) bs = fork others (or p bs)

-- an atom is over, and another one begins
unfoldable pub next : Stack → Syntax atom → Stack
next (top before) a = top (a ∷ before)
next (within k low high others before) a = within k low high others (a ∷ before)

abbrev pub ParserState : Type 0
ParserState = Phase × Stack

-- a body begins
unfoldable pub enter : ℕ → Option ℕ → Stack → BodyStart → ℕ → ParserState
enter low high k letter c = (after low high (codes (bit c)), k)
enter low high k quote c = (inside low high [], k)
enter low high k opening c = (counting empty, within k low high [] [])

-- a body goes on: another letter, or a doubled quote
unfoldable pub extend : ℕ → Option ℕ → Syntax body → Stack → BodyStart → ℕ → Option ParserState
extend low high (codes set) k letter c = some (after low high (codes (bit_or set (bit c))), k)
extend low high (codes set) k quote c = none
extend low high (codes set) k opening c = none
extend low high (literal value) k letter c = none
extend low high (literal value) k quote c = some (inside low high (value ++ quote_byte ∷ []), k)
extend low high (literal value) k opening c = none
extend low high (group bs) k b c = none

-- a branch ends
unfoldable pub leave : Stack → Syntax atom → BranchEnd → Option ParserState
leave (top before) a e = none
leave (within k low high others before) a closing = some (after low high (group (fork others (only (chain before (last a))))), k)
leave (within k low high others before) a comma = some (counting empty, within k low high (chain before (last a) ∷ others) [])
leave (within k low high others before) a neither = none

-- a byte of a literal
unfoldable pub quoted : ℕ → Option ℕ → Bytes → Stack → LiteralClass → ℕ → Option ParserState
quoted low high value k plain c = some (inside low high (value ++ c ∷ []), k)
quoted low high value k quoting c = some (after low high (literal value), k)
quoted low high value k barred c = none

-- a count goes on
unfoldable pub grow : CountState → CountChar → ℕ → Option CountState
grow empty digit c = some (first (c - zero_byte))
grow empty point c = some (pointed 0)
grow (first n) digit c = some (first (10 * n + (c - zero_byte)))
grow (first n) point c = some (pointed n)
grow (pointed n) digit c = some (second n (c - zero_byte))
grow (pointed n) point c = none
grow (second n m) digit c = some (second n (10 * m + (c - zero_byte)))
grow (second n m) point c = none

unfoldable pub counted : Stack → Option CountState → Option ParserState
counted k none = none
counted k (some r) = some (counting r, k)

-- the state after one more byte, none if no pattern continues with it
unfoldable pub move : Phase → Stack → CharClass → ℕ → Option ParserState
move (counting r) k (count_char m) c = counted k (grow r m c)
move (counting empty) k (body_start b) c = none
move (counting (first n)) k (body_start b) c = some (enter n (some n) k b c)
move (counting (pointed n)) k (body_start b) c = some (enter n none k b c)
move (counting (second n m)) k (body_start b) c = some (enter n (some m) k b c)
move (counting r) k (branch_end e) c = none
move (inside low high value) k x c = quoted low high value k (literal_class c) c
move (after low high b) k (count_char m) c = counted (next k (repeat low high b)) (grow empty m c)
move (after low high b) k (body_start x) c = extend low high b k x c
move (after low high b) k (branch_end e) c = leave k (repeat low high b) e

unfoldable pub step : ParserState → ℕ → Option ParserState
step q c = move q.0 q.1 (char_class c) c

-- the tree if the source may end here
unfoldable pub finish : Phase → Stack → Option (Syntax pattern)
finish (counting r) k = none
finish (inside low high value) k = none
finish (after low high b) (top before) = some (chain before (last (repeat low high b)))
finish (after low high b) (within k l h others before) = none

-- the tree of a source, its rest read from a state on
unfoldable pub read_from : ParserState → Bytes → Option (Syntax pattern)
read_from q [] = finish q.0 q.1
read_from q (c ∷ s) = elim (step q c) [ none ↦ none | some q' ↦ read_from q' s ]

abbrev pub start : ParserState
start = (counting empty, top [])

unfoldable pub read : Bytes → Option (Syntax pattern)
read s = read_from start s
