-- What the states of the parser mean: which bytes have been read in each. To be believed.
use Rattle.std.specs.Prelude.{◌≡◌, List, [], ◌∷◌, ◌++◌, ℕ, suc, ◌+◌}
use Rattle.std.proofs.Math.Option.{Option, none, some}
use Rattle.pattern.specs.Numbers.{opening_byte, comma_byte, point_byte}
use Rattle.pattern.specs.Bytes.{Bytes}
use Rattle.pattern.specs.Syntax.{pattern, atom, Syntax, repeat, size}
use Rattle.pattern.specs.Meaning.{Cut}
use Rattle.pattern.specs.Grammar.{Number, Low, Count, Quoted, Derives}
use Rattle.pattern.specs.Parser.{CountState, empty, first, pointed, second, Phase, counting, inside, after, Stack, top, within, ParserState, step}

-- the state after more bytes, none if no pattern continues with them
unfoldable pub state_after : ParserState → Bytes → Option ParserState
state_after q [] = some q
state_after q (c ∷ s) = elim (step q c) [ none ↦ none | some q' ↦ state_after q' s ]

-- the atoms before, the nearest first
unfoldable pub AtomsBefore : List (Syntax atom) → Bytes → Type 0
AtomsBefore [] u = u ≡ []
AtomsBefore (a ∷ before) u = Cut (AtomsBefore before) (Derives a) u

-- the branches before, the nearest first, each with its comma
unfoldable pub BranchesBefore : List (Syntax pattern) → Bytes → Type 0
BranchesBefore [] u = u ≡ []
BranchesBefore (p ∷ others) u = (x y : Bytes) × (u ≡ x ++ y ++ comma_byte ∷ []) × BranchesBefore others x × Derives p y

-- the atom is the first of its branch
unfoldable pub AtBranchStart : Stack → Type 0
AtBranchStart (top before) = before ≡ []
AtBranchStart (within k low high others before) = before ≡ []

-- a count so far; after an atom the next count has begun
unfoldable pub CountSoFar : Stack → CountState → Bytes → Type 0
CountSoFar k empty u = (u ≡ []) × AtBranchStart k
CountSoFar k (first n) u = Number n u
CountSoFar k (pointed n) u = (x : Bytes) × (u ≡ x ++ point_byte ∷ []) × Low n x
CountSoFar k (second n m) u = (x y : Bytes) × (u ≡ x ++ point_byte ∷ y) × Low n x × Number m y

-- what the stack stands for: all that is before the atom
unfoldable pub StackSoFar : Stack → Bytes → Type 0
StackSoFar (top before) u = AtomsBefore before u
StackSoFar (within k low high others before) u =
    (x y z w : Bytes) × (u ≡ x ++ y ++ opening_byte ∷ z ++ w) × StackSoFar k x × Count low high y × BranchesBefore others z × AtomsBefore before w

-- what a state stands for: all that has been read
unfoldable pub ReadSoFar : Phase → Stack → Bytes → Type 0
ReadSoFar (counting r) k u = Cut (StackSoFar k) (CountSoFar k r) u
ReadSoFar (inside low high value) k u = Cut (StackSoFar k) (Cut (Count low high) (Quoted value)) u
ReadSoFar (after low high b) k u = Cut (StackSoFar k) (Derives (repeat low high b)) u

-- how many atoms the atoms before, the branches before and all that stands before have
unfoldable pub before_size : List (Syntax atom) → ℕ
before_size [] = 0
before_size (a ∷ before) = size a + before_size before

unfoldable pub others_size : List (Syntax pattern) → ℕ
others_size [] = 0
others_size (p ∷ others) = size p + others_size others

unfoldable pub stack_size : Stack → ℕ
stack_size (top before) = before_size before
stack_size (within k l h others before) = suc (stack_size k) + others_size others + before_size before

-- how many atoms have begun in a state
unfoldable pub begun_at : Phase → Stack → ℕ
begun_at (counting empty) k = stack_size k
begun_at (counting (first n)) k = suc (stack_size k)
begun_at (counting (pointed n)) k = suc (stack_size k)
begun_at (counting (second n m)) k = suc (stack_size k)
begun_at (inside l h value) k = suc (stack_size k)
begun_at (after l h b) k = suc (size b) + stack_size k
