-- A plain map from number to table: what it answers to a call, and what it becomes. To be believed.
use Rattle.std.specs.Prelude.{Bool, true, false, not, List, [], ◌∷◌, ◌++◌, ℕ, eqb, ltb, length, get_or, set, replicate}
use Rattle.std.proofs.Math.Option.{Option, none, some}
use Rattle.pattern.specs.Numbers.{TABLE, FULL, MISSING}
use Rattle.pattern.specs.Bytes.{Bytes}
use Rattle.pattern.specs.Scan.{refuse}
use Rattle.pattern.specs.Decode.{decode}
use Rattle.pattern.specs.Answers.{MatchOutput, untried, ended, match_of}

-- "patterns by number, one byte"
abbrev pub numbers : ℕ
numbers = 256

-- "a plain map from number to table": the table of each number in turn, [] where there is none
abbrev pub Map : Type 0
Map = List Bytes

abbrev pub table_of : Map → (number : ℕ) → Bytes
table_of m k = get_or m k []

unfoldable pub empty : Map
empty = replicate numbers []

-- the tables one after the other
unfoldable pub tables : Map → Bytes
tables [] = []
tables (t ∷ m) = t ++ tables m

-- "the lengths of all tables then kept"
abbrev pub total : Map → ℕ
total m = length (tables m)

-- the bytes are a good table: "The register keeps either version"
unfoldable pub is_table : Bytes → Bool
is_table t = elim (decode t) [ none ↦ false | some _ ↦ true ]

-- "a missing number"
abbrev pub missing : Map → (number : ℕ) → Bool
missing m k = eqb (length (table_of m k)) 0

-- the refusal number, 0 for none, and the map, or the bytes that mean it, afterwards
pub record Changed (State : Type 0) : Type 0 where
  pub number : ℕ
  pub after : State

-- "Refusals change nothing in the register"
unfoldable pub change : {State : Type 0} → Option ℕ → (before after : State) → Changed State
change (some number) before after = record { number = number; after = before }
change none before after = record { number = 0; after = after }

-- "store or replace": 11, then 17 "exactly when the lengths of all tables then kept would exceed capacity"
unfoldable pub store_in : (capacity : ℕ) → Map → (number : ℕ) → (table : Bytes) → Changed Map
store_in capacity m k t = change (refuse ((not (is_table t), TABLE) ∷ (ltb capacity (total (set m k t)), FULL) ∷ [])) m (set m k t)

-- "remove": 19
unfoldable pub remove_in : Map → (number : ℕ) → Changed Map
remove_in m k = change (refuse ((missing m k, MISSING) ∷ [])) m (set m k [])

-- "match by number": 19, "then matching's own order"
unfoldable pub match_in : Map → (number : ℕ) → (label scratch parts : Bytes) → (budget : ℕ) → MatchOutput
match_in m k label scratch parts budget =
    elim (missing m k) [ true ↦ ended (untried MISSING) scratch parts | false ↦ match_of (table_of m k) label scratch parts budget ]
