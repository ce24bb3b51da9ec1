-- What compiling, writing back and matching answer, and every lent byte afterwards. To be believed.
use Rattle.std.specs.Prelude.{◌≡◌, ◌⊎◌, Bool, true, false, List, [], ◌∷◌, ℕ, ◌+◌, ◌*◌, ◌≤◌, leb, ltb, length, take}
use Rattle.std.proofs.Math.Option.{Option, none, some}
use Rattle.pattern.specs.Numbers.{label_limit, ROOM, TABLE, LABEL, WORK, PARTS, BUDGET}
use Rattle.pattern.specs.Bytes.{Bytes, le16, overwrite, zeroed}
use Rattle.pattern.specs.Syntax.{pattern, Syntax, size, top_size}
use Rattle.pattern.specs.Parts.{verdict}
use Rattle.pattern.specs.Trials.{trials}
use Rattle.pattern.specs.Scan.{refuse, Outcome, refused, accepted, outcome}
use Rattle.pattern.specs.Print.{print}
use Rattle.pattern.specs.Table.{encode}
use Rattle.pattern.specs.Decode.{decode}

-- the numbers of an answer; value is the table length, the source length, or the verdict, 1 for yes
pub record Answer : Type 0 where
  pub number : ℕ
  pub position : ℕ
  pub value : ℕ
  pub trials : ℕ

-- "a refusal answers length 0, verdict no, and 0 for any other number"
abbrev pub refusal : (number position : ℕ) → Answer
refusal number position = record { number = number; position = position; value = 0; trials = 0 }

-- "a call that isn't refused answers number 0, position 0 and its result"
abbrev pub result : (value trials : ℕ) → Answer
result value trials = record { number = 0; position = 0; value = value; trials = trials }

-- an answer, and the lent output afterwards
pub record Output : Type 0 where
  pub answer : Answer
  pub bytes : Bytes

-- a result in lent bytes that it fits, or ROOM at this position
unfoldable pub put_if : Bool → (position : ℕ) → (written lent : Bytes) → Output
put_if true position written lent = record { answer = result (length written) 0; bytes = overwrite written lent }
put_if false position written lent = record { answer = refusal ROOM position; bytes = lent }

unfoldable pub put : (position : ℕ) → (written lent : Bytes) → Output
put position written lent = put_if (leb (length written) (length lent)) position written lent

-- compiling: 1 to 7, then ROOM at the source length
unfoldable pub compiled : Outcome → (source table : Bytes) → Output
compiled (refused number position) source table = record { answer = refusal number position; bytes = table }
compiled (accepted t) source table = put (length source) (encode t) table

unfoldable pub compile_of : (source table : Bytes) → Output
compile_of source table = compiled (outcome source) source table

-- writing back: TABLE, then ROOM at 0
unfoldable pub written_back : Option (Syntax pattern) → (source : Bytes) → Output
written_back none source = record { answer = refusal TABLE 0; bytes = source }
written_back (some t) source = put 0 (print t) source

unfoldable pub write_of : (table source : Bytes) → Output
write_of table source = written_back (decode table) source

-- an answer to a match, and scratch and parts afterwards
pub record MatchOutput : Type 0 where
  pub answer : Answer
  pub scratch : Bytes
  pub parts : Bytes

-- "(2A+4) x (n+1) x (n+1) bytes"
abbrev pub scratch_needed : Syntax pattern → ℕ → ℕ
scratch_needed t n = (2 * size t + 4) * (n + 1) * (n + 1)

-- "the place where its stretch ends, 16 bits each"
unfoldable pub part_bytes : List ℕ → Bytes
part_bytes [] = []
part_bytes (e ∷ es) = le16 e (part_bytes es)

-- LABEL, WORK and PARTS, in this order
unfoldable pub lent_fault : Syntax pattern → (label scratch parts : Bytes) → Option ℕ
lent_fault t label scratch parts =
    refuse ((ltb label_limit (length label), LABEL)
    ∷ (ltb (length scratch) (scratch_needed t (length label)), WORK)
    ∷ (ltb (length parts) (2 * top_size t), PARTS)
    ∷ [])

-- how a match ends: refused before any trial; out of budget; or with a verdict after so many trials, yes with the ends of its parts
pub data Ending : Type 0 where
  untried : (number : ℕ) → Ending
  exhausted : (used budget : ℕ) → Ending
  decided : (used trials : ℕ) (verdict : Option (List ℕ)) → Ending

-- what an ending answers and leaves: scratch is cleared "after a verdict or BUDGET", "which reports the budget", and parts are written on yes
unfoldable pub ended : Ending → (scratch parts : Bytes) → MatchOutput
ended (untried number) scratch parts = record { answer = refusal number 0; scratch = scratch; parts = parts }
ended (exhausted used budget) scratch parts =
    record { answer = record { number = BUDGET; position = 0; value = 0; trials = budget }; scratch = zeroed used scratch; parts = parts }
ended (decided used trials none) scratch parts = record { answer = result 0 trials; scratch = zeroed used scratch; parts = parts }
ended (decided used trials (some ends)) scratch parts =
    record { answer = result 1 trials; scratch = zeroed used scratch; parts = overwrite (part_bytes ends) parts }

-- a fault of what is lent; else "a verdict is given exactly when that count is within the caller's budget; otherwise the answer is refusal 15"
unfoldable pub ending : Option ℕ → (used trials budget : ℕ) → Option (List ℕ) → Ending
ending (some number) used trials budget v = untried number
ending none used trials budget v = elim (leb trials budget) [ true ↦ decided used trials v | false ↦ exhausted used budget ]

-- matching: 11, then 12 to 14 in order, then the trials
unfoldable pub match_ending : Option (Syntax pattern) → (label scratch parts : Bytes) → (budget : ℕ) → Ending
match_ending none label scratch parts budget = untried TABLE
match_ending (some t) label scratch parts budget =
    ending (lent_fault t label scratch parts) (scratch_needed t (length label)) (trials label t) budget (verdict label t)

unfoldable pub match_of : (table label scratch parts : Bytes) → (budget : ℕ) → MatchOutput
match_of table label scratch parts budget = ended (match_ending (decode table) label scratch parts budget) scratch parts

-- ---- what the demands say of answers

-- what an output that is not refused has at its start
abbrev pub result_bytes : Output → Bytes
result_bytes o = take o.answer.value o.bytes

-- the numbers that a match may answer: 0, and 11 to 15
abbrev pub MatchNumber : ℕ → Type 0
MatchNumber n = (n ≡ 0) ⊎ ((TABLE ≤ n) × (n ≤ BUDGET))

-- "a refused call writes nothing, save one": after BUDGET scratch is zeroed
pub record Untouched (scratch parts : Bytes) (m : MatchOutput) : Type 0 where
  pub kept_parts : ¬ (m.answer.number ≡ 0) → m.parts ≡ parts
  pub kept_scratch : ¬ (m.answer.number ≡ 0) → ¬ (m.answer.number ≡ BUDGET) → m.scratch ≡ scratch

-- what a match shows: its answer and the parts, not scratch
abbrev pub shown : MatchOutput → Answer × Bytes
shown m = (m.answer, m.parts)
