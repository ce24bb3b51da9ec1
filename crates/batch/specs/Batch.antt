-- A batch: one pattern and up to 96 labels in one call, what it answers and every lent byte afterwards. To be believed.
use Rattle.std.specs.Prelude.{Bool, true, false, ◌||◌, List, [], ◌∷◌, ◌++◌, ℕ, ◌*◌, ◌/◌, ◌%◌, eqb, ltb, length, take, drop}
use Rattle.std.proofs.Math.Option.{Option, none, some}
use Rattle.std.proofs.Math.Seq.{slice}
use Rattle.pattern.specs.Numbers.{TABLE, BATCH}
use Rattle.pattern.specs.Bytes.{Bytes, numbers_in}
use Rattle.pattern.specs.Syntax.{pattern, Syntax, top_size}
use Rattle.pattern.specs.Decode.{decode}
use Rattle.pattern.specs.Answers.{Answer, MatchOutput, match_of}

-- "up to 96 labels"
abbrev pub batch_limit : ℕ
batch_limit = 96

-- "one buffer of labels from 0 on, a list of their ends": each label is from the end before it to its own
unfoldable pub labels_from : (from : ℕ) → (ends : List ℕ) → (buffer : Bytes) → List Bytes
labels_from from [] buffer = []
labels_from from (end ∷ ends) buffer = slice from end buffer ∷ labels_from end ends buffer

-- "ends that fall or run past the buffer"
unfoldable pub misplaced : (from : ℕ) → (ends : List ℕ) → (size : ℕ) → Bool
misplaced from [] size = false
misplaced from (end ∷ ends) size = ltb end from || ltb size end || misplaced end ends size

-- "ends that fall or run past the buffer, half an end, more than 96 labels, or outputs too short", with this many part bytes for each label
unfoldable pub unfit : (width : ℕ) → (buffer ends verdicts parts : Bytes) → Bool
unfit width buffer ends verdicts parts =
    misplaced 0 (numbers_in ends) (length buffer)
    || eqb (length ends % 2) 1
    || ltb batch_limit (length ends / 2)
    || ltb (length verdicts) (length ends / 2)
    || ltb (length parts) (length ends / 2 * width)

-- "one answer byte each (0 no, 1 yes, else the refusal number)"
unfoldable pub answer_byte : Answer → ℕ
answer_byte a = elim (eqb a.number 0) [ true ↦ a.value | false ↦ a.number ]

-- the number of a batch, and scratch, answer bytes and parts afterwards
pub record BatchOutput : Type 0 where
  pub number : ℕ
  pub scratch : Bytes
  pub verdicts : Bytes
  pub parts : Bytes

abbrev pub batch_output : (number : ℕ) → (scratch verdicts parts : Bytes) → BatchOutput
batch_output number scratch verdicts parts = record { number = number; scratch = scratch; verdicts = verdicts; parts = parts }

-- what one match answers and leaves, and then what the later ones do
abbrev pub prepend : MatchOutput → BatchOutput → BatchOutput
prepend m rest = batch_output rest.number rest.scratch (answer_byte m.answer ∷ rest.verdicts) (m.parts ++ rest.parts)

-- "single calls in turn, each with the full budget and the same scratch", each with the next answer byte and the next part bytes; those after the last label's stay
unfoldable pub in_turn : (table : Bytes) (width budget : ℕ) → (labels : List Bytes) → (scratch verdicts parts : Bytes) → BatchOutput
in_turn table width budget [] scratch verdicts parts = batch_output 0 scratch verdicts parts
in_turn table width budget (label ∷ labels) scratch verdicts parts =
    let m : MatchOutput = match_of table label scratch (take width parts) budget in
    prepend m (in_turn table width budget labels m.scratch (drop 1 verdicts) (drop width parts))

-- "refuse the whole call with new number 16; 11 comes before 16"; "2T part bytes each"
unfoldable pub batched : Option (Syntax pattern) → (table buffer ends scratch verdicts parts : Bytes) → (budget : ℕ) → BatchOutput
batched none table buffer ends scratch verdicts parts budget = batch_output TABLE scratch verdicts parts
batched (some t) table buffer ends scratch verdicts parts budget =
    elim (unfit (2 * top_size t) buffer ends verdicts parts) [
      | true ↦ batch_output BATCH scratch verdicts parts
      | false ↦ in_turn table (2 * top_size t) budget (labels_from 0 (numbers_in ends) buffer) scratch verdicts parts
    ]

unfoldable pub batch_of : (table buffer ends scratch verdicts parts : Bytes) → (budget : ℕ) → BatchOutput
batch_of table buffer ends scratch verdicts parts budget = batched (decode table) table buffer ends scratch verdicts parts budget
