-- What the theorems say of a batch: its labels, what fits, its answer bytes and its scratch. To be believed.
use Rattle.std.specs.Prelude.{◌≡◌, ◌⊎◌, true, false, ◌||◌, List, [], ◌∷◌, ℕ, zero, suc, ◌*◌, ◌/◌, ◌%◌, max, ◌≤◌, ◌<◌, ltb, length, take, drop}
use Rattle.std.proofs.Math.Seq.{slice}
use Rattle.pattern.specs.Numbers.{label_limit, LABEL, WORK, BUDGET}
use Rattle.pattern.specs.Bytes.{Bytes}
use Rattle.pattern.specs.Syntax.{pattern, Syntax}
use Rattle.pattern.specs.Decode.{field}
use Rattle.pattern.specs.Answers.{scratch_needed}
use Rattle.batch.specs.Batch.{batch_limit}

-- where label k begins: at the end before it, at 0 the first
unfoldable pub label_start : (ends : Bytes) → (k : ℕ) → ℕ
label_start ends zero = 0
label_start ends (suc k) = field ends (2 * k)

abbrev pub label_at : (buffer ends : Bytes) → (k : ℕ) → Bytes
label_at buffer ends k = slice (label_start ends k) (field ends (2 * k)) buffer

-- what is lent fits: whole ends, not too many, none that falls or runs past the buffer, and outputs long enough
pub record BatchFits (width : ℕ) (buffer ends verdicts parts : Bytes) : Type 0 where
  pub whole : length ends % 2 ≡ 0
  pub few : length ends / 2 ≤ batch_limit
  pub placed : (k : ℕ) → k < length ends / 2 → (label_start ends k ≤ field ends (2 * k)) × (field ends (2 * k) ≤ length buffer)
  pub verdicts_long : length ends / 2 ≤ length verdicts
  pub parts_long : length ends / 2 * width ≤ length parts

-- the part bytes of label k
abbrev pub part_at : (width : ℕ) → Bytes → (k : ℕ) → Bytes
part_at width parts k = take width (drop (k * width) parts)

-- the bytes of an answer: no, yes, LABEL, WORK and BUDGET
abbrev pub LabelByte : ℕ → Type 0
LabelByte b = (b ≡ 0) ⊎ (b ≡ 1) ⊎ (b ≡ LABEL) ⊎ (b ≡ WORK) ⊎ (b ≡ BUDGET)

-- the scratch bytes that a match uses: none with LABEL or WORK
unfoldable pub used_by : Syntax pattern → (room : ℕ) → (label : Bytes) → ℕ
used_by t room label = elim (ltb label_limit (length label) || ltb room (scratch_needed t (length label))) [ true ↦ 0 | false ↦ scratch_needed t (length label) ]

unfoldable pub most_used : Syntax pattern → (room : ℕ) → (labels : List Bytes) → ℕ
most_used t room [] = 0
most_used t room (label ∷ labels) = max (used_by t room label) (most_used t room labels)
