-- What the byte of a label's answer is. Private: a model for contracts inside the library.
use Rattle.std.specs.Prelude.{◌≡◌, ℕ, Result}
use Rattle.pattern.specs.declared.refusal.Refusal.{Refusal}
use Rattle.matcher.specs.declared.Verdict.{Verdict}
use Rattle.matcher.specs.Answered.{answer_of}
use Rattle.batch.specs.Batch.{answer_byte}

-- the byte of an answer, whatever the budget was
abbrev pub ByteOfPost : Result Verdict Refusal → (byte : ℕ) → Type 0
ByteOfPost r byte = (budget : ℕ) → byte ≡ answer_byte (answer_of budget r)
