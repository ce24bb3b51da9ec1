-- What writing back answers, by the code's answer. To be believed.
use Rattle.std.specs.Prelude.{ℕ, Result, Ok, Err}
use Rattle.pattern.specs.Bytes.{Bytes}
use Rattle.pattern.specs.Answers.{Answer, refusal, result, Output}
use Rattle.pattern.specs.Refusals.{number_of}
use Rattle.pattern.specs.declared.refusal.Refusal.{Refusal}

-- number, position, value and trials
unfoldable pub answer_of : Result ℕ Refusal → Answer
answer_of (Ok n) = result n 0
answer_of (Err r) = refusal (number_of r) 0

-- with the lent bytes afterwards
abbrev pub output_of : Result ℕ Refusal → Bytes → Output
output_of r source = record { answer = answer_of r; bytes = source }
