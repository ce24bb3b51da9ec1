-- What compiling answers, by the cases of the code's answer. To be believed.
use Rattle.std.specs.Prelude.{ℕ, Result, Ok, Err}
use Rattle.pattern.specs.Answers.{Answer, refusal, result}
use Rattle.pattern.specs.Refusals.{number_of}
use Rattle.pattern.specs.declared.refusal.Fault.{Fault}

-- number, position and value of each case; a compiling call has no trials
abbrev pub answer_of : Result ℕ Fault → Answer
answer_of (Ok size) = result size 0
answer_of (Err f) = refusal (number_of f.refusal) f.position
