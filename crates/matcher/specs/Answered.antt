-- What matching answers: the paper's numbers of the code's result. To be believed.
use Rattle.std.specs.Prelude.{◌≡◌, cond, ℕ, Result, Ok, Err}
use Rattle.pattern.specs.Bytes.{Bytes}
use Rattle.pattern.specs.Answers.{Answer, result, match_of, MatchOutput}
use Rattle.pattern.specs.Refusals.{number_of}
use Rattle.pattern.specs.declared.refusal.Refusal.{Refusal}
use Rattle.pattern.specs.declared.refusal.Refusal.TheVariants.{Budget}
use Rattle.matcher.specs.declared.Verdict.{Verdict}

-- "15 reports the budget as trials, every other refusal 0"
abbrev pub trials_of : (budget : ℕ) → Refusal → ℕ
trials_of budget Budget = budget
trials_of budget _ = 0

-- the paper's numbers: the verdict, 1 for yes, or the refusal's number
abbrev pub answer_of : (budget : ℕ) → Result Verdict Refusal → Answer
answer_of budget (Ok v) = result (cond v.matches 1 0) v.trials
answer_of budget (Err r) = record { number = number_of r; position = 0; value = 0; trials = trials_of budget r }

-- the answer with scratch and parts afterwards
abbrev pub match_output : (budget : ℕ) → Result Verdict Refusal → (scratch parts : Bytes) → MatchOutput
match_output budget r scratch parts = record { answer = answer_of budget r; scratch = scratch; parts = parts }

-- what `match_good` and `match_label` promise of their answer, and of scratch and parts afterwards
abbrev pub MatchPost : (table label scratch parts : Bytes) → (budget : ℕ) → Result Verdict Refusal → (scratch' parts' : Bytes) → Type 0
MatchPost table label scratch parts budget r scratch' parts' = match_output budget r scratch' parts' ≡ match_of table label scratch parts budget
