-- The numbers of an answer tell the result of a match. Assumes nothing.
use mathlib.Core.Path.{◌≡◌, refl, sym, ap, ◌∙◌}
use mathlib.Core.Bool.{Bool, true, false}
use mathlib.Core.List.{List, [], ◌∷◌}
use Prim.Native.Nat.{ℕ}
use lib.Dec.{eqb}
use lib.ListN.{get_or}
use Rattle.std.specs.Prelude.{Result, Ok, Err}
use Rattle.pattern.specs.Answers.{Answer}
use Rattle.pattern.specs.declared.refusal.Refusal.{Refusal}
use Rattle.pattern.specs.declared.refusal.Refusal.TheVariants.{Long, Form, Code, Number, Range, Atoms, Depth, Room, Answer as Area, Table, Label, Work, Parts, Budget, Batch, Full, Register, Missing}
use Rattle.matcher.specs.declared.Verdict.{Verdict}
use Rattle.matcher.specs.Answered.{answer_of}

-- the refusals at their numbers, from 0 on; 0 and 10 are no refusal's
abbrev refusals : List Refusal
refusals =
    Long ∷ Long ∷ Form ∷ Code ∷ Number ∷ Range ∷ Atoms ∷ Depth ∷ Room ∷ Area ∷ Long ∷ Table ∷ Label ∷ Work ∷ Parts ∷ Budget ∷ Batch ∷ Full ∷ Register ∷ Missing ∷ []

abbrev verdict_of : Answer → Verdict
verdict_of a = record { matches = eqb a.value 1; trials = a.trials }

abbrev result_of : Answer → Result Verdict Refusal
result_of a = elim (eqb a.number 0) [ true ↦ Ok (verdict_of a) | false ↦ Err (get_or refusals a.number Long) ]

verdict_back : (matches : Bool) (trials : ℕ) → result_of (answer_of 0 (Ok record { matches = matches; trials = trials })) ≡ Ok record { matches = matches; trials = trials }
verdict_back true trials = refl
verdict_back false trials = refl

result_back : (budget : ℕ) (m : Result Verdict Refusal) → result_of (answer_of budget m) ≡ m
result_back budget (Ok v) = verdict_back v.matches v.trials
result_back budget (Err Long) = refl
result_back budget (Err _) = refl

-- under one budget two results never have the same answer
pub one_case : (budget : ℕ) (m q : Result Verdict Refusal) → answer_of budget m ≡ answer_of budget q → m ≡ q
one_case budget m q e = sym (result_back budget m) ∙ ap result_of e ∙ result_back budget q
