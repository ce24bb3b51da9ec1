-- `mpt_match_batch` meets its contract. Assumes nothing.
use mathlib.Core.Path.{refl, ap, ◌∙◌}
use Rattle.pattern.specs.Answers.{refusal}
use Prim.Native.Nat.{ℕ}
use Rattle.pattern.specs.Refusals.{number_of_result}
use Rattle.batch.specs.Batch.{BatchOutput}
use Rattle.mpt.specs.Area.{area}
use Rattle.mpt.specs.Calls.{batch_call}
use Rattle.mpt.proofs.Returns.{short_area, long_area}
use Rattle.mpt.proofs.mpt_match_batch.Goals as goal

pub returns-then-answer-lt-AREA_SIZE : goal.returns-then-answer-lt-AREA_SIZE
unfolding batch_call
returns-then-answer-lt-AREA_SIZE c = rw c.from.ensures (short_area _ _ _ _ c.if-answer-lt-AREA_SIZE.true)

pub returns : goal.returns
unfolding batch_call area
returns c =
    let m = c.match_batch-called in
    ap (λ (n : ℕ). record { number = n; lent = record { scratch = m.new.scratch; verdicts = m.new.verdicts; parts = m.new.parts }; answer = c.put_answer.new.answer }) c.number.ensures
    ∙ long_area (λ (o : BatchOutput). refusal o.number 0) (λ (o : BatchOutput). record { scratch = o.scratch; verdicts = o.verdicts; parts = o.parts }) _ _ (refusal (number_of_result m.result) 0) c.if-answer-lt-AREA_SIZE.false m.ensures refl c.put_answer.ensures
