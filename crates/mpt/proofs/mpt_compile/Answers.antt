-- `mpt_compile` meets its contract. Assumes nothing.
use mathlib.Core.Path.{ap}
use Rattle.pattern.specs.Answers.{refusal, result, Output}
use Rattle.pattern.specs.Refusals.{number_of}
use Rattle.compiler.specs.Compiling.{answer_of}
use Rattle.mpt.specs.Area.{area}
use Rattle.mpt.specs.Calls.{compile_call}
use Rattle.mpt.proofs.Returns.{short_area, long_area}
use Rattle.mpt.proofs.mpt_compile.Goals as goal

pub returns-then-answer-lt-AREA_SIZE : goal.returns-then-answer-lt-AREA_SIZE
unfolding compile_call
returns-then-answer-lt-AREA_SIZE c = rw c.from.ensures (short_area _ _ _ _ c.if-answer-lt-AREA_SIZE.true)

pub returns-in-Ok : goal.returns-in-Ok
unfolding compile_call
returns-in-Ok c =
    long_area (λ (o : Output). o.answer) (λ (o : Output). o.bytes) _ _ (result c.in-Ok.length 0) c.if-answer-lt-AREA_SIZE.false c.compile.ensures (ap answer_of c.in-Ok.is) c.put_answer.ensures

pub returns-in-Err : goal.returns-in-Err
unfolding compile_call area
returns-in-Err c =
    let f = c.in-Err.fault in
    rw c.from-in-Err.ensures (long_area (λ (o : Output). o.answer) (λ (o : Output). o.bytes) _ _ (refusal (number_of f.refusal) f.position) c.if-answer-lt-AREA_SIZE.false c.compile.ensures (ap answer_of c.in-Err.is) c.put_answer-in-Err.ensures)
