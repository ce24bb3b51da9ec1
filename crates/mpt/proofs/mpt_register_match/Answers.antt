-- `mpt_register_match` meets its contract. Assumes nothing.
use Rattle.mpt.specs.Calls.{match_number_call}
use Rattle.mpt.proofs.Returns.{short_area, long_match}
use Rattle.mpt.proofs.mpt_register_match.Goals as goal

pub returns-then-answer-lt-AREA_SIZE : goal.returns-then-answer-lt-AREA_SIZE
unfolding match_number_call
returns-then-answer-lt-AREA_SIZE c = rw c.from.ensures (short_area _ _ _ _ c.if-answer-lt-AREA_SIZE.true)

pub returns : goal.returns
unfolding match_number_call
returns c = long_match _ _ _ _ _ c.match_number-matched.result _ _ _ c.if-answer-lt-AREA_SIZE.false c.match_number-matched.ensures c.put_verdict.ensures.number c.put_verdict.ensures.written
