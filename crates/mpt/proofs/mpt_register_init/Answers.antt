-- `mpt_register_init` meets its contract. Assumes nothing.
use Rattle.mpt.specs.Area.{area}
use Rattle.mpt.specs.Calls.{init_call}
use Rattle.mpt.proofs.Returns.{short_change, long_change}
use Rattle.mpt.proofs.mpt_register_init.Goals as goal

pub returns-then-answer-lt-AREA_SIZE : goal.returns-then-answer-lt-AREA_SIZE
unfolding init_call
returns-then-answer-lt-AREA_SIZE c = rw c.from.ensures (short_change _ _ _ c.if-answer-lt-AREA_SIZE.true)

pub returns : goal.returns
unfolding init_call area
returns c =
    rw c.number.ensures (long_change _ _ _ _ _ c.if-answer-lt-AREA_SIZE.false c.init-called.ensures c.put_answer.ensures)
