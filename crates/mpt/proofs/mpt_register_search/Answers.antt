-- `mpt_register_search` meets its contract. Assumes nothing.
use mathlib.Core.Path.{◌≡◌, refl}
use mathlib.Core.Bool.{Bool, true, false, cond}
use mir.Val.{bool_byte}
use Rattle.search.specs.Search.{search_refused}
use Rattle.mpt.proofs.Returns.{short_search, long_search}
use Rattle.mpt.proofs.mpt_register_search.Goals as goal

byte_is : (b : Bool) → bool_byte b ≡ cond b 1 0
byte_is true = refl
byte_is false = refl

pub returns-then-answer-lt-AREA_SIZE : goal.returns-then-answer-lt-AREA_SIZE
returns-then-answer-lt-AREA_SIZE c = rw c.from.ensures (short_search _ _ _ _ _ c.if-answer-lt-AREA_SIZE.true)

pub returns-in-Ok : goal.returns-in-Ok
returns-in-Ok c =
    long_search _ _ _ _ _ c.if-answer-lt-AREA_SIZE.false c.in-Ok.ensures (rw (c.from-verdict.ensures, c.is_some.ensures, c.unwrap_or-at.ensures, byte_is) at c.put_numbers.ensures)

pub returns-in-Err : goal.returns-in-Err
unfolding search_refused
returns-in-Err c =
    rw c.from-in-Err.ensures (long_search _ _ _ _ _ c.if-answer-lt-AREA_SIZE.false c.in-Err.ensures c.put_numbers-in-Err.ensures)
