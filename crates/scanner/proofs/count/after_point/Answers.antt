-- `count::after_point` meets its contract. Assumes nothing.
use Rattle.std.proofs.lemmas.Result.{err_from_is_err_and}
use Rattle.scanner.proofs.Counts.{second_large, count_open, count_closed}
use Rattle.scanner.proofs.count.after_point.Goals as goal

pub returns-in_err-high : goal.returns-in_err-high
returns-in_err-high c = let p = err_from_is_err_and c.from_residual.result c.from_residual.ensures.1 in rw (p.1, p.2) (second_large _ _ _ _ c.in_err-high.ensures)

pub returns-then-end-c : goal.returns-then-end-c
returns-then-end-c c =
    count_open _ _ _ _ _ c.in_ok-high.ensures _ c.if-end-c.true c.«open».ensures

pub returns-else-end-c : goal.returns-else-end-c
returns-else-end-c c =
    count_closed _ _ _ _ _ c.in_ok-high.ensures _ c.if-end-c.false c.closed.ensures
