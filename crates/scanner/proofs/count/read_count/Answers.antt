-- `count::read_count` meets its contract. Assumes nothing.
use Rattle.std.proofs.lemmas.Result.{err_from_is_err_and}
use Rattle.scanner.proofs.Counts.{first_large, count_none, count_exact, point_within, count_pointed}
use Rattle.scanner.proofs.count.read_count.Goals as goal

pub returns-in_err-low : goal.returns-in_err-low
returns-in_err-low c = let p = err_from_is_err_and c.from_residual.result c.from_residual.ensures.1 in rw (p.1, p.2) (first_large _ _ _ c.in_err-low.ensures)

pub after_point-requires : goal.after_point-requires
after_point-requires c = point_within _ _ _ _ c.in_ok-low.ensures _ c.in-Some.ensures

pub returns-in_err-after_point : goal.returns-in_err-after_point
returns-in_err-after_point c =
    let r = c.from_residual-in_err-after_point in
    let p = err_from_is_err_and r.result r.ensures.1 in
    rw (p.1, p.2) (count_pointed _ _ _ _ c.in_ok-low.ensures _ c.in-Some.ensures _ c.in_err-after_point.ensures)

pub returns-in-Some : goal.returns-in-Some
returns-in-Some c = count_pointed _ _ _ _ c.in_ok-low.ensures _ c.in-Some.ensures _ c.in_ok-after_point.ensures

pub returns-then-end-c : goal.returns-then-end-c
returns-then-end-c c = count_none _ _ _ _ c.in_ok-low.ensures c.in_default.ensures c.if-end-c.true

pub returns-else-end-c : goal.returns-else-end-c
returns-else-end-c c = count_exact _ _ _ _ c.in_ok-low.ensures c.in_default.ensures _ c.if-end-c.false c.exact.ensures
