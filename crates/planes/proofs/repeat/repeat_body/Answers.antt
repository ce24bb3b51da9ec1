-- `planes::repeat::repeat_body` meets its contract: the invariant is `RepeatBodyAt`. Assumes nothing.
use mathlib.Core.Path.{◌≡◌}
use native.Mathlib.Omega.{arith}
use Rattle.planes.proofs.Bodies.{repeat_start, repeat_add, repeat_added, repeat_ready, repeat_end, repeat_stop, repeat_step}
use Rattle.planes.proofs.repeat.repeat_body.Goals as goal

pub loop-k-init : goal.loop-k-init
loop-k-init c = repeat_start _ _ _ _ _ _ _ c.requires

pub add_from-requires : goal.add_from-requires
add_from-requires c = repeat_add _ _ _ _ _ _ _ c.requires _ _ _ _ _ c.loop-k.invariant

pub join-requires : goal.join-requires
join-requires c =
    let p = c.requires in
    let g = repeat_added _ _ _ _ _ _ _ p _ _ _ _ _ c.loop-k.invariant _ c.add_from.auto.scratch c.add_from.ensures in
    repeat_ready _ _ _ _ _ _ _ p _ _ _ _ _ g

pub loop-k-preserved : goal.loop-k-preserved
loop-k-preserved c =
    let p = c.requires in
    let g = repeat_added _ _ _ _ _ _ _ p _ _ _ _ _ c.loop-k.invariant _ c.add_from.auto.scratch c.add_from.ensures in
    repeat_step _ _ _ _ _ _ _ p _ _ _ _ _ g c.loop-k-test.true _ _ c.in_ok-counted.ensures c.join.auto.scratch

pub returns-in_err-counted : goal.returns-in_err-counted
returns-in_err-counted c =
    let p = c.requires in
    let g = repeat_added _ _ _ _ _ _ _ p _ _ _ _ _ c.loop-k.invariant _ c.add_from.auto.scratch c.add_from.ensures in
    rw c.from_residual.ensures (repeat_stop _ _ _ _ _ _ _ p _ _ _ _ _ g c.loop-k-test.true _ c.in_err-counted.ensures)

pub add_from-requires-2 : goal.add_from-requires-2
add_from-requires-2 c = repeat_add _ _ _ _ _ _ _ c.requires _ _ _ _ _ c.loop-k.invariant

pub returns : goal.returns
returns c =
    let p = c.requires in
    let l = c.loop-k in
    let e : c.args.times ≡ l.k = omega (arith, l.invariant.counting.below) in
    let g = repeat_added _ _ _ _ _ _ _ p _ _ _ _ _ l.invariant _ c.add_from-2.auto.scratch (rw e at c.add_from-2.ensures) in
    repeat_end _ _ _ _ _ _ _ p _ _ _ _ _ g c.loop-k-test.false
