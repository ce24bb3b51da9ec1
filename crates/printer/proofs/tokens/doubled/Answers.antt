-- `tokens::doubled` meets its contract: the bytes passed are written with their quotes doubled. Assumes nothing.
use mathlib.Core.List.{◌∷◌}
use Prim.Native.Nat.{suc}
use native.Mathlib.Omega.{arith}
use native.Mathlib.Numerals.{add-one}
use lib.ListN.{get_or, drop}
use Rattle.pattern.specs.Print.{double}
use Rattle.pattern.proofs.Stores.{puts_byte}
use Rattle.table.proofs.Sources.{quote_here, plain_here, double_end}
use Rattle.printer.proofs.Storing.{Partly, partly_start, partly_as, partly_at, partly_then, partly_end, partly_room}
use Rattle.printer.proofs.tokens.doubled.Goals as goal
use Rattle.printer.proofs.tokens.doubled.Goals.{Joined-b-eq34, else-b-eq34, then-b-eq34}

pub loop-b-init : goal.loop-b-init
loop-b-init c = partly_start _ _ _

pub bounds-out-m : goal.bounds-out-m
bounds-out-m c =
    let l = c.loop-b in
    omega (arith, partly_room (partly_as (quote_here c.args.v.now l.b-index c.loop-b-test.true c.if-b-eq34.true) l.invariant) c.requires)

-- the first of two quotes is written, or nothing yet
quoted : (c : Joined-b-eq34) → Partly c.args.out.now c.args.n (double c.args.v.now) c.if-b-eq34.out c.if-b-eq34.m (get_or c.args.v.now c.loop-b.b-index 0 ∷ double (drop (suc c.loop-b.b-index) c.args.v.now))
quoted c =
    let l = c.loop-b in
    let v = c.args.v.now in
    elim c.if-b-eq34.branch [
      | then-b-eq34 w ↦ partly_at w.out-is w.m-is (partly_then _ _ (partly_as (quote_here v l.b-index c.loop-b-test.true w.if-b-eq34.true) l.invariant) (puts_byte _ _ _))
      | else-b-eq34 w ↦ partly_at w.out-is w.m-is (partly_as (plain_here v l.b-index c.loop-b-test.true w.if-b-eq34.false) l.invariant)
    ]

pub bounds-out-m-in-loop-b : goal.bounds-out-m-in-loop-b
bounds-out-m-in-loop-b c = omega (arith, partly_room (quoted (goal.at.bounds-out-m-in-loop-b c).Joined-b-eq34) c.requires)

pub loop-b-preserved : goal.loop-b-preserved
loop-b-preserved c = rw (add-one c.loop-b.b-index) (partly_then _ _ (quoted (goal.at.loop-b-preserved c).Joined-b-eq34) (puts_byte _ _ _))

pub returns : goal.returns
returns c = partly_end (partly_as (double_end c.args.v.now c.loop-b.b-index c.loop-b-test.false) c.loop-b.invariant)
