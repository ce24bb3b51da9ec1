-- `tokens::letters` meets its contract: the codes passed have their letters written. Assumes nothing.
use mathlib.Core.Path.{◌≡◌}
use native.Mathlib.Omega.{arith}
use Rattle.pattern.proofs.Stores.{puts_byte}
use Rattle.printer.proofs.AtomTokens.{letter_here, letter_not, letters_end}
use Rattle.printer.proofs.Storing.{partly_start, partly_as, partly_at, partly_then, partly_end, partly_room}
use Rattle.printer.proofs.tokens.letters.Goals as goal
use Rattle.printer.proofs.tokens.letters.Goals.{else-left-eq1, then-left-eq1}

pub loop-k-init : goal.loop-k-init
loop-k-init c = partly_start _ _ _

pub bounds-out-m : goal.bounds-out-m
bounds-out-m c =
    let l = c.loop-k in
    omega (arith, partly_room (partly_as (letter_here l.k l.left c.loop-k-test.true c.letter.ensures c.if-left-eq1.true) l.invariant) c.requires)

pub loop-k-preserved : goal.loop-k-preserved
loop-k-preserved c =
    let l = c.loop-k in
    let below = c.loop-k-test.true in
    elim c.if-left-eq1.branch [
      | then-left-eq1 w ↦ partly_at w.out-is w.m-is (partly_then _ _ (partly_as (letter_here l.k l.left below w.letter.ensures w.if-left-eq1.true) l.invariant) (puts_byte _ _ _))
      | else-left-eq1 w ↦ partly_at w.out-is w.m-is (partly_as (letter_not l.k l.left below w.if-left-eq1.false) l.invariant)
    ]

pub returns : goal.returns
returns c =
    let l = c.loop-k in
    let e : l.k ≡ 7 = omega arith in
    partly_end (partly_as (letters_end l.k l.left e) l.invariant)
