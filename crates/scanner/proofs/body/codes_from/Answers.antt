-- `body::codes_from` meets its contract: each turn takes a letter. What is left of the source falls. Assumes nothing.
use native.Mathlib.Omega.{arith}
use Rattle.scanner.proofs.Places.{class_letter}
use Rattle.scanner.proofs.Bodies.{coding_start, coding_more, coding_end, coding_fault}
use Rattle.scanner.proofs.body.codes_from.Goals as goal

pub loop-set-init : goal.loop-set-init
loop-set-init c = coding_start _ _ _ _ _ c.requires c.bit-set.ensures

pub returns-in_default : goal.returns-in_default
returns-in_default c =
    coding_end _ _ _ _ c.loop-set.invariant c.loop-set-test.true _ c.class.ensures c.in_default.not-Letter

pub loop-set-smaller : goal.loop-set-smaller
loop-set-smaller c =
    let k = (class_letter _ _ _ _ c.in-Letter.ensures).kind in omega (arith, k.within, k.past)

pub loop-set-preserved : goal.loop-set-preserved
loop-set-preserved c =
    coding_more _ _ _ _ c.loop-set.invariant c.loop-set-test.true _ _ _ c.in-Letter.ensures c.bit-set-in-loop-set.ensures

pub overflow_sub-at : goal.overflow_sub-at
overflow_sub-at c = omega (arith, c.loop-set.invariant.on)

pub returns : goal.returns
returns c = rw c.at.ensures (coding_fault _ _ _ _ c.loop-set.invariant (omega arith))
