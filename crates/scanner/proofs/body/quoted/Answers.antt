-- `body::quoted` meets its contract: each turn takes a byte of the value. What is left of the source falls. Assumes nothing.
use mathlib.Core.Path.{ap, ◌∙◌}
use native.Mathlib.Omega.{arith}
use lib.ListN.{length}
use Rattle.scanner.proofs.Bodies.{quoting_start, quoting_past, quoting_more, quoting_ends, quoting_broken}
use Rattle.pattern.proofs.Stores.{length_store_at}
use Rattle.scanner.proofs.body.quoted.Goals as goal

pub loop-b-init : goal.loop-b-init
loop-b-init c = quoting_start _ _ _ _ c.requires.0 c.requires.1 c.requires.2

pub bounds-pool-end : goal.bounds-pool-end
bounds-pool-end c =
    let o = quoting_past _ _ _ _ _ _ _ c.loop-b.invariant _ _ c.in-Byte.ensures in let v = c.loop-b.invariant in omega (arith, o.on, o.within, v.fits, v.room)

pub overflow_add-end : goal.overflow_add-end
overflow_add-end c = let v = c.loop-b.invariant in omega (arith, v.fits, v.within)

pub loop-b-smaller : goal.loop-b-smaller
loop-b-smaller c = let o = quoting_past _ _ _ _ _ _ _ c.loop-b.invariant _ _ c.in-Byte.ensures in omega (arith, o.on, o.within)

pub loop-b-preserved : goal.loop-b-preserved
loop-b-preserved c = quoting_more _ _ _ _ _ _ _ c.loop-b.invariant _ _ c.in-Byte.ensures

pub shape_of-pool-in-End : goal.shape_of-pool-in-End
shape_of-pool-in-End c = ap length c.loop-b.invariant.wrote ∙ length_store_at _ _ _

pub returns-in-End : goal.returns-in-End
returns-in-End c = quoting_ends _ _ _ _ _ _ _ c.loop-b.invariant _ c.in-End.ensures

pub shape_of-pool-in-Broken : goal.shape_of-pool-in-Broken
shape_of-pool-in-Broken c = ap length c.loop-b.invariant.wrote ∙ length_store_at _ _ _

pub returns-in-Broken : goal.returns-in-Broken
returns-in-Broken c = rw c.at.ensures (quoting_broken _ _ _ _ _ _ _ c.loop-b.invariant c.in-Broken.ensures)
