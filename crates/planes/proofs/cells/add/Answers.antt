-- `planes::cells::add` meets its contract: the invariant is `PassAt`. Assumes nothing.
use mathlib.Core.Path.{ap₂}
use lib.Bits.{bit_or}
use Rattle.planes.proofs.Passes.{pass_same, pass_step, add_end}
use Rattle.planes.proofs.cells.add.Goals as goal

pub loop-k-preserved : goal.loop-k-preserved
loop-k-preserved c =
    let p = c.requires in
    let same = pass_same _ _ _ _ _ _ c.loop-k.invariant p.wide c.loop-k-test.true in
    rw (c.cell_index-b.ensures, c.cell_index-a.ensures)
    (pass_step _ _ _ _ _ _ c.loop-k.invariant p.wide c.loop-k-test.true p.into.room _ (ap₂ bit_or (same _) (same _)))

pub returns : goal.returns
returns c = add_end _ _ _ _ c.requires _ _ c.loop-k.invariant c.loop-k-test.false
