-- `planes::cells::blank` meets its contract: the invariant is `PassAt`. Assumes nothing.
use mathlib.Core.Path.{refl}
use Rattle.planes.proofs.Passes.{pass_step, blank_end}
use Rattle.planes.proofs.cells.blank.Goals as goal

pub loop-k-preserved : goal.loop-k-preserved
loop-k-preserved c =
    let p = c.requires in
    rw c.cell_index-begin.ensures (pass_step _ _ _ _ _ _ c.loop-k.invariant p.wide c.loop-k-test.true p.room _ refl)

pub returns : goal.returns
returns c = blank_end _ _ _ _ _ c.loop-k.invariant c.loop-k-test.false
