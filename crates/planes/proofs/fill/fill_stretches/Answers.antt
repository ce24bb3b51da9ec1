-- `planes::fill::fill_stretches` meets its contract: the invariant is `FillAt`. Assumes nothing.
use native.Mathlib.Omega.{arith}
use Rattle.planes.proofs.Filling.{fill_step}
use Rattle.planes.proofs.fill.fill_stretches.Goals as goal

pub loop-j-preserved : goal.loop-j-preserved
loop-j-preserved g c =
    rw c.set_stretch.ensures (fill_step _ _ _ _ _ _ _ c.requires c.blank.auto.scratch c.blank.ensures _ _ c.loop-j.invariant c.loop-j-test.true _ (omega (arith, c.loop-j.invariant.from)) _ c.held.ensures)
