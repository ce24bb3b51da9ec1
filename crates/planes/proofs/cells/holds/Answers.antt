-- `planes::cells::holds` meets its contract. Assumes nothing.
use mathlib.Core.Path.{ap}
use mathlib.Core.Bool.{not}
use Prim.Native.Nat.{ℕ}
use lib.Dec.{eqb}
use Rattle.planes.specs.Cells.{on}
use Rattle.planes.proofs.cells.holds.Goals as goal

pub returns : goal.returns
unfolding on
returns c = ap (λ (v : ℕ). not (eqb v 0)) c.cell.ensures
