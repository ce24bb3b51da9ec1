use mathlib.Core.Path.{◌≡◌}
use Prim.Native.Nat.{suc, ◌-◌, ◌≤◌, ◌<◌}
use Rattle.pattern.specs.Decision.{trial}
use Rattle.pattern.specs.Parts.{longest}
use Rattle.planes.specs.Cells.{on}
use Rattle.matcher.proofs.parts.last_end.Given as goal

abbrev pub invariant-loop-m : goal.invariant-loop-m
invariant-loop-m l =
    (l.i < l.m) × (l.m ≤ suc l.n) × (longest (suc l.n - l.i) (trial (on l.scratch l.w l.left) (on l.scratch l.w l.right) l.i l.n) ≡ longest (l.m - l.i) (trial (on l.scratch l.w l.left) (on l.scratch l.w l.right) l.i l.n))
