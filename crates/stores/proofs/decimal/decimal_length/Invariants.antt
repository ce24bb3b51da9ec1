use mathlib.Core.Path.{◌≡◌}
use Prim.Native.Nat.{◌≤◌, ◌+◌}
use lib.ListN.{length}
use Rattle.pattern.specs.Print.{decimal}
use Rattle.stores.proofs.decimal.decimal_length.Given as goal

abbrev pub invariant-loop-left : goal.invariant-loop-left
invariant-loop-left l = (l.n + l.left ≤ l.x + 1) × (l.n + length (decimal l.left) ≡ length (decimal l.x) + 1)

abbrev pub decreases-loop-left : goal.decreases-loop-left
decreases-loop-left l = l.left
