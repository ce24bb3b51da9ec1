use mathlib.Core.Path.{◌≡◌}
use Prim.Native.Nat.{◌+◌, ◌-◌, ◌<◌}
use Rattle.pattern.specs.Syntax.{size}
use Rattle.atoms.specs.Atoms.{atoms, node}
use Rattle.atoms.proofs.branch_end.Given as goal

abbrev pub invariant-loop-last : goal.invariant-loop-last
invariant-loop-last l = (l.last < atoms l.table) × (l.last + size (node l.table l.last) ≡ l.x + size (node l.table l.x))

abbrev pub decreases-loop-last : goal.decreases-loop-last
decreases-loop-last l = atoms l.table - l.last
