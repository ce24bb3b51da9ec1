use mathlib.Core.Path.{◌≡◌}
use Prim.Native.Nat.{◌-◌}
use lib.ListN.{length}
use Rattle.register.proofs.Passing.{Passing}
use Rattle.register.proofs.locate.pass_tables.Given as goal

abbrev pub invariant-loop-k : goal.invariant-loop-k
invariant-loop-k l = Passing l.section l.a l.b l.at l.k l.end × (length l.rows ≡ length l.initial.rows)

abbrev pub decreases-loop-k : goal.decreases-loop-k
decreases-loop-k l = l.b - l.k
