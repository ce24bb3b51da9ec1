use Prim.Native.Nat.{◌-◌}
use Rattle.atoms.specs.Atoms.{atoms}
use Rattle.matcher.proofs.Ends.{PartsAt}
use Rattle.matcher.proofs.task.Task.write_parts.Given as goal

abbrev pub invariant-loop-parts : goal.invariant-loop-parts
invariant-loop-parts l = PartsAt l.self.table.now l.self.label.now l.initial.parts l.parts l.x l.i l.at

abbrev pub decreases-loop-parts : goal.decreases-loop-parts
decreases-loop-parts l = atoms l.self.table.now - l.x
