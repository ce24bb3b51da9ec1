-- The measures and invariants of the cycle: the atoms left fall; an atom calls the branches from the next atom on, a group a branch
-- at the same place or further on, and so a pattern an atom.
use Rattle.std.proofs.Common.{◌+◌, ◌-◌}
use Rattle.table.specs.Walk.{reach}
use Rattle.table.proofs.Walks.{WalkPatternAt, WalkGroupAt}
use Rattle.table.proofs.walk.Payload.+atom_group_pattern.Given as goal

abbrev pub decreases-atom : goal.decreases-atom
decreases-atom l = reach l.self.atoms l.at

abbrev pub decreases-group : goal.decreases-group
decreases-group l = reach l.self.atoms l.at + 2

abbrev pub decreases-pattern : goal.decreases-pattern
decreases-pattern l = reach l.self.atoms l.at + 1

abbrev pub invariant-pattern-loop-next : goal.invariant-pattern-loop-next
invariant-pattern-loop-next l = WalkPatternAt l.self.bytes.now l.self.atoms l.depth l.initial.from l.from l.before

abbrev pub decreases-pattern-loop-next : goal.decreases-pattern-loop-next
decreases-pattern-loop-next l = reach l.self.atoms l.from

abbrev pub invariant-group-loop-i : goal.invariant-group-loop-i
invariant-group-loop-i l = WalkGroupAt l.self.bytes.now l.self.atoms l.depth l.k l.initial.from l.from (l.k - l.i)
