-- The measures and invariants of the cycle: the atoms left fall; an atom calls the branches from the next atom on, a group a branch
-- at the same place or further on, and so a pattern an atom.
use Rattle.std.proofs.Common.{◌+◌, ◌*◌, ◌-◌}
use Rattle.atoms.specs.Atoms.{atoms}
use Rattle.printer.proofs.Walking.{PatternAt, GroupAt}
use Rattle.printer.proofs.walk.+write_atom_write_group_write_pattern.Given as goal

abbrev pub decreases-write_atom : goal.decreases-write_atom
decreases-write_atom l = 3 * (atoms l.table.now - l.from.atom)

abbrev pub decreases-write_group : goal.decreases-write_group
decreases-write_group l = 3 * (atoms l.table.now - l.from.atom) + 2

abbrev pub decreases-write_pattern : goal.decreases-write_pattern
decreases-write_pattern l = 3 * (atoms l.table.now - l.from.atom) + 1

abbrev pub invariant-write_group-loop : goal.invariant-write_group-loop
invariant-write_group-loop l = GroupAt l.table l.initial.out l.initial.next (l.branches - 1) l.out l.next (l.branches - l.counter)

abbrev pub invariant-write_pattern-loop-next : goal.invariant-write_pattern-loop-next
invariant-write_pattern-loop-next l = PatternAt l.table l.initial.out l.initial.next l.out l.next

abbrev pub decreases-write_pattern-loop-next : goal.decreases-write_pattern-loop-next
decreases-write_pattern-loop-next l = atoms l.table - l.next.atom
