-- The measures and invariants of the cycle: what is left of the source falls. A pattern reads an atom at the same place, a group a pattern
-- at the same place, and an atom a group further on: the measure is three times what is left, with 1 more for a pattern and 2 for a group.
use Rattle.std.proofs.Common.{◌+◌}
use Rattle.compiler.proofs.Readers.{read_measure, ReadPatternAt, ReadGroupAt}
use Rattle.compiler.proofs.reader.+read_atom_read_group_read_pattern.Given as goal

abbrev pub decreases-read_atom : goal.decreases-read_atom
decreases-read_atom l = read_measure l.s.now l.st

abbrev pub decreases-read_group : goal.decreases-read_group
decreases-read_group l = read_measure l.s.now l.st + 2

abbrev pub decreases-read_pattern : goal.decreases-read_pattern
decreases-read_pattern l = read_measure l.s.now l.st + 1

abbrev pub invariant-read_group-loop-end : goal.invariant-read_group-loop-end
invariant-read_group-loop-end l = ReadGroupAt l.s l.depth l.initial.from l.from l.initial.recs l.recs l.initial.pool l.pool l.branches

abbrev pub decreases-read_group-loop-end : goal.decreases-read_group-loop-end
decreases-read_group-loop-end l = read_measure l.s l.from

abbrev pub invariant-read_pattern-loop-from : goal.invariant-read_pattern-loop-from
invariant-read_pattern-loop-from l = ReadPatternAt l.s l.depth l.initial.from l.from l.initial.recs l.recs l.initial.pool l.pool

abbrev pub decreases-read_pattern-loop-from : goal.decreases-read_pattern-loop-from
decreases-read_pattern-loop-from l = read_measure l.s l.from
