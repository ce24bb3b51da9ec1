-- `matcher::match_good` meets its contract: the refusals in order, and then the match. Assumes nothing.
use mathlib.Core.Path.{◌∙◌}
use native.Mathlib.Omega.{arith}
use Rattle.pattern.proofs.Rooms.{rows_few, bytes_few}
use Rattle.matcher.proofs.Refusals.{few_atoms, few_tops, long_label, little_work, few_parts, all_lent, no_fault}
use Rattle.matcher.proofs.match_good.Goals as goal

pub returns-then-n-gt-LABEL_LIMIT : goal.returns-then-n-gt-LABEL_LIMIT
returns-then-n-gt-LABEL_LIMIT c = long_label _ _ c.args.table.good _ _ _ _ c.if-n-gt-LABEL_LIMIT.true

pub overflow_mul-atoms : goal.overflow_mul-atoms
overflow_mul-atoms c = omega (arith, few_atoms _ _ c.args.table.good)

pub overflow_add-atoms : goal.overflow_add-atoms
overflow_add-atoms c = omega (arith, few_atoms _ _ c.args.table.good)

pub overflow_mul-atoms-2 : goal.overflow_mul-atoms-2
overflow_mul-atoms-2 c = omega (arith, rows_few _ _ (few_atoms _ _ c.args.table.good) c.if-n-gt-LABEL_LIMIT.false)

pub overflow_mul-atoms-3 : goal.overflow_mul-atoms-3
overflow_mul-atoms-3 c = omega (arith, bytes_few _ _ (few_atoms _ _ c.args.table.good) c.if-n-gt-LABEL_LIMIT.false)

pub returns-then-scratch-atoms : goal.returns-then-scratch-atoms
returns-then-scratch-atoms c = little_work _ _ c.args.table.good _ _ _ _ c.if-n-gt-LABEL_LIMIT.false c.if-scratch-atoms.true

pub overflow_mul-table : goal.overflow_mul-table
overflow_mul-table c = omega (arith, few_tops _ _ c.args.table.good)

pub returns-then-parts-table : goal.returns-then-parts-table
returns-then-parts-table c = few_parts _ _ c.args.table.good _ _ _ _ c.if-n-gt-LABEL_LIMIT.false c.if-scratch-atoms.false c.if-parts-table.true

pub run-requires : goal.run-requires
run-requires c = all_lent _ _ c.args.table.good _ _ _ 0 c.if-n-gt-LABEL_LIMIT.false c.if-scratch-atoms.false c.if-parts-table.false

pub returns : goal.returns
returns c = c.run.ensures ∙ no_fault _ _ c.args.table.good _ _ _ _ c.if-n-gt-LABEL_LIMIT.false c.if-scratch-atoms.false c.if-parts-table.false
