-- `record_at` meets its contract. Assumes nothing.
use mathlib.Core.Path.{sym, subst, ◌∙◌}
use native.Mathlib.Omega.{arith}
use Rattle.table.specs.declared.header.Header.{Header}
use Rattle.table.specs.Fields.{RecordIn}
use Rattle.atoms.proofs.Views.{record_in, record_from, record_is}
use Rattle.atoms.proofs.record_at.Goals as goal

pub header_at-h-requires : goal.header_at-h-requires
header_at-h-requires c = omega (arith, (record_in _ _ c.requires).within)

pub record_at-requires : goal.record_at-requires
record_at-requires c = subst (λ (h : Header). RecordIn c.args.table.now h.records c.args.x) (sym c.header_at-h.ensures) (record_in _ _ c.requires)

pub returns : goal.returns
returns c =
    record_is _ _ c.requires _ (c.record_at.ensures ∙ record_from _ _ c.requires c.header_at-h.ensures)
