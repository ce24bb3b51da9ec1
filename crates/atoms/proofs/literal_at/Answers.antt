-- `literal_at` meets its contract. Assumes nothing.
use mathlib.Core.Path.{sym, ap, subst, ◌∙◌}
use Prim.Native.Nat.{◌+◌}
use native.Mathlib.Omega.{arith}
use Rattle.table.specs.declared.header.Header.{Header}
use Rattle.table.specs.Fields.{RecordIn}
use Rattle.atoms.specs.Records.{LiteralAt}
use Rattle.atoms.proofs.Views.{record_in, record_from, literal_none, literal_there}
use Rattle.atoms.proofs.literal_at.Goals as goal

pub header_at-h-requires : goal.header_at-h-requires
header_at-h-requires c = omega (arith, (record_in _ _ c.requires.atom).within)

pub record_at-r-requires : goal.record_at-r-requires
record_at-r-requires c = subst (λ (h : Header). RecordIn c.args.table.now h.records c.args.x) (sym c.header_at-h.ensures) (record_in _ _ c.requires.atom)

pub returns-then-len-eq0 : goal.returns-then-len-eq0
returns-then-len-eq0 c =
    let l = c.requires in
    literal_none _ _ l.atom _ (c.record_at-r.ensures ∙ record_from _ _ l.atom c.header_at-h.ensures) _ l.is c.if-len-eq0.true

pub overflow_add-result : goal.overflow_add-result
overflow_add-result c =
    let l = c.requires in
    let there : LiteralAt c.args.table.now c.args.x (c.header_at-h.result.pool + c.record_at-r.result.a) c.record_at-r.result.b =
    rw (ap (λ (h : Header). h.pool) c.header_at-h.ensures)
    (literal_there _ _ l.atom _ (c.record_at-r.ensures ∙ record_from _ _ l.atom c.header_at-h.ensures) _ l.is c.if-len-eq0.false) in
    omega (arith, there.within)

pub returns : goal.returns
returns c =
    let l = c.requires in
    rw (ap (λ (h : Header). h.pool) c.header_at-h.ensures)
    (literal_there _ _ l.atom _ (c.record_at-r.ensures ∙ record_from _ _ l.atom c.header_at-h.ensures) _ l.is c.if-len-eq0.false)
