-- `header::read_header` meets its contract, test by test. Assumes nothing.
use mathlib.Core.Path.{sym, ap, ◌∙◌}
use native.Mathlib.Omega.{arith}
use Rattle.std.specs.Prelude.{Some}
use Rattle.table.specs.declared.header.Header.{Header}
use Rattle.table.proofs.Measures.{header_small, head_short, head_off, head_wrong, head_right}
use Rattle.table.proofs.header.read_header.Goals as goal
use Rattle.table.proofs.header.read_header.Goals.{then-not-is_marked-via-then-not-is_marked, then-not-is_marked-via-else-not-is_marked+then-table-lt-HEADER_SIZE}

pub returns-then-not-is_marked : goal.returns-then-not-is_marked
returns-then-not-is_marked c =
    elim c.then-not-is_marked.branch [
      | then-not-is_marked-via-then-not-is_marked w ↦ head_off c.args.table.now (sym c.is_marked.ensures ∙ w.if-not-is_marked.true)
      | then-not-is_marked-via-else-not-is_marked+then-table-lt-HEADER_SIZE w ↦ head_short c.args.table.now w.if-table-lt-HEADER_SIZE.true
    ]

pub overflow_add-h : goal.overflow_add-h
overflow_add-h c =
    let e = c.header_at-h.ensures in
    omega (arith, ap (λ (h : Header). h.pool) e, ap (λ (h : Header). h.length) e, header_small c.args.table.now (λ k. (c.type_inv.table k).fits))

pub returns-then-table-h : goal.returns-then-table-h
returns-then-table-h c =
    let e = c.header_at-h.ensures in
    head_wrong c.args.table.now c.if-table-lt-HEADER_SIZE.false (sym c.is_marked.ensures ∙ c.if-not-is_marked.false) (λ z. omega (arith, z, c.if-table-h.true, ap (λ (h : Header). h.pool) e, ap (λ (h : Header). h.length) e))

pub returns : goal.returns
returns c =
    let e = c.header_at-h.ensures in
    ap (λ (h : Header). Some h) e
    ∙ head_right c.args.table.now c.if-table-lt-HEADER_SIZE.false (sym c.is_marked.ensures ∙ c.if-not-is_marked.false) (omega (arith, c.if-table-h.false, ap (λ (h : Header). h.pool) e, ap (λ (h : Header). h.length) e))
