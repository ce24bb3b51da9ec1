-- `table::test` meets its contract: each answer is what the walk says of `decode`. Assumes nothing.
use Rattle.table.proofs.Checks.{head_read, body_read, records_there, ready_start, bad_head, bad_atoms, bad_walk, bad_count, bad_pool, bad_length, good_table}
use Rattle.table.proofs.test.Goals as goal
use Rattle.table.proofs.test.Goals.{then-end-h-via-then-end-h, then-end-h-via-else-end-h+then-end-h-2, then-end-h-via-else-end-h+else-end-h-2+then-h-end}

pub returns-in_err-h-clause-sizes : goal.returns-in_err-h-clause-sizes
returns-in_err-h-clause-sizes c = rw c.from_residual.ensures (bad_head c.args.table.now (λ k. (c.type_inv.table k).fits) c.read_header.ensures c.in_err-h.was)

pub returns-then-h-clause-sizes : goal.returns-then-h-clause-sizes
returns-then-h-clause-sizes c = bad_atoms (head_read (λ k. (c.type_inv.table k).fits) c.read_header.ensures c.in_ok-h.was) c.if-h.true

pub slice_bounds-payload-count : goal.slice_bounds-payload-count
slice_bounds-payload-count c = records_there (head_read (λ k. (c.type_inv.table k).fits) c.read_header.ensures c.in_ok-h.was)

pub slice_bounds-payload-start : goal.slice_bounds-payload-start
slice_bounds-payload-start c = records_there (head_read (λ k. (c.type_inv.table k).fits) c.read_header.ensures c.in_ok-h.was)

pub pattern-requires : goal.pattern-requires
pattern-requires c = ready_start (head_read (λ k. (c.type_inv.table k).fits) c.read_header.ensures c.in_ok-h.was) c.if-h.false

pub returns-in_err-end-clause-sizes : goal.returns-in_err-end-clause-sizes
returns-in_err-end-clause-sizes c =
    rw c.from_residual-in_err-end.ensures
    (bad_walk (body_read (head_read (λ k. (c.type_inv.table k).fits) c.read_header.ensures c.in_ok-h.was) c.if-h.false c.pattern.ensures) c.in_err-end.was)

pub returns-then-end-h-clause-sizes : goal.returns-then-end-h-clause-sizes
returns-then-end-h-clause-sizes c =
    let r = body_read (head_read (λ k. (c.type_inv.table k).fits) c.read_header.ensures c.in_ok-h.was) c.if-h.false c.pattern.ensures in
    elim c.then-end-h.branch [
      | then-end-h-via-then-end-h w ↦ bad_count r c.in_ok-end.was w.if-end-h.true
      | then-end-h-via-else-end-h+then-end-h-2 w ↦ bad_pool r c.in_ok-end.was w.if-end-h.false w.if-end-h-2.true
      | then-end-h-via-else-end-h+else-end-h-2+then-h-end w ↦ bad_length r c.in_ok-end.was w.if-end-h.false w.if-end-h-2.false w.if-h-end.true
    ]

pub invariant_of-result : goal.invariant_of-result
invariant_of-result c =
    record { good = good_table (body_read (head_read (λ k. (c.type_inv.table k).fits) c.read_header.ensures c.in_ok-h.was) c.if-h.false c.pattern.ensures) c.in_ok-end.was c.if-end-h.false c.if-end-h-2.false c.if-h-end.false }
