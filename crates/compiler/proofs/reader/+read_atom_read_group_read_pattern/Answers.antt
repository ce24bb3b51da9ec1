-- `reader::read_pattern`, `read_atom` and `read_group` meet their contracts. A pattern reads an atom at the same place, a group a pattern at the same place, an atom a group
-- further on. Assumes nothing.
use mathlib.Core.Path.{sym, ap, ◌∙◌}
use native.Mathlib.Omega.{arith}
use Rattle.std.specs.Int.{from_bool}
use Rattle.std.proofs.lemmas.Result.{err_from_is_err_and}
use Rattle.scanner.proofs.Places.{class_letter}
use Rattle.compiler.proofs.Readers.{count_is, quote_is, letter_before, atom_refused, atom_codes, atom_literal, atom_other, opening_is, atom_deep, group_ready, atom_group_fault, atom_group, group_is, atom_is, pattern_is, read_pattern_start, going_fault, read_pattern_last, read_pattern_more, past_comma, read_group_start, branching_fault, branching_other, branching_close, read_group_more, count_few}
use Rattle.compiler.proofs.reader.+read_atom_read_group_read_pattern.Goals as goal

pub read_atom-returns-in_err-next : goal.read_atom-returns-in_err-next
read_atom-returns-in_err-next t c =
    let p = err_from_is_err_and c.from_residual.result c.from_residual.ensures.1 in rw (p.1, p.2) (atom_refused _ _ _ _ _ _ _ _ c.in_err-next.ensures)

pub read_atom-read_codes-requires : goal.read_atom-read_codes-requires
read_atom-read_codes-requires t c =
    let k = count_is _ _ _ _ _ c.in_ok-next.ensures in
    let r = c.requires.0 in
    let m = c.requires.1 in
    let y = class_letter _ _ _ _ c.in-Letter.ensures in
    (letter_before _ _ _ _ y, record { within = omega (arith, y.kind.within, y.kind.past); atoms = k.room; pool = omega (arith, r.pool, k.onward.on, y.kind.past); source = m.source; room = m.recs_fit _ k.room (omega (arith, r.sparse, k.onward.on, y.kind.within)) })

pub read_atom-returns-in-Letter : goal.read_atom-returns-in-Letter
read_atom-returns-in-Letter t c =
    atom_codes _ _ _ _ _ c.requires.0 _ _ (count_is _ _ _ _ _ c.in_ok-next.ensures) _ _ _ _ c.in-Letter.ensures c.read_codes.ensures

pub read_atom-read_literal-requires : goal.read_atom-read_literal-requires
read_atom-read_literal-requires t c =
    let k = count_is _ _ _ _ _ c.in_ok-next.ensures in
    let r = c.requires.0 in
    let m = c.requires.1 in
    let y = quote_is _ _ _ c.in-Quote.ensures in
    (record { within = omega (arith, y.within, y.past); atoms = k.room; pool = omega (arith, r.pool, k.onward.on, y.past); source = m.source; room = m.recs_fit _ k.room (omega (arith, r.sparse, k.onward.on, y.within)) }, m.text_fits)

pub read_atom-returns-in-Quote : goal.read_atom-returns-in-Quote
read_atom-returns-in-Quote t c =
    atom_literal _ _ _ _ _ c.requires.0 _ _ (count_is _ _ _ _ _ c.in_ok-next.ensures) _ _ _ _ c.in-Quote.ensures c.read_literal.ensures

pub read_atom-returns-then-depth-ge-DEPTH_LIMIT : goal.read_atom-returns-then-depth-ge-DEPTH_LIMIT
read_atom-returns-then-depth-ge-DEPTH_LIMIT t c =
    rw c.at.ensures (atom_deep _ _ _ _ _ c.requires.0 _ _ (count_is _ _ _ _ _ c.in_ok-next.ensures) _ c.in-Opening.ensures _ _ (omega (arith, c.if-depth-ge-DEPTH_LIMIT.true)))

pub read_atom-read_group-requires : goal.read_atom-read_group-requires
read_atom-read_group-requires t c =
    let k = count_is _ _ _ _ _ c.in_ok-next.ensures in
    let o = opening_is _ _ c.args.depth c.args.recs.now c.args.pool.now c.requires.0 _ _ k _ c.in-Opening.ensures in
    (omega (arith, k.onward.on, o.past, o.within, c.decreases), (group_ready _ _ _ c.args.recs.now c.args.pool.now c.requires.0 _ _ k _ c.in-Opening.ensures (omega (arith, c.if-depth-ge-DEPTH_LIMIT.false)), c.requires.1))

pub read_atom-returns-in_err-end-in-Opening : goal.read_atom-returns-in_err-end-in-Opening
read_atom-returns-in_err-end-in-Opening t c =
    let r = c.from_residual-in_err-end-in-Opening in
    let p = err_from_is_err_and r.result r.ensures.1 in
    rw (p.1, p.2) (atom_group_fault _ _ _ _ _ c.requires.0 _ _ (count_is _ _ _ _ _ c.in_ok-next.ensures) _ c.in-Opening.ensures (omega (arith, c.if-depth-ge-DEPTH_LIMIT.false)) _ _ _ c.in_err-end-in-Opening.ensures)

pub read_atom-overflow_cast-branches : goal.read_atom-overflow_cast-branches
read_atom-overflow_cast-branches t c = record { fits = omega (arith, count_few _ _ _ _ _ _ _ _ _ (group_is _ _ _ _ _ _ _ _ _ c.in_ok-end-in-Opening.ensures)) }

pub read_atom-overflow_cast-end : goal.read_atom-overflow_cast-end
read_atom-overflow_cast-end t c = let m = (group_is _ _ _ _ _ _ _ _ _ c.in_ok-end-in-Opening.ensures).moved in record { fits = omega (arith, m.atoms) }

pub read_atom-put_record-requires : goal.read_atom-put_record-requires
read_atom-put_record-requires t c =
    let k = count_is _ _ _ _ _ c.in_ok-next.ensures in
    let r = c.requires.0 in
    let m = c.requires.1 in
    omega (arith, m.recs_fit _ k.room (omega (arith, r.sparse, k.onward.on, k.onward.within)), c.read_group.auto.recs)

pub read_atom-returns-in_ok-end-in-Opening : goal.read_atom-returns-in_ok-end-in-Opening
read_atom-returns-in_ok-end-in-Opening t c =
    atom_group _ _ _ _ _ c.requires.0 _ _ (count_is _ _ _ _ _ c.in_ok-next.ensures) _ c.in-Opening.ensures (omega (arith, c.if-depth-ge-DEPTH_LIMIT.false)) _ _ _ _ _ _ (group_is _ _ _ _ _ _ _ _ _ c.in_ok-end-in-Opening.ensures) c.ends_at.ensures (rw (c.from.ensures, c.from-last.ensures) at c.put_record.ensures)

pub read_atom-returns-in-Other : goal.read_atom-returns-in-Other
read_atom-returns-in-Other t c = rw c.at-in-Other.ensures (atom_other _ _ _ _ _ c.requires.0 _ _ (count_is _ _ _ _ _ c.in_ok-next.ensures) _ _ c.in-Other.ensures)

pub read_group-loop-end-init : goal.read_group-loop-end-init
read_group-loop-end-init t c = read_group_start _ _ _ _ _ c.requires.0

pub read_group-read_pattern-requires : goal.read_group-read_pattern-requires
read_group-read_pattern-requires t c =
    let g = c.loop-end.invariant in
    let o = g.gone in
    let v = c.requires.1 in
    (omega (arith, o.on, c.decreases), (o.ready, record { source = v.source; recs_fit = λ n h l. omega (arith, v.recs_fit n h l, o.recs_size); text_fits = omega (arith, v.text_fits, o.text_size) }))

pub read_group-returns-in_err-end : goal.read_group-returns-in_err-end
read_group-returns-in_err-end t c =
    let p = err_from_is_err_and c.from_residual.result c.from_residual.ensures.1 in
    rw (p.1, p.2) (branching_fault _ _ _ _ _ _ _ _ _ c.loop-end.invariant _ _ _ c.in_err-end.ensures)

pub read_group-loop-end-smaller : goal.read_group-loop-end-smaller
read_group-loop-end-smaller t c =
    let h = pattern_is _ _ _ _ _ _ _ _ c.in_ok-end.ensures in
    let m = h.moved in
    let o = past_comma _ _ _ _ _ _ _ _ _ c.loop-end.invariant _ _ _ h _ c.in-Comma.ensures in
    omega (arith, m.on, o.past, o.within)

pub read_group-loop-end-preserved : goal.read_group-loop-end-preserved
read_group-loop-end-preserved t c =
    read_group_more _ _ _ _ _ _ _ _ _ c.loop-end.invariant _ _ _ (pattern_is _ _ _ _ _ _ _ _ c.in_ok-end.ensures) _ c.in-Comma.ensures c.read_pattern.auto.recs c.read_pattern.auto.pool

pub read_group-returns-in-Closing : goal.read_group-returns-in-Closing
read_group-returns-in-Closing t c =
    branching_close _ _ _ _ _ _ _ _ _ c.loop-end.invariant _ _ _ (pattern_is _ _ _ _ _ _ _ _ c.in_ok-end.ensures) _ c.in-Closing.ensures

pub read_group-returns-in-Other : goal.read_group-returns-in-Other
read_group-returns-in-Other t c =
    rw c.at.ensures (branching_other _ _ _ _ _ _ _ _ _ c.loop-end.invariant _ _ _ (pattern_is _ _ _ _ _ _ _ _ c.in_ok-end.ensures) c.in-Other.ensures)

pub read_pattern-loop-from-init : goal.read_pattern-loop-from-init
read_pattern-loop-from-init t c = read_pattern_start _ _ _ _ _ c.requires.0

pub read_pattern-read_atom-requires : goal.read_pattern-read_atom-requires
read_pattern-read_atom-requires t c =
    let g = c.loop-from.invariant.gone in
    let v = c.requires.1 in
    (omega (arith, g.on, c.decreases), (g.ready, record { source = v.source; recs_fit = λ n h l. omega (arith, v.recs_fit n h l, g.recs_size); text_fits = omega (arith, v.text_fits, g.text_size) }))

pub read_pattern-returns-in_err-from : goal.read_pattern-returns-in_err-from
read_pattern-returns-in_err-from t c =
    let p = err_from_is_err_and c.from_residual.result c.from_residual.ensures.1 in
    rw (p.1, p.2) (going_fault _ _ _ _ _ _ _ _ c.loop-from.invariant _ _ _ c.in_err-from.ensures)

pub read_pattern-returns-then-ends_at : goal.read_pattern-returns-then-ends_at
read_pattern-returns-then-ends_at t c =
    read_pattern_last _ _ _ _ _ _ _ _ c.loop-from.invariant _ _ _ (atom_is _ _ _ _ _ _ _ _ c.in_ok-from.ensures) (sym c.ends_at.ensures ∙ ap from_bool c.if-ends_at.true)

pub read_pattern-loop-from-smaller : goal.read_pattern-loop-from-smaller
read_pattern-loop-from-smaller t c =
    let m = (atom_is _ _ _ _ _ _ _ _ c.in_ok-from.ensures).moved in
    omega (arith, m.on, m.within)

pub read_pattern-loop-from-preserved : goal.read_pattern-loop-from-preserved
read_pattern-loop-from-preserved t c =
    read_pattern_more _ _ _ _ _ _ _ _ c.loop-from.invariant _ _ _ (atom_is _ _ _ _ _ _ _ _ c.in_ok-from.ensures) (sym c.ends_at.ensures ∙ ap from_bool c.if-ends_at.false) c.read_atom.auto.recs c.read_atom.auto.pool
