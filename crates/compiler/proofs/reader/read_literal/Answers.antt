-- `reader::read_literal` meets its contract. Assumes nothing.
use native.Mathlib.Omega.{arith}
use Rattle.std.proofs.lemmas.Result.{err_from_is_err_and}
use Rattle.compiler.proofs.Leaves.{literal_is, literal_done, literal_fault}
use Rattle.compiler.proofs.reader.read_literal.Goals as goal

pub overflow_sub-length : goal.overflow_sub-length
overflow_sub-length c =
    let v = literal_is _ _ c.args.st.atoms _ c.args.rep c.args.recs.now c.args.recs.now _ _ _ _ c.in_ok-at.ensures in
    omega (arith, v.end_is)

pub overflow_cast-length : goal.overflow_cast-length
overflow_cast-length c =
    let v = literal_is _ _ c.args.st.atoms _ c.args.rep c.args.recs.now c.args.recs.now _ _ _ _ c.in_ok-at.ensures in
    let r = c.requires.0 in
    record { fits = omega (arith, v.fits, v.onward.within, r.source) }

pub returns-in_err-at : goal.returns-in_err-at
returns-in_err-at c =
    let p = err_from_is_err_and c.from_residual.result c.from_residual.ensures.1 in
    rw (p.1, p.2) (literal_fault _ _ _ _ _ _ _ _ _ _ c.in_err-at.ensures)

pub returns : goal.returns
returns c = literal_done _ _ _ _ _ _ _ _ _ _ _ _ c.in_ok-at.ensures c.ends_at.ensures (rw (c.from.ensures, c.from-2.ensures) at c.put_record.ensures)
