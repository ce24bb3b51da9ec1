-- `compile_in` meets its contract: the reader's answer is the scan's. Assumes nothing.
use Prim.Native.Nat.{ℕ}
use native.Mathlib.Omega.{arith}
use lib.ListN.{length-replicate}
use Rattle.std.proofs.lemmas.Result.{err_from_is_err_and}
use Rattle.compiler.proofs.Readers.{pattern_is}
use Rattle.compiler.proofs.Answers.{records_there, compile_fault, compile_form, compile_room}
use Rattle.compiler.proofs.compile_in.Goals as goal

pub read_pattern-requires : goal.read_pattern-requires
read_pattern-requires g c =
    (record { within = omega arith; atoms = omega arith; sparse = omega arith; pool = omega arith; shallow = omega arith }, rw (length-replicate {A = ℕ} g.row.RECORDS 0, length-replicate {A = ℕ} g.row.TEXT 0) c.requires.fits)

pub returns-in_err-end : goal.returns-in_err-end
returns-in_err-end g c =
    let p = err_from_is_err_and c.from_residual.result c.from_residual.ensures.1 in
    rw (p.1, p.2) (compile_fault _ _ c.requires.fits.source _ _ _ _ _ c.in_err-end.ensures)

pub returns-then-position-source : goal.returns-then-position-source
returns-then-position-source g c =
    rw c.at.ensures (compile_form _ _ c.requires.fits.source _ _ _ _ _ (pattern_is _ _ _ _ _ _ _ _ c.in_ok-end.ensures) c.if-position-source.true)

pub write_table-requires : goal.write_table-requires
write_table-requires g c =
    let fit = c.requires.fits in
    let m = (pattern_is _ _ _ _ _ _ _ _ c.in_ok-end.ensures).moved in
    record { atoms = omega (arith, m.atoms); source = omega (arith, m.pool, m.within, fit.source); recs_there = omega (arith, records_there fit m, c.read_pattern.auto.recs, length-replicate {A = ℕ} g.row.RECORDS 0); text_there = omega (arith, m.pool, m.within, fit.text_fits, c.read_pattern.auto.pool, length-replicate {A = ℕ} g.row.TEXT 0) }

pub returns : goal.returns
returns g c =
    compile_room _ _ c.requires.fits.source _ _ _ _ _ (pattern_is _ _ _ _ _ _ _ _ c.in_ok-end.ensures) (rw (length-replicate {A = ℕ} g.row.RECORDS 0, length-replicate {A = ℕ} g.row.TEXT 0) c.requires.fits) (omega (arith, c.if-position-source.false)) _ c.write_table.ensures _ (rw c.at-2.ensures at c.ok_or.ensures.value)
