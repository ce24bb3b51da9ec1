-- `reader::read_codes` meets its contract. Assumes nothing.
use Rattle.std.proofs.lemmas.Result.{err_from_is_err_and}
use Rattle.compiler.proofs.Leaves.{codes_done, codes_fault}
use Rattle.compiler.proofs.reader.read_codes.Goals as goal

pub returns-in_err-set : goal.returns-in_err-set
returns-in_err-set c =
    let p = err_from_is_err_and c.from_residual.result c.from_residual.ensures.1 in rw (p.1, p.2) (codes_fault _ _ _ _ _ _ _ _ c.in_err-set.ensures)

pub returns : goal.returns
returns c = codes_done _ _ _ _ _ _ _ _ _ _ c.in_ok-set.ensures c.ends_at.ensures (rw (c.from.ensures, c.from-2.ensures, c.from-3.ensures) at c.put_record.ensures) c.requires.1.pool
