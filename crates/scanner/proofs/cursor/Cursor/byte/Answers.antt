-- `Cursor::byte` meets its contract. Assumes nothing.
use native.Mathlib.Omega.{arith}
use Rattle.std.proofs.lemmas.Bool.Decides.{nat_tests}
use Rattle.scanner.specs.Places.{BytePost}
use Rattle.scanner.proofs.cursor.Cursor.byte.Goals as goal

pub returns-in_err-b : goal.returns-in_err-b
unfolding BytePost
returns-in_err-b c = rw c.from_residual.ensures (let e = c.in_err-b.ensures.lookup in grind (arith, nat_tests))

pub returns : goal.returns
unfolding BytePost
returns c = let h = c.in_ok-b.ensures.lookup.3 in record { within = h.0; value = h.1 0; past = omega arith }
