-- `cursor::is_plain` meets its contract. Assumes nothing.
use mathlib.Core.Path.{◌∙◌, ap}
use mathlib.Core.Bool.{not}
use native.Mathlib.Omega.{arith}
use borrow.Author.Tests.{le-leb, lt-leb, eq-eqb, ne_eqb}
use Rattle.scanner.proofs.Places.{plain_test}
use Rattle.scanner.proofs.cursor.is_plain.Goals as goal

pub returns-then-b-ge32 : goal.returns-then-b-ge32
returns-then-b-ge32 c = rw (ne_eqb _ _ c.if-b-ne34.true, le-leb _ _ c.if-b-ge32.true) at (plain_test c.args.b (omega arith))

pub returns-else-b-ge32 : goal.returns-else-b-ge32
returns-else-b-ge32 c = let e = lt-leb _ _ c.if-b-ge32.false in e ∙ rw (ne_eqb _ _ c.if-b-ne34.true, e) at (plain_test c.args.b (omega arith))

pub returns-else-b-ne34 : goal.returns-else-b-ne34
returns-else-b-ne34 c = let e = eq-eqb _ _ c.if-b-ne34.false in ap not e ∙ rw e at (plain_test c.args.b (omega arith))
