-- `codes::in_set` meets its contract. Assumes nothing.
use native.Mathlib.Omega.{arith}
use Rattle.codes.proofs.ClassTest.{class_test}
use Rattle.codes.proofs.in_set.Goals as goal

pub returns : goal.returns
returns c = class_test c.args.b _ (omega arith) c.word.ensures
