-- `leaf::literal` meets its contract. Assumes nothing.
use native.Mathlib.Omega.{arith}
use Rattle.summary.proofs.Packings.{literal_made, words_byte}
use Rattle.summary.proofs.leaf.literal.Goals as goal

pub returns : goal.returns
returns c =
    literal_made _ _ _ c.requires.0 c.requires.1 _ c.min-n.ensures (words_byte _ _ (omega (arith, c.type_inv.table c.args.from)) c.from.ensures)
