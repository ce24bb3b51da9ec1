-- `write` meets its contract. Assumes nothing.
use borrow.Author.Tests.{eqb-true}
use lib.Dec.{eqb}
use Rattle.lines.specs.Invariant.{NextIn}
use Rattle.mptline.proofs.Transfers.{write_moves}
use Rattle.mptline.proofs.write.Goals as goal

pub returns : goal.returns
unfolding NextIn
returns g c =
    write_moves (eqb c.write_bytes.result c.args.p.end) c.args.p c.write_bytes.result _ _ _ c.requires.ready c.after_write.ensures (eqb-true _ _) c.write_bytes.ensures.within c.write_bytes.ensures.gave
