-- `read` meets its contract. Assumes nothing.
use native.Mathlib.Omega.{arith}
use Rattle.mptline.proofs.Transfers.{read_moves}
use Rattle.mptline.proofs.read.Goals as goal

pub returns : goal.returns
returns g c =
    let s = c.requires in
    read_moves c.args.held c.args.buf.now c.read.new.buf _ _ (omega (arith, s.sized.input_some, c.read.auto.buf)) c.read.result (rw c.ok-got.ensures.value at c.after_read.ensures) c.read.ensures.bound c.read.ensures.bytes
