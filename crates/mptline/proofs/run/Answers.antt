-- `run` meets its contract: what holds between steps holds after each. Assumes nothing.
use native.Mathlib.Omega.{arith}
use Rattle.lines.proofs.Tidying.{sized_as}
use Rattle.mptline.proofs.Turns.{so_far_none, so_far_write, so_far_read, so_far_stop, so_far_all}
use Rattle.mptline.proofs.run.Goals as goal
use Rattle.mptline.proofs.run.Goals.{in-Write, in-Read}

pub loop-init : goal.loop-init
loop-init g c = so_far_none _ _ c.requires

pub write-next-requires : goal.write-next-requires
write-next-requires g c = rw (← c.in-Write.is) c.loop.invariant.sound

pub read-next-requires : goal.read-next-requires
read-next-requires g c = rw (← c.in-Read.is) c.loop.invariant.sound

pub returns-in-Stop : goal.returns-in-Stop
returns-in-Stop g c = so_far_stop c.loop.invariant c.in-Stop.is

pub loop-preserved : goal.loop-preserved
loop-preserved g c =
    let k = c.loop.invariant in
    elim c.match-next.branch [
      | in-Write w ↦
          let m = w.write-next.auto in
          rw (w.buf-is, w.line-is, w.scratch-is, w.out-is, w.next-is, w.input-is, w.output-is) (so_far_write (rw w.in-Write.is at k) w.write-next.ensures (sized_as k.sound.sized m.buf m.line m.scratch m.out))
      | in-Read w ↦
          let m = w.read-next.auto in
          rw (w.buf-is, w.line-is, w.scratch-is, w.out-is, w.next-is, w.input-is, w.output-is) (so_far_read (rw w.in-Read.is at k) w.read-next.ensures (sized_as k.sound.sized m.buf m.line m.scratch m.out))
    ]

pub returns : goal.returns
returns g c = so_far_all c.loop.invariant (omega arith)
