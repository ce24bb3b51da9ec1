-- `write_bytes` meets its contract: each write puts bytes after those that were written, or none. Assumes nothing.
use Rattle.std.proofs.KnownBytes.{Appends-kept}
use Rattle.mptline.proofs.Transfers.{appends_next}
use Rattle.mptline.proofs.write_bytes.Goals as goal
use Rattle.mptline.proofs.write_bytes.Goals.{in-Ok, in-Err}

pub writes-preserved : goal.writes-preserved
writes-preserved g c =
    let (within, gave) = c.writes.invariant in
    elim c.match-write.branch [
      | in-Ok w ↦ rw w.written-is (appends_next _ _ _ _ _ _ within gave w.in-Ok.ensures.bound w.in-Ok.ensures.bytes)
      | in-Err w ↦ rw w.written-is (within, Appends-kept _ _ _ _ gave w.in-Err.ensures.bytes)
    ]
