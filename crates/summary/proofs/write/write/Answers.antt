-- `write::write` meets its contract: each store ends where the next one begins. Assumes nothing.
use mathlib.Core.Path.{ap}
use native.Mathlib.Omega.{arith}
use lib.ListN.{length}
use Rattle.std.proofs.Common.{rules}
use Rattle.stores.proofs.Little.{puts_two, puts_eight}
use Rattle.summary.proofs.SummaryBytes.{written_start, written_more, written_room, written_all}
use Rattle.summary.proofs.write.write.Goals as goal

pub loop-word-init : goal.loop-word-init
loop-word-init c =
    let p = c.requires.capped in
    written_start (puts_two c.put-longest.ensures c.args.m.shortest (omega (arith, p.shortest)) c.to_le_bytes.ensures)
    (puts_two c.put-at.ensures c.args.m.longest (omega (arith, p.longest)) c.to_le_bytes-2.ensures)

pub put-at-requires-in-loop-word : goal.put-at-requires-in-loop-word
put-at-requires-in-loop-word c = omega (arith, written_room c.loop-word.invariant (search rules) c.loop-word-test.true c.requires.room, ap length c.to_le_bytes-in-loop-word.ensures)

pub loop-word-preserved : goal.loop-word-preserved
loop-word-preserved c = written_more c.loop-word.invariant (search rules) (puts_eight c.put-at-in-loop-word.ensures _ c.to_le_bytes-in-loop-word.ensures)

pub returns : goal.returns
returns c = written_all c.loop-word.invariant (search rules) (omega arith) c.requires.room
