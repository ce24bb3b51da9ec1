-- `write::put_record` meets its contract: five stores, each where the one before ended. Assumes nothing.
use native.Mathlib.Omega.{arith}
use Rattle.pattern.specs.Table.{record_bytes}
use Rattle.pattern.proofs.Stores.{puts_then}
use Rattle.stores.proofs.Little.{puts_two}
use Rattle.table.proofs.write.put_record.Goals as goal

pub returns : goal.returns
unfolding record_bytes
returns c =
    let low = puts_two c.put-high.ensures _ (omega arith) c.to_le_bytes.ensures in
    let high = puts_two c.put-first.ensures _ (omega arith) c.to_le_bytes-2.ensures in
    let first = puts_two c.put-second.ensures c.args.a (omega arith) c.to_le_bytes-3.ensures in
    let second = puts_two c.put.ensures c.args.b (omega arith) c.to_le_bytes-4.ensures in
    (puts_then (puts_then (puts_then (puts_then c.put-low.ensures low) high) first) second).bytes
