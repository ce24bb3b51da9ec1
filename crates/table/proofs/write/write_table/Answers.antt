-- `write::write_table` meets its contract: header, records and text stored one after the other. Assumes nothing.
use native.Mathlib.Omega.{arith}
use Rattle.stores.proofs.Little.{puts_two}
use Rattle.table.proofs.Writing.{no_room, writes_table}
use Rattle.table.proofs.write.write_table.Goals as goal

pub returns-then-table-total : goal.returns-then-table-total
returns-then-table-total c = record { puts = λ position. no_room position _ _ _ _ _ c.requires c.if-table-total.true }

pub returns : goal.returns
returns c =
    record {
      puts = λ position. writes_table position _ _ _ _ _ c.requires _ _ _ _ _ _ c.if-table-total.false c.first_bytes-mark.ensures c.put.ensures.bytes
          (puts_two c.put-2.ensures c.args.atoms (omega arith) c.to_le_bytes.ensures).bytes (puts_two c.put-3.ensures c.args.text (omega arith) c.to_le_bytes-2.ensures).bytes c.put-4.ensures.bytes c.put-5.ensures.bytes;
    }
