-- `slot::slot_in` meets its contract: the numbers one after the other, and the summary. Assumes nothing.
use mathlib.Core.Path.{refl}
use native.Mathlib.Omega.{arith}
use Rattle.atoms.proofs.Goods.{tested_good}
use Rattle.pattern.specs.Decode.{tree_of}
use Rattle.pattern.proofs.Rooms.{top_le, good_fits}
use Rattle.stores.proofs.Little.{puts_two, puts_four}
use Rattle.register.proofs.Slots.{summary_room, slot_written}
use Rattle.register.proofs.slot.slot_in.Goals as goal

pub overflow_cast-table : goal.overflow_cast-table
overflow_cast-table c = omega (arith, good_fits _ _ (tested_good _ _ c.args.table.good).good.decoded)

pub overflow_cast-atoms : goal.overflow_cast-atoms
overflow_cast-atoms c = let g = tested_good _ _ c.args.table.good in omega (arith, g.atoms_is, g.few)

pub overflow_cast-top : goal.overflow_cast-top
overflow_cast-top c = let g = tested_good _ _ c.args.table.good in omega (arith, g.top_is, g.few, top_le (tree_of c.args.table.bytes.now))

pub write_summary-requires : goal.write_summary-requires
write_summary-requires c =
    let g = tested_good _ _ c.args.table.good in
    record { good = g.good; count = g.atoms_is; room = omega (arith, c.requires, g.atoms_is, g.few); outs = summary_room c.put-3.new.to (omega (arith, c.put-3.auto, c.put-2.auto, c.put.auto)) }

pub returns : goal.returns
returns c =
    let g = tested_good _ _ c.args.table.good in
    slot_written g _ _ _ _ _ refl (puts_four c.put.ensures _ c.to_le_bytes.ensures).bytes (puts_two c.put-2.ensures c.args.table.sizes.atoms (omega (arith, g.atoms_is, g.few)) c.to_le_bytes-2.ensures).bytes
    (puts_two c.put-3.ensures c.args.table.sizes.top (omega (arith, g.top_is, g.few, top_le (tree_of c.args.table.bytes.now))) c.to_le_bytes-3.ensures).bytes c.write_summary.ensures
