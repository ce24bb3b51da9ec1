-- `put::put_table` meets its contract: the tables after it are moved, it is copied, its slot is written. Assumes nothing.
use mathlib.Core.Path.{ap, ◌∙◌}
use Prim.Native.Nat.{◌*◌}
use native.Mathlib.Omega.{arith}
use lib.ListN.{length}
use Rattle.pattern.specs.Bytes.{Bytes}
use Rattle.pattern.specs.Stores.{store_at}
use Rattle.register.specs.Layout.{slot_size}
use Rattle.register.proofs.Sections.{length_slot}
use Rattle.register.proofs.Putting.{put_places, put_placed}
use Rattle.register.proofs.put.put_table.Goals as goal

pub overflow_add-start : goal.overflow_add-start
overflow_add-start c = let p = put_places c.requires in omega (arith, p.within, p.room, p.ends, c.well_formed)

pub move_bytes-requires : goal.move_bytes-requires
move_bytes-requires c = let p = put_places c.requires in (omega (arith, p.ends, p.within), omega (arith, p.room))

pub copy_table-requires : goal.copy_table-requires
copy_table-requires c = omega (arith, (put_places c.requires).room, c.move_bytes.auto)

pub put-requires : goal.put-requires
put-requires c =
    let pre = c.requires in
    omega (arith, ap length pre.slotted, length_slot c.args.table.now, (put_places pre).slotted, c.move_bytes.auto, c.copy_table.auto)

pub returns : goal.returns
returns c =
    let t : Bytes = c.args.table.now in
    c.put.ensures.bytes ∙ ap (λ (x : Bytes). store_at x (slot_size * c.args.k) c.args.slot.now) (c.copy_table.ensures ∙ ap (λ (x : Bytes). store_at x c.args.at.start t) c.move_bytes.ensures)
    ∙ put_placed c.requires

pub overflow_sub-at : goal.overflow_sub-at
overflow_sub-at c = (put_places c.requires).ends
