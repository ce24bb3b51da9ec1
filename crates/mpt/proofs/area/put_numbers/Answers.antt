-- `area::put_numbers` meets its contract: four numbers, one after the other. Assumes nothing.
use mathlib.Core.Path.{◌∙◌}
use Rattle.pattern.proofs.Stores.{store_at_overwrite, puts_then}
use Rattle.pattern.specs.Bytes.{little}
use Rattle.stores.proofs.Little.{puts_eight}
use Rattle.mpt.specs.Area.{four_numbers}
use Rattle.mpt.proofs.area.put_numbers.Goals as goal

pub returns : goal.returns
unfolding four_numbers little
returns c =
    let a = puts_eight c.put-second.ensures c.args.a c.to_le_bytes.ensures in
    let b = puts_eight c.put-third.ensures c.args.b c.to_le_bytes-2.ensures in
    let d = puts_eight c.put-fourth.ensures c.args.c c.to_le_bytes-3.ensures in
    let e = puts_eight c.put.ensures c.args.d c.to_le_bytes-4.ensures in
    (puts_then (puts_then (puts_then a b) d) e).bytes ∙ store_at_overwrite _ _ c.requires
