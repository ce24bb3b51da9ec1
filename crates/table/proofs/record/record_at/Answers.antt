-- `record::record_at` meets its contract: each field is read where the record has it. Assumes nothing.
use Prim.Native.Nat.{◌+◌, ◌*◌}
use lib.ListN.{get_or}
use Rattle.pattern.specs.Numbers.{record_size}
use Rattle.table.proofs.record.record_at.Goals as goal

pub returns : goal.returns
returns c =
    let s = c.args.table.now in
    let at = c.args.records + record_size * c.args.i in
    λ j. record { kind = get_or s at 0; ends = get_or s (at + 1) 0; low = c.read16.ensures j; high = c.read16-2.ensures j; a = c.read16-3.ensures j; b = c.read16-4.ensures j }
