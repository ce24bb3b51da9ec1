-- A record's fields, as the code has them. Private: a model for contracts inside the library.
use Rattle.std.specs.Prelude.{ℕ, ◌+◌, ◌*◌, ◌≤◌, length}
use Rattle.pattern.specs.Numbers.{record_size}
use Rattle.pattern.specs.Bytes.{Bytes}
use Rattle.pattern.specs.Table.{Rec}
use Rattle.table.specs.declared.record.Record.{Record}

abbrev pub record_of : Rec → Record
record_of r = record { kind = r.kind; ends = r.ends; low = r.low; high = r.high; a = r.a; b = r.b }

-- the record of atom i lies in the bytes, where the records begin at a place
pub record RecordIn (table : Bytes) (records i : ℕ) : Type 0 where
  pub within : records + record_size * i + record_size ≤ length table
