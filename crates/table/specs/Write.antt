-- What writing a table asks and promises. Private: a model for contracts inside the library.
use Rattle.std.specs.Prelude.{◌≡◌, List, [], ◌++◌, ℕ, ◌*◌, ◌≤◌, length, take, Option, Some, None}
use Rattle.pattern.specs.Numbers.{source_limit, atom_limit, record_size, ROOM}
use Rattle.pattern.specs.Versions.{written_version}
use Rattle.pattern.specs.Bytes.{Bytes}
use Rattle.pattern.specs.Table.{Rec, record_bytes, header}
use Rattle.pattern.specs.Stores.{store_at}
use Rattle.pattern.specs.Answers.{refusal, result, Output, put}
use Rattle.pattern.specs.declared.repeat.Repeat.{Repeat}

-- a record as the code has it
abbrev pub rec_of : (kind last : ℕ) → Repeat → (a b : ℕ) → Rec
rec_of kind last rep a b = record { kind = kind; ends = last; low = rep.low; high = rep.high; a = a; b = b }

-- records in a buffer of records, the first of them that of atom i
abbrev pub put_records : Bytes → (i : ℕ) → List Rec → Bytes
put_records recs i xs = store_at recs (record_size * i) (record_bytes xs [])

-- the buffers hold the records of n atoms and m bytes of text
pub record WriteTablePre (n m : ℕ) (recs text : Bytes) : Type 0 where
  pub atoms : n ≤ atom_limit
  pub source : m ≤ source_limit
  pub recs_there : record_size * n ≤ length recs
  pub text_there : m ≤ length text

-- the table of them
unfoldable pub table_of : (n m : ℕ) → (recs text : Bytes) → Bytes
table_of n m recs text = header written_version n m (take (record_size * n) recs ++ take m text)

-- what was answered and written; too little room is ROOM at this position
abbrev pub table_output : (position : ℕ) → Option ℕ → Bytes → Output
table_output position (Some n) bytes = record { answer = result n 0; bytes = bytes }
table_output position None bytes = record { answer = refusal ROOM position; bytes = bytes }

-- the table in lent bytes, or ROOM at whatever position the caller answers
pub record WriteTablePost (n m : ℕ) (recs text table : Bytes) (r : Option ℕ) (table' : Bytes) : Type 0 where
  pub puts : (position : ℕ) → table_output position r table' ≡ put position (table_of n m recs text) table
