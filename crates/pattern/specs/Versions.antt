-- What depends on the version of a table: its header, and the limits by which it is good. To be believed.
use Rattle.std.specs.Prelude.{ℕ, ◌+◌, ◌*◌}
use Rattle.pattern.specs.Numbers.{source_limit, atom_limit, atoms_place, record_size}

-- "Version 1 tables are still taken"
pub data Version : Type 0 where
  v1 v2 : Version

-- "The compiler writes version 2 only"
abbrev pub written_version : Version
written_version = v2

-- the number in the header, the bytes of the header that hold the atom count, and the limits: the most atoms, and the longest source
pub record Format : Type 0 where
  pub version : ℕ
  pub width : ℕ
  pub atoms : ℕ
  pub source : ℕ

-- "Byte 5 is the atom count", "good by the old limits"; "version 2: atom count in bytes 5-6"
abbrev pub format : Version → Format
format v1 = record { version = 1; width = 1; atoms = 64; source = 512 }
format v2 = record { version = 2; width = 2; atoms = atom_limit; source = source_limit }

-- the pool length stands after the atom count, "bytes 6-7" and "in 7-8", and then the records begin: "The table header becomes 9 bytes"
abbrev pub length_place : Version → ℕ
length_place v = atoms_place + (format v).width

abbrev pub header_size : Version → ℕ
header_size v = length_place v + 2

-- a size that suffices for every table
abbrev pub table_room : ℕ
table_room = header_size written_version + record_size * atom_limit + source_limit
