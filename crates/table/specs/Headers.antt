-- The header of a table, as the code has it. Private: a model for contracts inside the library.
use Rattle.std.specs.Prelude.{Option, Some, None, Bool, cond, ◌&&◌, ◌||◌, [], ◌++◌, ℕ, ◌+◌, ◌*◌, leb, eqb, length, take}
use Rattle.pattern.specs.Numbers.{mark, atom_limit, atoms_place, record_size}
use Rattle.pattern.specs.Versions.{Version, v1, v2, written_version, format, header_size}
use Rattle.pattern.specs.Bytes.{Bytes, le16, equal}
use Rattle.pattern.specs.Decode.{field, version_of, count_in}
use Rattle.table.specs.declared.layout.Version as coded
use Rattle.table.specs.declared.layout.Version.TheVariants.{One, Two}
use Rattle.table.specs.declared.layout.Format.{Format}
use Rattle.table.specs.declared.header.Header.{Header}

-- a version, as the code has it
abbrev pub version_as : coded.Version → Version
version_as One = v1
version_as Two = v2

-- the mark and the version, as every table of a version begins
abbrev pub first_bytes : Version → Bytes
first_bytes v = mark ++ le16 (format v).version []

-- the mark and a version are there
unfoldable pub marked : Bytes → Bool
marked s = equal (take atoms_place s) (first_bytes v2) || equal (take atoms_place s) (first_bytes v1)

-- what depends on the version
abbrev pub format_of : Version → Format
format_of v = record { width = (format v).width; atoms = (format v).atoms; source = (format v).source }

-- what the header says: the number of atoms and of bytes of the pool, and where the records and the pool begin
abbrev pub header_by : Bytes → (atoms : ℕ) → Format → Header
header_by s atoms f =
    record { atoms = atoms; length = field s (atoms_place + f.width); records = atoms_place + f.width + 2; pool = atoms_place + f.width + 2 + record_size * atoms; format = f }

abbrev pub header_of : Bytes → Header
header_of s = header_by s (count_in (version_of s) s) (format_of (version_of s))

-- what follows the header of a table within the limits is shorter: the header has the pool's length in two bytes
abbrev pub length_bound : ℕ
length_bound = record_size * atom_limit + 65536

-- the mark and a version are there, and the length is what the header says
abbrev pub headed_by : Bytes → Header → Bool
headed_by s h = leb (header_size written_version) (length s) && marked s && eqb (length s) (h.pool + h.length)

unfoldable pub headed : Bytes → Bool
headed s = headed_by s (header_of s)

unfoldable pub read_header : Bytes → Option Header
read_header s = cond (headed s) (Some (header_of s)) None
