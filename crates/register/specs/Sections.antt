-- The tables of a section one after the other, and where each lies. Private: a model for contracts inside the library.
use Rattle.std.specs.Prelude.{◌≡◌, Bool, true, false, ◌&&◌, List, [], ◌∷◌, ℕ, zero, suc, Some, None, ◌+◌, ◌-◌, ◌≤◌, ◌<◌, leb, length, take, drop, set}
use Rattle.std.specs.declared.option.Option.{Option as Optional}
use Rattle.std.proofs.Math.Option.{Option, none, some}
use Rattle.pattern.specs.Bytes.{Bytes, equal, number_in, overwrite}
use Rattle.register.specs.declared.locate.Location.{Location}
use Rattle.register.specs.Maps.{numbers, Map, table_of, total}
use Rattle.summary.specs.declared.packed.Packed.{Packed}
use Rattle.register.specs.Slots.{rows_room}
use Rattle.register.specs.Layout.{preamble, preamble_size, length_size, slot_size, slot, directory_size, section, allowed}

-- the length in the first of these slots, and the table that it cuts from bytes
abbrev pub first_size : (slots : Bytes) → ℕ
first_size slots = number_in (take length_size slots)

abbrev pub first_table : (slots bytes : Bytes) → Bytes
first_table slots bytes = take (first_size slots) bytes

-- it is all there, none or good, and the slot is its own
unfoldable pub intact : (slots bytes : Bytes) → Bool
intact slots bytes =
    leb (first_size slots) (length bytes) && (allowed (first_table slots bytes) && equal (take slot_size slots) (slot (first_table slots bytes)))

unfoldable pub cons_if : Bool → Bytes → Option Map → Option Map
cons_if true t (some m) = some (t ∷ m)
cons_if true t none = none
cons_if false t o = none

-- the tables of c numbers, if all are intact
unfoldable pub held : (c : ℕ) → (slots bytes : Bytes) → Option Map
held zero slots bytes = some []
held (suc c) slots bytes = cons_if (intact slots bytes) (first_table slots bytes) (held c (drop slot_size slots) (drop (first_size slots) bytes))

unfoldable pub only_if : Bool → Option Map → Option Map
only_if true o = o
only_if false o = none

-- the map that a section holds
unfoldable pub section_of : Bytes → Option Map
section_of s = only_if (leb directory_size (length s)) (held numbers s (drop directory_size s))

-- the map that a buffer holds after its first bytes: what `find` looks for
unfoldable pub found : (lent : Bytes) → Option Map
found lent = only_if (equal (take preamble_size lent) preamble) (section_of (drop preamble_size lent))

-- where tables that begin at a place end, if all are intact
unfoldable pub tables_end : (at : ℕ) → Option Map → Optional ℕ
tables_end at none = None
tables_end at (some m) = Some (at + total m)

-- where the table of number k lies
abbrev pub location_in : Map → (k : ℕ) → Location
location_in m k =
    record { start = directory_size + total (take k m); end = directory_size + total (take k m) + length (table_of m k); used = directory_size + total m }

unfoldable pub located : (k : ℕ) → Option Map → Optional Location
located k none = None
located k (some m) = Some (location_in m k)

-- the places are in order, and the last one is within lent bytes
pub record IsWithin (at : Location) (lent : Bytes) : Type 0 where
  pub begins : at.start ≤ at.end
  pub ends : at.end ≤ at.used
  pub within : preamble_size + at.used ≤ length lent

-- there is a map
unfoldable pub is_register : Option Map → Bool
is_register none = false
is_register (some m) = true

-- a section with another table of number k, or none: bytes after the last table stay
unfoldable pub placed : Option Map → (s : Bytes) → (k : ℕ) → (t : Bytes) → Bytes
placed none s k t = s
placed (some m) s k t = overwrite (section (set m k t)) s

-- the table of number k lies there, t has room in its stead, and this is its slot
pub record PutTablePre (s : Bytes) (k : ℕ) (at : Location) (t own : Bytes) : Type 0 where
  pub small : k < numbers
  pub lies : Some at ≡ located k (section_of s)
  pub allows : allowed t ≡ true
  pub room : at.used + length t ≤ length s + (at.end - at.start)
  pub slotted : own ≡ slot t

-- the numbers below b are some, the first table lies within, and there are rows enough
pub record PassPre (s : Bytes) (b at : ℕ) (rows : List Packed) : Type 0 where
  pub few : b ≤ numbers
  pub long : directory_size ≤ length s
  pub inside : at ≤ length s
  pub room : rows_room ≤ length rows
