-- What the slots of a directory are worked out from. Private: a model for contracts inside the library.
use Rattle.std.specs.Prelude.{◌≡◌, List, ℕ, ◌+◌, ◌≤◌, length, take, drop}
use Rattle.pattern.specs.Numbers.{atom_limit}
use Rattle.pattern.specs.Bytes.{Bytes, number_in}
use Rattle.pattern.specs.Decode.{field}
use Rattle.summary.specs.declared.packed.Packed.{Packed}
use Rattle.register.specs.declared.slot.Kept.{Kept}
use Rattle.register.specs.Layout.{length_size, slot_size}

-- rows for the atoms of every table
abbrev pub rows_room : ℕ
rows_room = atom_limit

pub record IntactPre (bytes : Bytes) (rows : List Packed) : Type 0 where
  pub whole : length bytes ≡ slot_size
  pub room : rows_room ≤ length rows

-- where a slot has the atoms, the top-level atoms and the summary
abbrev pub atoms_place : ℕ
atoms_place = length_size

abbrev pub top_place : ℕ
top_place = atoms_place + 2

abbrev pub summary_place : ℕ
summary_place = top_place + 2

-- the numbers of the slot at a place
unfoldable pub kept_at : Bytes → ℕ → Kept
kept_at s at = record { length = number_in (take length_size (drop at s)); atoms = field s (at + atoms_place); top = field s (at + top_place) }
