-- The bytes that each text of a reply needs at most. Private: a model for contracts inside the library.
use Rattle.std.specs.Prelude.{◌≡◌, ℕ, ◌+◌, ◌≤◌, length}
use Rattle.pattern.specs.Bytes.{Bytes}
use Rattle.pattern.specs.Syntax.{pattern, Syntax}
use Rattle.pattern.specs.Scan.{accepted, outcome}
use Rattle.pattern.specs.Table.{encode}

-- a 64-bit number in decimal
abbrev pub number_room : ℕ
number_room = 20

-- a letter, a space and such a number
abbrev pub coded_room : ℕ
coded_room = 2 + number_room

-- the same, a space and another number
abbrev pub refused_room : ℕ
refused_room = coded_room + 1 + number_room

-- a byte and a 16-bit number
abbrev pub part_room : ℕ
part_room = 6

-- a source's table fits the lent bytes, if it has one
pub record TableFits (source lent : Bytes) : Type 0 where
  pub fits : (t : Syntax pattern) → outcome source ≡ accepted t → length (encode t) ≤ length lent
