-- What the walk that writes asks and promises. Private: a model for contracts inside the library.
use Rattle.std.specs.Prelude.{◌≡◌, ℕ, ◌+◌, ◌-◌, ◌≤◌, ◌<◌, length}
use Rattle.pattern.specs.Bytes.{Bytes}
use Rattle.pattern.specs.Syntax.{size}
use Rattle.pattern.specs.Print.{print}
use Rattle.pattern.specs.Stores.{Puts}
use Rattle.atoms.specs.Atoms.{GoodTable, atoms, node, branches_from, head, AtomIn}
use Rattle.atoms.specs.Records.{RecordOf}
use Rattle.table.specs.declared.record.Record.{Record}
use Rattle.printer.specs.declared.walk.Progress.{Progress}

-- the table has this atom, and there is room from its place on for the pattern that begins there
pub record WritePatternPre (table out : Bytes) (from : Progress) : Type 0 where
  pub atom : AtomIn table from.atom
  pub room : from.at + length (print (node table from.atom)) ≤ length out

-- the same for the atom alone, by its record
pub record WriteAtomPre (table out : Bytes) (r : Record) (from : Progress) : Type 0 where
  pub atom : AtomIn table from.atom
  pub got : RecordOf table from.atom r
  pub room : from.at + length (print (head (node table from.atom))) ≤ length out

-- the same for k branches
pub record WriteGroupPre (table out : Bytes) (from : Progress) (k : ℕ) : Type 0 where
  pub good : GoodTable table
  pub some : 0 < k
  pub within : from.atom + size (branches_from table (k - 1) from.atom) ≤ atoms table
  pub room : from.at + length (print (branches_from table (k - 1) from.atom)) ≤ length out

-- v was written from n on, and the next atom is y
pub record WritePost (v : Bytes) (y : ℕ) (out : Bytes) (n : ℕ) (r : Progress) (out' : Bytes) : Type 0 where
  pub puts : Puts out n v out' r.at
  pub next : r.atom ≡ y
