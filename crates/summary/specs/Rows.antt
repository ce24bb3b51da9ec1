-- The rows, one for each atom with its followers. Private: a model for contracts inside the library.
use Rattle.std.specs.Prelude.{◌≡◌, List, [], ℕ, suc, ◌≤◌, ◌<◌, length, get_or}
use Rattle.pattern.specs.Bytes.{Bytes}
use Rattle.atoms.specs.Atoms.{GoodTable, atoms, node}
use Rattle.summary.specs.Summary.{summary_of, summary_size}
use Rattle.summary.specs.Packing.{packed_of}
use Rattle.summary.specs.declared.packed.Packed.{Packed}

-- row x
abbrev pub row : List Packed → ℕ → Packed
row s x = get_or s x (record { shortest = 0; longest = 0; first = [] })

-- there is a row for each atom
pub record Room (table : Bytes) (s : List Packed) : Type 0 where
  pub good : GoodTable table
  pub room : atoms table ≤ length s

-- the rows from x on are settled
pub record Settled (table : Bytes) (s : List Packed) (x : ℕ) : Type 0 where
  pub rows : (y : ℕ) → x ≤ y → y < atoms table → row s y ≡ packed_of (summary_of (node table y))

-- row x can be settled: those after it are
pub record Settling (table : Bytes) (s : List Packed) (x : ℕ) : Type 0 where
  pub room : Room table s
  pub there : x < atoms table
  pub after : Settled table s (suc x)

-- m is what row x has, if there is an atom x
pub record Next (table : Bytes) (x : ℕ) (m : Packed) : Type 0 where
  pub is : x < atoms table → m ≡ packed_of (summary_of (node table x))

-- what a summary is worked out of, and where it goes
pub record SummaryPre (table : Bytes) (n : ℕ) (rows : List Packed) (out : Bytes) : Type 0 where
  pub good : GoodTable table
  pub count : n ≡ atoms table
  pub room : n ≤ length rows
  pub outs : summary_size ≤ length out
