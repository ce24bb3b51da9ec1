-- The tree of a good table. To be believed.
use Rattle.std.specs.Prelude.{◌≡◌, Bool, true, false, ◌&&◌, ℕ, zero, suc, ◌+◌, ◌*◌, ◌≤◌, pred, leb, eqb, length, get_or, take, drop}
use Rattle.std.proofs.Math.Option.{Option, none, some}
use Rattle.pattern.specs.Numbers.{codes_kind, literal_kind, version_place, atoms_place, record_size, open_high}
use Rattle.pattern.specs.Versions.{Version, v1, v2, format, header_size}
use Rattle.pattern.specs.Bytes.{Bytes, equal, number_in}
use Rattle.pattern.specs.Syntax.{pattern, atom, body, branches, Syntax, last, then, repeat, codes, literal, group, only, or, size}
use Rattle.pattern.specs.Grammar.{Derives}
use Rattle.pattern.specs.Scan.{Outcome, refused, accepted, outcome}
use Rattle.pattern.specs.Within.{InLimits}
use Rattle.pattern.specs.Print.{print}
use Rattle.pattern.specs.Table.{Rec, encode_in}

-- the 16 bits at a place
abbrev pub field : Bytes → ℕ → ℕ
field s at = get_or s at 0 + 256 * get_or s (at + 1) 0

-- the record at a place
abbrev pub rec_at : Bytes → ℕ → Rec
rec_at s at =
    record { kind = get_or s at 0; ends = get_or s (at + 1) 0; low = field s (at + 2); high = field s (at + 4); a = field s (at + 6); b = field s (at + 8) }

-- the version that bytes name; those that name neither are no table of either
unfoldable pub version_of : Bytes → Version
version_of s = elim (eqb (field s version_place) 1) [ true ↦ v1 | false ↦ v2 ]

-- the atom count in the header of a version
abbrev pub count_in : Version → Bytes → ℕ
count_in v s = number_in (take (format v).width (drop atoms_place s))

-- how a table is laid out: where its records begin, and where its pool
pub record Layout : Type 0 where
  pub records : ℕ
  pub pool : ℕ

abbrev pub layout : Bytes → Layout
layout s = let v : Version = version_of s in record { records = header_size v; pool = header_size v + record_size * count_in v s }

-- the high number that a record's field stands for
unfoldable pub high_of : ℕ → Option ℕ
high_of h = elim (eqb h open_high) [ true ↦ none | false ↦ some h ]

-- a tree for bytes that hold none
abbrev pub dummy : Syntax atom
dummy = repeat 0 none (codes 0)

module _ (s : Bytes) (l : Layout) where
  -- the record of atom i
  abbrev pub record_at : ℕ → Rec
  record_at i = rec_at s (l.records + record_size * i)

  -- what the records from i on are read as, whatever they are; the first number bounds the depth of calls
  unfoldable mutual
    pub pattern_at : (f i : ℕ) → Syntax pattern
    pattern_at zero i = last dummy
    pattern_at (suc f) i = let a : Syntax atom = atom_at f i in elim (eqb (record_at i).ends 1) [ true ↦ last a | false ↦ then a (pattern_at f (i + size a)) ]

    pub atom_at : (f i : ℕ) → Syntax atom
    atom_at zero i = dummy
    atom_at (suc f) i = repeat (record_at i).low (high_of (record_at i).high) (body_at f (record_at i) i)

    pub body_at : ℕ → Rec → ℕ → Syntax body
    body_at zero r i = codes 0
    body_at (suc f) r i = elim (eqb r.kind codes_kind) [
      | true ↦ codes r.a
      | false ↦ elim (eqb r.kind literal_kind) [ true ↦ literal (take r.b (drop (l.pool + r.a) s)) | false ↦ group (branches_at f r.a (suc i)) ]
    ]

    pub branches_at : (f k i : ℕ) → Syntax branches
    branches_at zero k i = only (last dummy)
    branches_at (suc f) k i = let p : Syntax pattern = pattern_at f i in elim (eqb k 1) [ true ↦ only p | false ↦ or p (branches_at f (pred k) (i + size p)) ]

-- the tree that bytes are read as
unfoldable pub tree_of : Bytes → Syntax pattern
tree_of s = pattern_at s (layout s) (length s) 0

-- the shortest source of a tree keeps the limits of a version, and its table there is these very bytes
unfoldable pub is_table_in : Version → Syntax pattern → Bytes → Bool
is_table_in v t s = leb (length (print t)) (format v).source && (leb (size t) (format v).atoms && equal (encode_in v t) s)

-- the tree of an accepted source, if these bytes are its table
unfoldable pub compiled_to : Version → Bytes → Outcome → Option (Syntax pattern)
compiled_to v s (refused f p) = none
compiled_to v s (accepted t) = elim (is_table_in v t s) [ true ↦ some t | false ↦ none ]

-- "A table is good exactly when some accepted source compiles to it", in the version that it names: the shortest source of its tree does
unfoldable pub decode : Bytes → Option (Syntax pattern)
decode s = compiled_to (version_of s) s (outcome (print (tree_of s)))

-- ---- what the theorems say

-- by the limits of a version this source is a pattern with this tree, and this is its table
pub record Compiles (v : Version) (source : Bytes) (t : Syntax pattern) (table : Bytes) : Type 0 where
  pub derives : Derives t source
  pub within : InLimits 0 t
  pub short : length source ≤ (format v).source
  pub few : size t ≤ (format v).atoms
  pub whole : encode_in v t ≡ table
