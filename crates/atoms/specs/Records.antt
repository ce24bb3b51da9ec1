-- What the record of an atom says of it, in a good table. Private: a model for contracts inside the library.
use Rattle.std.specs.Prelude.{◌≡◌, None, ℕ, suc, ◌+◌, ◌-◌, ◌≤◌, ◌<◌, length}
use Rattle.std.proofs.Math.Seq.{slice}
use Rattle.pattern.specs.Numbers.{codes_kind, literal_kind, group_kind}
use Rattle.pattern.specs.Kinds.{kind_of}
use Rattle.pattern.specs.Bytes.{Bytes}
use Rattle.pattern.specs.Syntax.{last, then, repeat, codes, literal, group, size}
use Rattle.pattern.specs.Within.{Fits}
use Rattle.pattern.specs.Decode.{layout, record_at, high_of}
use Rattle.table.specs.declared.record.Record.{Record}
use Rattle.table.specs.Fields.{record_of}
use Rattle.atoms.specs.Atoms.{atoms, node, branches_from, head, body_of, AtomIn}

-- atom x is a literal
pub record LiteralIn (table : Bytes) (x : ℕ) : Type 0 where
  pub atom : AtomIn table x
  pub value : Bytes
  pub is : body_of (head (node table x)) ≡ literal value

-- its value lies there
pub record LiteralAt (table : Bytes) (x from len : ℕ) : Type 0 where
  pub is : body_of (head (node table x)) ≡ literal (slice from (from + len) table)
  pub within : from + len ≤ length table

-- atom x is a group of this many branches
pub record GroupIn (table : Bytes) (x count : ℕ) : Type 0 where
  pub some : 0 < count
  pub is : body_of (head (node table x)) ≡ group (branches_from table (count - 1) (x + 1))
  pub sized : size (head (node table x)) ≡ suc (size (branches_from table (count - 1) (x + 1)))
  pub within : x + 1 + size (branches_from table (count - 1) (x + 1)) ≤ atoms table

-- atom x is followed by another one in its branch
pub record FollowedIn (table : Bytes) (x : ℕ) : Type 0 where
  pub is : node table x ≡ then (head (node table x)) (node table (x + size (head (node table x))))
  pub there : x + size (head (node table x)) < atoms table

-- r is the record of atom x, and what that says of the atom
pub record RecordOf (table : Bytes) (x : ℕ) (r : Record) : Type 0 where
  pub fields : r ≡ record_of (record_at table (layout table) x)
  pub count : head (node table x) ≡ repeat r.low (high_of r.high) (body_of (head (node table x)))
  pub fits : Fits r.low (high_of r.high)
  pub known : kind_of r.kind ≡ None → ⊥
  pub is_codes : r.kind ≡ codes_kind → body_of (head (node table x)) ≡ codes r.a
  pub is_literal : r.kind ≡ literal_kind → LiteralIn table x
  pub is_group : (r.kind ≡ codes_kind → ⊥) → (r.kind ≡ literal_kind → ⊥) → GroupIn table x r.a
  pub next_group : r.kind ≡ group_kind → r.b ≡ x + size (head (node table x))
  pub next_leaf : (r.kind ≡ group_kind → ⊥) → size (head (node table x)) ≡ 1
  pub is_last : r.ends ≡ 1 → node table x ≡ last (head (node table x))
  pub is_followed : (r.ends ≡ 1 → ⊥) → FollowedIn table x
