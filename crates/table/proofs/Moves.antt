-- How far the walk has come, from step to step. Assumes nothing.
use Rattle.std.specs.Prelude.{Some, None}
use Prim.Native.Nat.{ℕ, ◌+◌, ◌*◌, ◌<◌, ◌≤◌}
use native.Mathlib.Omega.{arith}
use lib.ListN.{length}
use Rattle.pattern.specs.Numbers.{depth_limit, record_size}
use Rattle.pattern.specs.Bytes.{Bytes}
use Rattle.table.specs.Fields.{RecordIn}
use Rattle.table.specs.Leaves.{LeafPre}
use Rattle.table.specs.Walk.{Passed, place, WalkPre, WalkMoved, Past}
use Rattle.table.specs.declared.walk.Place.{Place}

-- one more byte of the source
abbrev pub byte_on : Place → Place
byte_on x = place x.atom x.pool (x.source + 1)

-- after a leaf with v bytes of the pool and w of the source, its count with c
abbrev pub leaf_on : Place → (c v w : ℕ) → Place
leaf_on x c v w = place (x.atom + 1) (x.pool + v) (x.source + c + w)

-- after the opening bracket of a group, its count with c bytes
abbrev pub bracket_on : Place → (c : ℕ) → Place
bracket_on x c = place (x.atom + 1) x.pool (x.source + c + 1)

module _ {s : Bytes} {A : ℕ} {at : Place} where
  module _ {d : ℕ} (r : WalkPre s A at d) where
    pub ready_leaf : LeafPre s A at.pool
    ready_leaf = record { pool = r.pool; small = r.small; few = r.few }

    pub ready_on : {next : Place} → WalkMoved s A at next → WalkPre s A next d
    ready_on m =
        record { few = r.few; small = r.small; atom = m.atom; pool = m.pool; source = omega (arith, m.source, r.source); shallow = r.shallow }

    pub ready_again : {next : Place} → WalkMoved s A at next → WalkPre s A (byte_on next) d
    ready_again m =
        record { few = r.few; small = r.small; atom = m.atom; pool = m.pool; source = omega (arith, m.source, r.source); shallow = r.shallow }

    pub ready_inside : (c : ℕ) → c ≤ 11 → at.atom < A → d < depth_limit → WalkPre s A (bracket_on at c) (d + 1)
    ready_inside c e f g =
        record { few = r.few; small = r.small; atom = omega arith; pool = r.pool; source = omega (arith, r.source); shallow = omega arith }

    -- the source stays short
    pub short_source : at.source ≤ 142000
    short_source = omega (arith, r.source, r.atom, r.pool, r.few, r.small)

    -- a record is within the bytes
    pub record_in : at.atom < A → RecordIn s 0 at.atom
    record_in h = record { within = omega (arith, r.pool) }

  pub moved_then : {next dest : Place} → WalkMoved s A at next → WalkMoved s A next dest → WalkMoved s A at dest
  moved_then m n =
      record { on = omega (arith, m.on, n.on); atom = n.atom; pool = n.pool; source = omega (arith, m.source, n.source) }

  moved_again : {next dest : Place} → WalkMoved s A at next → WalkMoved s A (byte_on next) dest → WalkMoved s A at dest
  moved_again m n =
      record { on = omega (arith, m.on, n.on); atom = n.atom; pool = n.pool; source = omega (arith, m.source, n.source) }

  pub moved_group : (c : ℕ) {dest : Place} → c ≤ 11 → WalkMoved s A (bracket_on at c) dest → WalkMoved s A at (byte_on dest)
  moved_group c e n = record { on = omega (arith, n.on); atom = n.atom; pool = n.pool; source = omega (arith, n.source) }

  pub moved_leaf : (c v w : ℕ) → c ≤ 11 → at.atom < A → record_size * A + at.pool + v ≤ length s → w ≤ 2 * v + 7 → WalkMoved s A at (leaf_on at c v w)
  moved_leaf c v w e f g k = record { on = omega arith; atom = omega arith; pool = omega (arith, g); source = omega arith }

  pub past_again : {next : Place} (x : Passed) → WalkMoved s A at next → Past s A (byte_on next) x → Past s A at x
  past_again (Some dest) h n = moved_again h n
  past_again None h n = tt
