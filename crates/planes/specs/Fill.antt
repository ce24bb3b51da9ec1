-- Planes that need no trial: their relations, and what filling them asks and promises. Private: a model for contracts inside the library.
use Rattle.std.specs.Prelude.{◌≡◌, List, ℕ, ◌+◌, ◌≤◌, eqb, length}
use Rattle.std.proofs.Math.Seq.{slice}
use Rattle.pattern.specs.Bytes.{equal}
use Rattle.pattern.specs.Decision.{Rel, single}
use Rattle.planes.specs.declared.fill.Content.{Content}
use Rattle.planes.specs.declared.fill.Content.TheVariants.{Empty, Codes, Literal}
use Rattle.planes.specs.Cells.{InRoom, Plane, Kept, Others}

-- the relation that it stands for
unfoldable pub held_in : (table label : List ℕ) → Content → Rel
held_in table label Empty i j = eqb i j
held_in table label (Codes set) i j = single set (slice i j label)
held_in table label (Literal from len) i j = equal (slice i j label) (slice from (from + len) table)

-- it has stretches of this length alone
abbrev pub span : Content → ℕ
span Empty = 0
span (Codes set) = 1
span (Literal from len) = len

-- a literal lies in the table
unfoldable pub Fit : (table : List ℕ) → Content → Type 0
Fit table Empty = Unit {0}
Fit table (Codes set) = Unit {0}
Fit table (Literal from len) = from + len ≤ length table

pub record FillPre (table label s : List ℕ) (w : ℕ) (content : Content) (out : ℕ) : Type 0 where
  pub wide : w ≡ length label + 1
  pub fit : Fit table content
  pub into : InRoom s w out

-- s and s' are the lists before and after
pub record FillPost (table label s s' : List ℕ) (w : ℕ) (content : Content) (out : ℕ) : Type 0 where
  pub plane : Plane s' w out (held_in table label content)
  pub kept : Kept s s' w (out + 1) (Others out)
