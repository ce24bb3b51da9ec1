-- What filling the plane of an atom's body asks and promises. Private: a model for contracts inside the library.
use Rattle.std.specs.Prelude.{◌≡◌, ℕ, suc, ◌+◌, ◌*◌, ◌<◌}
use Rattle.pattern.specs.Bytes.{Bytes}
use Rattle.pattern.specs.Decision.{decide}
use Rattle.planes.specs.Cells.{Plane, Kept, Others}
use Rattle.atoms.specs.Atoms.{atoms, node, head, body_of}
use Rattle.atoms.specs.Records.{GroupIn}
use Rattle.matcher.specs.Settled.{StepPre, Settled}

-- the planes of all atoms after x are settled, and temp is the first plane after those of the atoms
pub record FillBodyPre (table label s : Bytes) (w temp x : ℕ) : Type 0 where
  pub work : StepPre table label s w
  pub temp_is : temp ≡ 2 * atoms table
  pub there : x < atoms table
  pub settled : Settled table label s w (suc x)

-- besides, x is a group of this many branches
pub record UnionBranchesPre (table label s : Bytes) (w temp x branches : ℕ) : Type 0 where
  pub body : FillBodyPre table label s w temp x
  pub group : GroupIn table x branches

pub record FillBodyPost (table label s s' : Bytes) (w temp x : ℕ) : Type 0 where
  pub plane : Plane s' w temp (decide label (body_of (head (node table x))))
  pub kept : Kept s s' w (temp + 1) (Others temp)
