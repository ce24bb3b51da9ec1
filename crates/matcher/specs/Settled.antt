-- What every step of a match asks, and the planes that hold their relations. Private: a model for contracts inside the library.
use Rattle.std.specs.Prelude.{◌≡◌, ℕ, ◌+◌, ◌*◌, ◌≤◌, ◌<◌, length}
use Rattle.pattern.specs.Numbers.{label_limit}
use Rattle.pattern.specs.Bytes.{Bytes}
use Rattle.pattern.specs.Decision.{decide}
use Rattle.atoms.specs.Atoms.{GoodTable, atoms, node, head}
use Rattle.planes.specs.Cells.{Plane}

-- what every step of a match asks: a good table, a label that fits, and room for two planes an atom and four more
pub record StepPre (table label s : Bytes) (w : ℕ) : Type 0 where
  pub good : GoodTable table
  pub short : length label ≤ label_limit
  pub wide : w ≡ length label + 1
  pub room : (2 * atoms table + 4) * w * w ≤ length s

-- the planes of the atoms from x on are settled: plane 2 y for atom y, and plane 2 y + 1 for it with its followers
pub record Settled (table label s : Bytes) (w x : ℕ) : Type 0 where
  pub own : (y : ℕ) → x ≤ y → y < atoms table → Plane s w (2 * y) (decide label (head (node table y)))
  pub rest : (y : ℕ) → x ≤ y → y < atoms table → Plane s w (2 * y + 1) (decide label (node table y))
