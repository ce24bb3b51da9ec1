-- A plane of stretches of one length, each as a test says of its begin: what filling it asks and promises. Private: a model for contracts inside the library.
use Rattle.std.specs.Prelude.{◌≡◌, Bool, false, List, ℕ, ◌+◌, ◌≤◌, ◌<◌}
use Rattle.planes.specs.Cells.{InRoom, Tells, Kept, Others}

-- pre says where the test may be asked
pub record FillStretchesPre (s : List ℕ) (w out n : ℕ) (pre : ℕ → Type 0) : Type 0 where
  pub wide : 1 ≤ w
  pub into : InRoom s w out
  pub asked : (i : ℕ) → i + n < w → pre i

-- what is said of the stretch i to j: an answer that post allows at i, if it is of length n
pub record Said (n : ℕ) (post : ℕ → Bool → Type 0) (i j : ℕ) (b : Bool) : Type 0 where
  pub tested : i + n ≡ j → post i b
  pub off : (i + n ≡ j → ⊥) → b ≡ false

-- s and s' are the lists before and after
pub record FillStretchesPost (s s' : List ℕ) (w out n : ℕ) (post : ℕ → Bool → Type 0) : Type 0 where
  pub plane : (i j : ℕ) → i ≤ j → j < w → (b : Bool) × Said n post i j b × Tells s' w out i j b
  pub kept : Kept s s' w (out + 1) (Others out)
