-- Planes emptied and added to one another: what is asked and promised. Private: a model for contracts inside the library.
use Rattle.std.specs.Prelude.{false, ◌||◌, List, ℕ, ◌+◌, ◌≤◌}
use Rattle.planes.specs.Cells.{Readable, Plane, Kept, Others, on}

-- s and s' are the lists before and after
pub record BlankPost (s s' : List ℕ) (w out : ℕ) : Type 0 where
  pub plane : Plane s' w out (λ i j. false)
  pub kept : Kept s s' w (out + 1) (Others out)

pub record AddPre (s : List ℕ) (w from out : ℕ) : Type 0 where
  pub wide : 1 ≤ w
  pub added : Readable s w from
  pub into : Readable s w out

pub record AddPost (s s' : List ℕ) (w from out : ℕ) : Type 0 where
  pub plane : Plane s' w out (λ i j. on s w from i j || on s w out i j)
  pub kept : Kept s s' w (out + 1) (Others out)
