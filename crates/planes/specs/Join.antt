-- What a join of two planes asks and promises. Private: a model for contracts inside the library.
use Rattle.std.specs.Prelude.{◌≡◌, List, Option, ℕ, ◌+◌, ◌≤◌}
use Rattle.std.specs.Option.{OnSome}
use Rattle.pattern.specs.Decision.{join}
use Rattle.pattern.specs.Trials.{joins}
use Rattle.planes.specs.Cells.{InRoom, Readable, Plane, Kept, Others, on}
use Rattle.planes.specs.declared.budget.Budget.{Budget}
use Rattle.planes.specs.Budget.{Counted}

-- what a join asks: two planes to read, and a third one to write
pub record JoinPre (s : List ℕ) (w left right out : ℕ) : Type 0 where
  pub wide : 1 ≤ w
  pub from_left : Readable s w left
  pub from_right : Readable s w right
  pub into : InRoom s w out
  pub not_left : left ≡ out → ⊥
  pub not_right : right ≡ out → ⊥

-- s and s' are the lists before and after
pub record JoinPost (s s' : List ℕ) (w left right out : ℕ) (budget : Budget) (r : Option Budget) : Type 0 where
  pub counted : Counted budget (joins w (on s w left) (on s w right)) r
  pub whole : OnSome r (Plane s' w out (join (on s w left) (on s w right)))
  pub kept : Kept s s' w (out + 1) (Others out)
