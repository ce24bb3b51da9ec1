-- Powers of a body: what the loop over the number of bodies asks and promises. Private: a model for contracts inside the library.
use Rattle.std.specs.Prelude.{◌≡◌, false, ◌&&◌, ◌||◌, List, Option, ℕ, suc, ◌+◌, ◌*◌, ◌≤◌, ◌<◌, eqb, leb, length}
use Rattle.std.specs.Option.{OnSome}
use Rattle.pattern.specs.Decision.{Rel, any, power}
use Rattle.pattern.specs.Trials.{sum, joins}
use Rattle.planes.specs.Cells.{Plane, Kept, Others, on}
use Rattle.planes.specs.declared.budget.Budget.{Budget}
use Rattle.planes.specs.Budget.{Counted}

-- s and s' are the lists before and after
pub record AddFromPost (s s' : List ℕ) (w from out low k : ℕ) : Type 0 where
  pub plane : Plane s' w out (λ i j. leb low k && on s w from i j || on s w out i j)
  pub kept : Kept s s' w (out + 1) (Others out)

-- the stretches that are cut into low to o - 1 bodies
abbrev pub fewer : Rel → ℕ → ℕ → Rel
fewer B low o i j = any o (λ k. leb low k && power B k i j)

-- the trials of the join for k + 1 bodies
abbrev pub body_trials : ℕ → Rel → ℕ → ℕ
body_trials w B k = joins w B (power B k)

-- plane temp has the body, temp + 1 the empty stretches, and out nothing yet
pub record RepeatBodyPre (s : List ℕ) (w temp out : ℕ) : Type 0 where
  pub wide : 1 ≤ w
  pub room : (temp + 4) * w * w ≤ length s
  pub below : out < temp
  pub body : Plane s w temp (on s w temp)
  pub empty : Plane s w (temp + 1) (λ i j. eqb i j)
  pub nothing : Plane s w out (λ i j. false)

-- the planes that the loop leaves alone
abbrev pub Elsewhere : ℕ → ℕ → ℕ → ℕ → ℕ → Type 0
Elsewhere temp out q i j = (q ≡ out → ⊥) × (q ≡ temp + 1 → ⊥) × (q ≡ temp + 2 → ⊥)

pub record RepeatBodyPost (s s' : List ℕ) (w temp out low times : ℕ) (budget : Budget) (r : Option Budget) : Type 0 where
  pub counted : Counted budget (sum times (body_trials w (on s w temp))) r
  pub whole : OnSome r (Plane s' w out (fewer (on s w temp) low (suc times)))
  pub kept : Kept s s' w (temp + 4) (Elsewhere temp out)
