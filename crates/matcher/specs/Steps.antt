-- What settling the planes of an atom, and of all atoms, asks and promises. Private: a model for contracts inside the library.
use Rattle.std.specs.Prelude.{Option, ℕ, suc, ◌+◌, ◌*◌, ◌<◌, length}
use Rattle.std.specs.Option.{OnSome}
use Rattle.pattern.specs.Bytes.{Bytes}
use Rattle.pattern.specs.Syntax.{pattern, Syntax, last, then}
use Rattle.pattern.specs.Decision.{decide}
use Rattle.pattern.specs.Trials.{joins, repeats, atom_trials, trials}
use Rattle.pattern.specs.Decode.{tree_of}
use Rattle.planes.specs.Cells.{Plane, Kept, Others}
use Rattle.planes.specs.declared.budget.Budget.{Budget}
use Rattle.planes.specs.Budget.{Counted}
use Rattle.planes.specs.RepeatBody.{RepeatBodyPre}
use Rattle.atoms.specs.Atoms.{atoms, node, head, body_of}
use Rattle.matcher.specs.Settled.{StepPre, Settled}

-- the planes between 2 x and temp
abbrev pub Later : ℕ → ℕ → ℕ → ℕ → ℕ → Type 0
Later temp x q i j = (2 * x < q) × (q < temp)

-- no plane: only the bytes after them
abbrev pub NoPlane : ℕ → ℕ → ℕ → Type 0
NoPlane q i j = ⊥

-- s and s' are the lists before and after
pub record BeginPost (table label s s' : Bytes) (w temp x : ℕ) : Type 0 where
  pub repeatable : RepeatBodyPre s' w temp (2 * x)
  pub body : Plane s' w temp (decide label (body_of (head (node table x))))
  pub kept : Kept s s' w (temp + 4) (Later temp x)

pub record FillAtomPost (table label s s' : Bytes) (w temp x : ℕ) (budget : Budget) (r : Option Budget) : Type 0 where
  pub counted : Counted budget (repeats label (head (node table x))) r
  pub whole : OnSome r (Plane s' w (2 * x) (decide label (head (node table x))))
  pub kept : Kept s s' w (temp + 4) (Later temp x)

-- the trials of the join with the followers, if there are any
unfoldable pub follow_trials : Bytes → Syntax pattern → ℕ
follow_trials l (last a) = 0
follow_trials l (then a p) = joins (suc (length l)) (decide l a) (decide l p)

pub record JoinFollowersPre (table label s : Bytes) (w x : ℕ) : Type 0 where
  pub work : StepPre table label s w
  pub there : x < atoms table
  pub settled : Settled table label s w (suc x)
  pub here : Plane s w (2 * x) (decide label (head (node table x)))

pub record JoinFollowersPost (table label s s' : Bytes) (w x : ℕ) (budget : Budget) (r : Option Budget) : Type 0 where
  pub counted : Counted budget (follow_trials label (node table x)) r
  pub whole : OnSome r (Plane s' w (2 * x + 1) (decide label (node table x)))
  pub kept : Kept s s' w (2 * x + 2) (Others (2 * x + 1))

pub record SettlePost (table label s s' : Bytes) (w temp x : ℕ) (budget : Budget) (r : Option Budget) : Type 0 where
  pub counted : Counted budget (atom_trials label (node table x)) r
  pub whole : OnSome r (Settled table label s' w x)
  pub kept : Kept s s' w (temp + 4) NoPlane

pub record SettleAllPost (table label s s' : Bytes) (w temp : ℕ) (budget : Budget) (r : Option Budget) : Type 0 where
  pub counted : Counted budget (trials label (tree_of table)) r
  pub whole : OnSome r (Settled table label s' w 0)
  pub kept : Kept s s' w (temp + 4) NoPlane
