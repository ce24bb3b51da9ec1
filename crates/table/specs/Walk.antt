-- What the walk over a table's records promises. Private: a model for contracts inside the library.
use Rattle.std.specs.Prelude.{Some, None, ◌≡◌, ℕ, ◌+◌, ◌*◌, ◌-◌, ◌≤◌, ◌<◌, length}
use Rattle.std.specs.declared.option.Option as code
use Rattle.std.proofs.Math.Option.{Option, none, some}
use Rattle.pattern.specs.Numbers.{atom_limit, depth_limit, record_size}
use Rattle.pattern.specs.Bytes.{Bytes}
use Rattle.pattern.specs.Syntax.{Sort, pattern, Syntax, size, top_size}
use Rattle.pattern.specs.Table.{pool}
use Rattle.pattern.specs.Print.{print}
use Rattle.table.specs.Headers.{length_bound}
use Rattle.table.specs.Checked.{read_pattern, read_atom, read_branches}
use Rattle.table.specs.declared.walk.Place.{Place}

-- the place after an atom or a group, and after a pattern with how many atoms it has of its own, if they are good
abbrev pub Passed : Type 0
Passed = code.Option Place

abbrev pub Walked : Type 0
Walked = code.Option (Place × ℕ)

abbrev pub place : (i p n : ℕ) → Place
place i p n = record { atom = i; pool = p; source = n }

-- the place after a tree
abbrev pub beyond : {o : Sort} → Place → Syntax o → Place
beyond at t = place (at.atom + size t) (at.pool + length (pool t)) (at.source + length (print t))

unfoldable pub passed_by : {o : Sort} → Place → Option (Syntax o) → Passed
passed_by at (some t) = Some (beyond at t)
passed_by at none = None

unfoldable pub walked_by : Place → Option (Syntax pattern) → Walked
walked_by at (some t) = Some (beyond at t, top_size t)
walked_by at none = None

-- where a walk may begin
pub record WalkPre (s : Bytes) (A : ℕ) (at : Place) (depth : ℕ) : Type 0 where
  pub few : A ≤ atom_limit
  pub small : length s < length_bound
  pub atom : at.atom ≤ A
  pub pool : record_size * A + at.pool ≤ length s
  pub source : at.source ≤ 20 * at.atom + 2 * at.pool
  pub shallow : depth ≤ depth_limit

-- how far it has come
pub record WalkMoved (s : Bytes) (A : ℕ) (at to : Place) : Type 0 where
  pub on : at.atom < to.atom
  pub atom : to.atom ≤ A
  pub pool : record_size * A + to.pool ≤ length s
  pub source : to.source + 1 + 20 * at.atom + 2 * at.pool ≤ at.source + 20 * to.atom + 2 * to.pool

abbrev pub Past : Bytes → ℕ → Place → Passed → Type 0
Past s A at (Some next) = WalkMoved s A at next
Past s A at None = Unit {0}

abbrev pub PastW : Bytes → ℕ → Place → Walked → Type 0
PastW s A at (Some (next, k)) = WalkMoved s A at next × (at.atom + k ≤ next.atom)
PastW s A at None = Unit {0}

-- how deep the calls go at most
abbrev pub reach : ℕ → Place → ℕ
reach A at = 3 * (A - at.atom)

pub record AtomPost (s : Bytes) (A : ℕ) (at : Place) (d : ℕ) (r : Passed) : Type 0 where
  pub past : Past s A at r
  pub reads : (f : ℕ) → reach A at < f → r ≡ passed_by at (read_atom s A f at.atom at.pool d)

pub record PatternPost (s : Bytes) (A : ℕ) (at : Place) (d : ℕ) (r : Walked) : Type 0 where
  pub past : PastW s A at r
  pub reads : (f : ℕ) → reach A at + 1 < f → r ≡ walked_by at (read_pattern s A f at.atom at.pool d)

pub record GroupPost (s : Bytes) (A : ℕ) (at : Place) (d k : ℕ) (r : Passed) : Type 0 where
  pub past : Past s A at r
  pub reads : (f : ℕ) → reach A at + 2 < f → r ≡ passed_by at (read_branches s A f k at.atom at.pool d)
