-- What is known where a chain of tests gave something. Assumes nothing.
use mathlib.Core.Path.{◌≡◌, refl, sym}
use mathlib.Core.Logic.{◌⊎◌, inl, inr}
use mathlib.Core.Bool.{Bool, true, false, ◌&&◌}
use mathlib.Core.Option.{Option, none, some, some-ne-none, some-injective}
use Rattle.std.specs.Prelude.{Some, None, cond}
use Rattle.std.proofs.lemmas.Option.{none-some}
use Rattle.table.specs.Checked.{bind, only_if, choose}

module _ {A : Type 0} where
  pub nothing : {X : Type 0} {a : A} → none ≡ some a → X
  nothing {a = a} e = absurd (some-ne-none a (sym e))

  pub inside : {a b : A} → some a ≡ some b → a ≡ b
  inside {a} {b} e = some-injective a b e

  pub after_some : {B : Type 0} (x : Option A) (k : A → Option B) {y : B} → bind x k ≡ some y → (a : A) × (x ≡ some a) × (k a ≡ some y)
  unfolding bind
  after_some (some a) k e = (a, refl, e)
  after_some none k e = absurd (some-ne-none _ (sym e))

  pub only_some : (c : Bool) (x : Option A) {y : A} → only_if c x ≡ some y → (c ≡ true) × (x ≡ some y)
  unfolding only_if
  only_some true x e = (refl, e)
  only_some false x e = nothing e

  pub choose_some : (c : Bool) (x y : Option A) {z : A} → choose c x y ≡ some z → ((c ≡ true) × (x ≡ some z)) ⊎ ((c ≡ false) × (y ≡ some z))
  unfolding choose
  choose_some true x y e = inl (refl, e)
  choose_some false x y e = inr (refl, e)

  -- a test that passed is left out
  pub kept : (c : Bool) (x : Option A) → c ≡ true → only_if c x ≡ x
  unfolding only_if
  kept c x e = rw e

  -- a test that failed leaves nothing
  pub dropped : (c : Bool) (x : Option A) → c ≡ false → only_if c x ≡ none
  unfolding only_if
  dropped c x e = rw e

  pub first : (c : Bool) (x y : Option A) → c ≡ true → choose c x y ≡ x
  unfolding choose
  first c x y e = rw e

  pub second : (c : Bool) (x y : Option A) → c ≡ false → choose c x y ≡ y
  unfolding choose
  second c x y e = rw e

  pub going_on : {B : Type 0} (x : Option A) (k : A → Option B) {a : A} → x ≡ some a → bind x k ≡ k a
  unfolding bind
  going_on x k e = rw e

  pub stopped : {B : Type 0} (x : Option A) (k : A → Option B) → x ≡ none → bind x k ≡ none
  unfolding bind
  stopped x k e = rw e

-- a test of the code that gave nothing has failed
pub cond_none : {A : Type 0} (b : Bool) (x : A) → None ≡ cond b (Some x) None → b ≡ false
cond_none true x e = absurd (none-some x e)
cond_none false x e = refl

pub and_true : (a b : Bool) → a && b ≡ true → (a ≡ true) × (b ≡ true)
and_true true b e = (refl, e)
and_true false b e = absurd (mathlib.Core.Bool.false≢true e)

pub true_and : (a b : Bool) → a ≡ true → b ≡ true → a && b ≡ true
true_and a b e f = rw (e, f)
