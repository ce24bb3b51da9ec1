-- Tests that compute, and the facts that they decide. Assumes nothing.
use mathlib.Core.Path.{◌≡◌, refl, sym, subst}
use mathlib.Core.Logic.{◌↔◌, ◌⊎◌, inl, inr, ⊎_elim}
use mathlib.Core.Bool.{Bool, true, false, not, cond, ◌&&◌, ◌||◌}
use mathlib.Core.Option.{Option, none, some}
use Prim.Native.Nat.{ℕ, zero, suc, ◌<◌, ◌≤◌}
use native.Mathlib.Nat.{eq-or-lt_of_le}
use native.Mathlib.Decide.{dec_le}
use native.Mathlib.Omega.{arith}
use lib.Dec.{T, leb, ltb, leb→le, le→leb, eqb, eqb→eq, eqb_refl}
use borrow.Author.Tests.{lt-ltb}
use Rattle.pattern.specs.Decision.{any}

-- two facts of which neither holds
pub neither_holds : {X Y : Type 0} → ¬ X → ¬ Y → X ↔ Y
neither_holds f g = (λ x. absurd (f x), λ y. absurd (g y))

-- the test passes just when the fact holds
pub record Decides (x : Bool) (X : Type 0) : Type 0 where
  pub sound : T x → X
  pub complete : X → T x

pub via : {x : Bool} {X Y : Type 0} → Decides x X → X ↔ Y → Decides x Y
via a e = record { sound = λ h. e.0 (a.sound h); complete = λ h. a.complete (e.1 h) }

pub and_both : (a b : Bool) → T (a && b) → T a × T b
and_both true b t = (tt, t)
and_both false b t = absurd t

pub neither : (a b : Bool) → (a || b) ≡ false → (a ≡ false) × (b ≡ false)
neither false b e = (refl, e)
neither true b e = absurd (subst T e tt)

-- a test that passes, both ways
pub true-T : (b : Bool) → b ≡ true → T b
true-T b e = subst T (sym e) tt

pub passed : (b : Bool) → T b → b ≡ true
passed true t = refl
passed false t = absurd t

-- two tests that agree
unfoldable pub agree : Bool → Bool → Bool
agree true b = b
agree false b = not b

pub agreed : (a b : Bool) → T (agree a b) → a ≡ b
unfolding agree
agreed true true t = refl
agreed true false t = absurd t
agreed false true t = absurd t
agreed false false t = refl

pub both : {x y : Bool} {X Y : Type 0} → Decides x X → Decides y Y → Decides (x && y) (X × Y)
both {x = true} a b = record { sound = λ h. (a.sound tt, b.sound h); complete = λ h. b.complete h.1 }
both {x = false} a b = record { sound = λ h. absurd h; complete = λ h. a.complete h.0 }

pub either : {x y : Bool} {X Y : Type 0} → Decides x X → Decides y Y → Decides (x || y) (X ⊎ Y)
either {x = true} a b = record { sound = λ h. inl (a.sound tt); complete = λ h. tt }
either {x = false} a b = record { sound = λ h. inr (b.sound h); complete = ⊎_elim (λ h. absurd (a.complete h)) b.complete }

pub no_test : {X : Type 0} → ¬ X → Decides false X
no_test f = record { sound = λ h. absurd h; complete = f }

pub leb_decides : (m n : ℕ) → Decides (leb m n) (m ≤ n)
leb_decides m n = record { sound = leb→le m n; complete = le→leb m n }

pub eqb_decides : (m n : ℕ) → Decides (eqb m n) (m ≡ n)
eqb_decides m n = record { sound = eqb→eq m n; complete = λ e. rw e (eqb_refl n) }

-- what holds of x where the test passes, and of y where it fails, holds of the choice
pub cond_case : {A : Type 0} (b : Bool) (F : A → Type 0) {x y : A} → (T b → F x) → (T (not b) → F y) → F (cond b x y)
cond_case true F f g = f tt
cond_case false F f g = g tt

-- a choice whose test is known
pub if_true : {A : Type 0} (b : Bool) (x y : A) → b ≡ true → (elim b [ true ↦ x | false ↦ y ]) ≡ x
if_true b x y e = rw e

pub if_false : {A : Type 0} (b : Bool) (x y : A) → b ≡ false → (elim b [ true ↦ x | false ↦ y ]) ≡ y
if_false b x y e = rw e

-- what holds of the value, if there is one
abbrev pub On : {A : Type 0} → Option A → (A → Type 0) → Type 0
On none P = Unit {0}
On (some a) P = P a

pub on_map : {A : Type 0} {P Q : A → Type 0} (o : Option A) → ((a : A) → P a → Q a) → On o P → On o Q
on_map none f h = tt
on_map (some a) f h = f a h

pub le_or_lt : (a b : ℕ) → (a ≤ b) ⊎ (b < a)
le_or_lt a b = elim (dec_le a b) [ yes h ↦ inl h | no h ↦ inr (omega arith) ]

pub not_less : (a b : ℕ) → ¬ T (ltb a b) → b ≤ a
not_less a b h = ⊎_elim (λ k. k) (λ k. absurd (h (subst T (sym (lt-ltb a b k)) tt))) (le_or_lt b a)

-- a number below c + 1 is c or below c
pub below_suc : {d c : ℕ} → d < suc c → (d ≡ c) ⊎ (d < c)
below_suc h = eq-or-lt_of_le (omega arith)

-- every number below c passes
unfoldable pub all : ℕ → (ℕ → Bool) → Bool
all zero p = true
all (suc c) p = p c && all c p

-- a test that computes over all of them holds of each
pub all_at : (n : ℕ) (p : ℕ → Bool) → T (all n p) → (k : ℕ) → k < n → T (p k)
unfolding all
all_at zero p t k h = absurd (omega arith)
all_at (suc n) p t k h = let (a, b) = and_both (p n) (all n p) t in ⊎_elim (λ e. rw e a) (λ l. all_at n p b k l) (below_suc h)

-- some number below c passes just when the fact holds of one
pub any_decides : (c : ℕ) {p : ℕ → Bool} {X : ℕ → Type 0} → ((d : ℕ) → d < c → Decides (p d) (X d)) → Decides (any c p) ((d : ℕ) × (d < c) × X d)
unfolding any
any_decides zero f = no_test (λ h. omega arith)
any_decides (suc c) f =
    via (either (f c (omega arith)) (any_decides c (λ d h. f d (omega arith)))) (
      ⊎_elim (λ x. (c, omega arith, x)) (λ (d, h, x). (d, omega arith, x)),
      λ (d, h, x). ⊎_elim (λ e. inl (rw e at x)) (λ k. inr (d, k, x)) (below_suc h),
    )
