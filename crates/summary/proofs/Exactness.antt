-- What an exact summary says, and that it is the only one. Assumes nothing.
use mathlib.Core.Path.{◌≡◌, refl, sym, subst, fun_ext, ◌∙◌}
use mathlib.Core.Logic.{⊎_elim}
use mathlib.Core.Bool.{Bool, true, false}
use mathlib.Core.List.{[], ◌∷◌}
use Prim.Native.Nat.{ℕ, ◌≤◌}
use native.Mathlib.Omega.{arith}
use lib.Dec.{T, eqb}
use lib.ListN.{length}
use Rattle.pattern.specs.Bytes.{Bytes}
use Rattle.pattern.proofs.Tests.{Decides, via, leb_decides, eqb_decides, le_or_lt}
use Rattle.std.proofs.lemmas.List.{nil_from_length}
use Rattle.summary.specs.Summary.{length_cap, Summary, IsShortest, IsLongest, AreFirst, Exact, possible}

-- ---- it is the only one

-- two summaries say the same
pub record Same (m n : Summary) : Type 0 where
  pub shortest : m.shortest ≡ n.shortest
  pub longest : m.longest ≡ n.longest
  pub first : (b : ℕ) → m.first b ≡ n.first b

pub same_equal : {m n : Summary} → Same m n → m ≡ n
same_equal {m} {n} s =
    let f : m.first ≡ n.first = fun_ext s.first in
    λ i. record { shortest = s.shortest i; longest = s.longest i; first = f i }

same_test : (a b : Bool) → (T a → T b) → (T b → T a) → a ≡ b
same_test true true f g = refl
same_test true false f g = absurd (f tt)
same_test false true f g = absurd (g tt)
same_test false false f g = refl

module _ {P : Bytes → Type 0} where
  shortest_le : {m n : ℕ} → IsShortest P m → IsShortest P n → m ≤ n
  shortest_le {m} {n} a b = ⊎_elim (λ l. omega (arith, a.capped)) (λ l. let (s, p, e) = b.met l in omega (arith, a.least s p)) (le_or_lt length_cap n)

  longest_le : {m n : ℕ} → IsLongest P m → IsLongest P n → m ≤ n
  longest_le {m} {n} a b = ⊎_elim (λ l. omega arith) (λ l. let (s, p, e) = a.met l in omega (arith, b.most s p, a.capped)) (le_or_lt m 0)

  first_same : {f g : ℕ → Bool} → AreFirst P f → AreFirst P g → (b : ℕ) → f b ≡ g b
  first_same {f} {g} x y b = same_test (f b) (g b) (λ t. let (s, p) = x.sound b t in y.complete b s p) (λ t. let (s, p) = y.sound b t in x.complete b s p)

  -- two exact summaries of one set say the same, so their bytes are the same
  pub exact_unique : {m n : Summary} → Exact P m → Exact P n → Same m n
  exact_unique x y = record {
    shortest = omega (arith, shortest_le x.shortest y.shortest, shortest_le y.shortest x.shortest);
    longest = omega (arith, longest_le x.longest y.longest, longest_le y.longest x.longest);
    first = first_same x.first y.first;
  }

  -- what says the same as an exact one is exact
  pub same_exact : {m n : Summary} → Exact P n → Same m n → Exact P m
  same_exact x s = subst (Exact P) (sym (same_equal s)) x

-- ---- what an exact summary says

module _ {P : Bytes → Type 0} {m : Summary} (x : Exact P m) where
  some_possible : (s : Bytes) → P s → m.shortest ≤ m.longest
  some_possible s p = omega (arith, x.shortest.least s p, x.shortest.capped, x.longest.most s p)

  possible_some : m.shortest ≤ m.longest → (s : Bytes) × P s
  possible_some h =
      ⊎_elim (λ l. let (s, p, e) = x.longest.met (omega arith) in (s, p)) (λ l. let (s, p, e) = x.shortest.met l in (s, p)) (le_or_lt length_cap m.shortest)

  -- it says whether there is a string
  pub possible_decides : Decides (possible m) ((s : Bytes) × P s)
  unfolding possible
  possible_decides = via (leb_decides m.shortest m.longest) (possible_some, λ (s, p). some_possible s p)

  -- where there is a string, there is one at least as long as the longest length
  pub long : (s : Bytes) → P s → (t : Bytes) × P t × (m.longest ≤ length t)
  long s p = ⊎_elim (λ l. (s, p, omega arith)) (λ l. x.longest.met l) (le_or_lt m.longest 0)

  -- the shortest length is 0 just where the empty string is one of them
  pub empty_decides : Decides (eqb m.shortest 0) (P [])
  empty_decides = via (eqb_decides m.shortest 0) (
    λ e. let (s, p, f) = x.shortest.met (omega arith) in rw (nil_from_length s (f ∙ e)) at p,
    λ p. omega (arith, x.shortest.least [] p),
  )

  pub first_decides : (b : ℕ) → Decides (m.first b) ((s : Bytes) × P (b ∷ s))
  first_decides b = record { sound = x.first.sound b; complete = λ (s, p). x.first.complete b s p }

-- a test that decides which bytes can be first
pub first_by : {P : Bytes → Type 0} (f : ℕ → Bool) → ((b : ℕ) → Decides (f b) ((s : Bytes) × P (b ∷ s))) → AreFirst P f
first_by f d = record { sound = λ b t. (d b).sound t; complete = λ b s p. (d b).complete (s, p) }
