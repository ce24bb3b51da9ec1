-- The summary of a tree is exact. Assumes nothing.
use mathlib.Core.Path.{◌≡◌, refl, ap}
use mathlib.Core.Logic.{◌↔◌, ◌⊎◌, inl, inr, ⊎_elim}
use mathlib.Core.Bool.{Bool, true, false, cond, ◌&&◌, ◌||◌}
use mathlib.Core.List.{[], ◌∷◌, ◌++◌}
use mathlib.Core.Option.{Option, none, some}
use Prim.Native.Nat.{ℕ, zero, suc, ◌+◌, ◌*◌, ◌-◌, ◌≤◌, ◌<◌, min, max}
use native.Mathlib.Nat.{mul-le-mul_left, mul-le-mul_right, suc-mul, mul-zero}
use native.Mathlib.Omega.{arith}
use lib.Dec.{T, eqb}
use lib.ListN.{length, length-append}
use Rattle.pattern.specs.Bytes.{Bytes}
use Rattle.pattern.specs.Codes.{in_set}
use Rattle.pattern.specs.Syntax.{Sort, Syntax, last, then, repeat, codes, literal, group, only, or}
use Rattle.pattern.specs.Meaning.{Cut, Power, UpTo, Satisfies}
use Rattle.pattern.specs.Decision.{any}
use Rattle.pattern.specs.Within.{Ordered}
use Rattle.pattern.proofs.Tests.{Decides, via, both, either, leb_decides, eqb_decides, any_decides, le_or_lt}
use Rattle.summary.specs.Summary.{length_cap, byte_count, Summary, IsShortest, IsLongest, Exact, possible, of_class, of_literal, of_both, of_either, often, once, of_repeat, summary_of, summary_bytes}
use Rattle.summary.proofs.Exactness.{Same, same_equal, exact_unique, same_exact, possible_decides, long, empty_decides, first_decides, first_by}
use Rattle.summary.proofs.ClassBytes.{set_small}

-- ---- one byte of a class

module _ (f : ℕ → Bool) (small : (b : ℕ) → T (f b) → b < byte_count) where
  OneOf : Bytes → Type 0
  OneOf s = (b : ℕ) × (s ≡ b ∷ []) × T (f b)

  class_full : (full : Bool) → Decides full ((b : ℕ) × T (f b)) → Exact OneOf (record { shortest = cond full 1 length_cap; longest = cond full 1 0; first = f })
  unfolding OneOf
  class_full true d =
      let (c, t) = d.sound tt in
      record {
        shortest = record { capped = omega arith; least = λ s (b, e, u). omega (arith, ap length e); met = λ h. (c ∷ [], (c, refl, t), refl) };
        longest = record { capped = omega arith; most = λ s (b, e, u). omega (arith, ap length e); met = λ h. (c ∷ [], (c, refl, t), omega arith) };
        first = record { sound = λ b u. ([], (b, refl, u)); complete = λ b s (a, e, u). let g : b ≡ a = cc in rw g u };
      }
  class_full false d = record {
    shortest = record { capped = omega arith; least = λ s (b, e, u). absurd (d.complete (b, u)); met = λ h. absurd (omega arith) };
    longest = record { capped = omega arith; most = λ s (b, e, u). absurd (d.complete (b, u)); met = λ h. absurd (omega arith) };
    first = record { sound = λ b u. absurd (d.complete (b, u)); complete = λ b s (a, e, u). absurd (d.complete (a, u)) };
  }

  class_exact : Exact OneOf (of_class f)
  unfolding of_class
  class_exact =
      class_full (any byte_count f)
      (via (any_decides byte_count (λ b h. record { sound = λ t. t; complete = λ t. t })) (λ (b, h, t). (b, t), λ (b, t). (b, small b t, t)))

-- ---- a literal

literal_exact : (v : Bytes) → Exact (λ s. s ≡ v) (of_literal v)
unfolding of_literal
literal_exact [] = record {
  shortest = record { capped = omega arith; least = λ s e. omega arith; met = λ h. ([], refl, refl) };
  longest = record { capped = omega arith; most = λ s e. omega (arith, ap length e); met = λ h. absurd (omega arith) };
  first = record { sound = λ b t. absurd t; complete = λ b s e. omega (arith, ap length e) };
}
literal_exact (a ∷ v) = record {
  shortest = record { capped = omega arith; least = λ s e. omega (arith, ap length e); met = λ h. (a ∷ v, refl, omega arith) };
  longest = record { capped = omega arith; most = λ s e. omega (arith, ap length e); met = λ h. (a ∷ v, refl, omega arith) };
  first = record { sound = λ b t. (v, let e : a ≡ b = (eqb_decides a b).sound t in cc); complete = λ b s e. (eqb_decides a b).complete (cc) };
}

-- ---- one after the other, one or the other

module _ {P Q : Bytes → Type 0} {m n : Summary} (x : Exact P m) (y : Exact Q n) where
  both_shortest : IsShortest (Cut P Q) (min (m.shortest + n.shortest) length_cap)
  unfolding Cut
  both_shortest = record {
    capped = omega arith;
    least = λ s (a, b, e, p, q). omega (arith, x.shortest.least a p, y.shortest.least b q, simp length-append at (ap length e));
    met = λ h.
        let (a, p, e) = x.shortest.met (omega arith) in
        let (b, q, f) = y.shortest.met (omega arith) in
        (a ++ b, (a, b, refl, p, q), omega (arith, length-append a b));
  }

  both_longest : (some : Bool) → Decides some (((s : Bytes) × P s) × ((s : Bytes) × Q s)) → IsLongest (Cut P Q) (cond some (min (m.longest + n.longest) length_cap) 0)
  unfolding Cut
  both_longest true d =
      let ((s, p), (t, q)) = d.sound tt in
      let (a, u, h) = long x s p in
      let (b, v, k) = long y t q in
      record {
        capped = omega arith;
        most = λ s (a, b, e, p, q). omega (arith, x.longest.most a p, y.longest.most b q, simp length-append at (ap length e));
        met = λ z. (a ++ b, (a, b, refl, u, v), omega (arith, length-append a b));
      }
  both_longest false d = record { capped = omega arith; most = λ s (a, b, e, p, q). absurd (d.complete ((a, p), (b, q))); met = λ h. absurd (omega arith) }

  both_first : (b : ℕ) → Decides (possible n && (m.first b || eqb m.shortest 0 && n.first b)) ((s : Bytes) × Cut P Q (b ∷ s))
  unfolding Cut
  both_first b =
      via (both (possible_decides y) (either (first_decides x b) (both (empty_decides x) (first_decides y b)))) (
        λ ((t, q), c). ⊎_elim (λ (s, p). (s ++ t, (b ∷ s, t, refl, p, q))) (λ (o, (s, r)). (s, ([], b ∷ s, refl, o, r))) c,
        λ (s, w). cut s w,
      )
    where
      cut : (s : Bytes) → Cut P Q (b ∷ s) → ((t : Bytes) × Q t) × (((s : Bytes) × P (b ∷ s)) ⊎ (P [] × ((s : Bytes) × Q (b ∷ s))))
      cut s ([], d, e, p, q) = ((d, q), inr (p, (s, rw e q)))
      cut s (a ∷ c, d, e, p, q) = ((d, q), inl (c, let f : b ≡ a = cc in rw f p))

  both_exact : Exact (Cut P Q) (of_both m n)
  unfolding of_both
  both_exact = record {
    shortest = both_shortest;
    longest = both_longest (possible m && possible n) (both (possible_decides x) (possible_decides y));
    first = first_by _ both_first;
  }

  either_exact : Exact (λ s. P s ⊎ Q s) (of_either m n)
  unfolding of_either
  either_exact = record {
    shortest = record {
      capped = omega (arith, x.shortest.capped);
      least = λ s. ⊎_elim (λ p. omega (arith, x.shortest.least s p)) (λ q. omega (arith, y.shortest.least s q));
      met = λ h.
          ⊎_elim (λ l. let (s, p, e) = x.shortest.met (omega arith) in (s, inl p, omega arith)) (λ l. let (s, q, e) = y.shortest.met (omega arith) in (s, inr q, omega arith))
          (le_or_lt m.shortest n.shortest);
    };
    longest = record {
      capped = omega (arith, x.longest.capped, y.longest.capped);
      most = λ s. ⊎_elim (λ p. omega (arith, x.longest.most s p)) (λ q. omega (arith, y.longest.most s q));
      met = λ h.
          ⊎_elim (λ l. let (s, q, e) = y.longest.met (omega arith) in (s, inr q, omega arith)) (λ l. let (s, p, e) = x.longest.met (omega arith) in (s, inl p, omega arith))
          (le_or_lt m.longest n.longest);
    };
    first = first_by _ (
        λ b. via (either (first_decides x b) (first_decides y b)) (
          ⊎_elim (λ (s, p). (s, inl p)) (λ (s, q). (s, inr q)),
          λ (s, c). ⊎_elim (λ p. inl (s, p)) (λ q. inr (s, q)) c,
        )
        );
  }

-- ---- repeats

-- k copies of one string
copies : (P : Bytes → Type 0) (a : Bytes) → P a → (k : ℕ) → (s : Bytes) × Power P k s × (length s ≡ k * length a)
unfolding Power Cut
copies P a p zero = ([], refl, omega arith)
copies P a p (suc k) = let (s, d, e) = copies P a p k in (a ++ s, (a, s, refl, p, d), omega (arith, length-append a s, suc-mul k (length a)))

upto_zero : (high : Option ℕ) (low : ℕ) → UpTo high low → UpTo high 0
unfolding UpTo
upto_zero none low u = tt
upto_zero (some h) low u = omega arith

module _ {P : Bytes → Type 0} {m : Summary} (x : Exact P m) where
  -- k bodies are at least k times as long as the shortest, and at most k times as long as the longest
  power_least : (k : ℕ) (s : Bytes) → Power P k s → k * m.shortest ≤ length s
  unfolding Power Cut
  power_least zero s e = omega arith
  power_least (suc k) s (a, b, e, p, d) =
      omega (arith, x.shortest.least a p, power_least k b d, suc-mul k m.shortest, simp length-append at (ap length e))

  power_most : (k : ℕ) (s : Bytes) → Power P k s → min (length s) length_cap ≤ k * m.longest
  unfolding Power Cut
  power_most zero s e = omega (arith, ap length e)
  power_most (suc k) s (a, b, e, p, d) =
      omega (arith, x.longest.most a p, power_most k b d, suc-mul k m.longest, simp length-append at (ap length e))

  -- the first body that is not empty
  power_first : (k b : ℕ) (s : Bytes) → Power P k (b ∷ s) → (0 < k) × ((t : Bytes) × P (b ∷ t))
  unfolding Power Cut
  power_first zero b s e = absurd (omega (arith, ap length e))
  power_first (suc k) b s ([], d, e, p, q) = (omega arith, (power_first k b s (rw e q)).1)
  power_first (suc k) b s (a ∷ c, d, e, p, q) = (omega arith, (c, let f : b ≡ a = cc in rw f p))

  module _ (low : ℕ) where
    abbrev Repeated : Option ℕ → Bytes → Type 0
    Repeated high s = (k : ℕ) × (low ≤ k) × UpTo high k × Power P k s

    repeat_shortest : (high : Option ℕ) → UpTo high low → IsShortest (Repeated high) (min (low * m.shortest) length_cap)
    unfolding Power
    repeat_shortest high o = record {
      capped = omega arith;
      least = λ s (k, l, u, d). omega (arith, power_least k s d, mul-le-mul_right m.shortest l);
      met = λ h.
          ⊎_elim (λ l. ([], (0, l, upto_zero high low o, refl), let z : low ≡ 0 = omega arith in rw z (omega arith)))
          (λ l. let (a, p, e) = x.shortest.met (omega (arith, mul-le-mul_right m.shortest l)) in
          let (s, d, f) = copies P a p low in
          (s, (low, omega arith, o, d), omega (arith, f, ap (λ n. low * n) e)))
          (le_or_lt low 0);
    }

    open_longest : (b : Bool) → Decides b (m.longest ≡ 0) → IsLongest (Repeated none) (cond b 0 length_cap)
    unfolding UpTo
    open_longest true z = record {
      capped = omega arith;
      most = λ s (k, l, u, d). omega (arith, power_most k s d, ap (λ n. k * n) (z.sound tt), mul-zero k);
      met = λ h. absurd (omega arith);
    }
    open_longest false z = record {
      capped = omega arith;
      most = λ s c. omega arith;
      met = λ h.
          let g : 0 < m.longest = ⊎_elim (λ l. absurd (z.complete (omega arith))) (λ l. l) (le_or_lt m.longest 0) in
          let (a, p, e) = x.longest.met g in
          let k : ℕ = max low length_cap in
          let (s, d, f) = copies P a p k in
          let i : 1 ≤ length a = omega arith in
          (s, (k, omega arith, tt, d), omega (arith, f, mul-le-mul_left k i));
    }

    repeat_longest : (high : Option ℕ) → UpTo high low → IsLongest (Repeated high) (often high m.longest)
    unfolding often UpTo
    repeat_longest none o = open_longest (eqb m.longest 0) (eqb_decides m.longest 0)
    repeat_longest (some h) o = record {
      capped = omega arith;
      most = λ s (k, l, u, d). omega (arith, power_most k s d, mul-le-mul_right m.longest u);
      met = λ g.
          let n : 0 < m.longest =
          ⊎_elim (λ l. let z : m.longest ≡ 0 = omega arith in absurd (omega (arith, ap (λ n. h * n) z, mul-zero h))) (λ l. l) (le_or_lt m.longest 0) in
          let (a, p, e) = x.longest.met n in
          let (s, d, f) = copies P a p h in
          (s, (h, o, omega arith, d), omega (arith, f, mul-le-mul_left h e));
    }

    -- enough bodies, the first of which begins with b
    ahead : (b : ℕ) (s : Bytes) → P (b ∷ s) → (t : Bytes) × Power P (suc (low - 1)) (b ∷ t)
    unfolding Power Cut
    ahead b s p = let (t, d, f) = copies P (b ∷ s) p (low - 1) in (s ++ t, (b ∷ s, t, refl, p, d))

    repeat_first : (high : Option ℕ) → UpTo high low → (b : ℕ) → Decides (once high && m.first b) ((s : Bytes) × Repeated high (b ∷ s))
    unfolding once UpTo
    repeat_first none o b = via (first_decides x b) (
      λ (s, p). let (t, d) = ahead b s p in (t, (suc (low - 1), omega arith, tt, d)),
      λ (s, (k, l, u, d)). (power_first k b s d).1,
    )
    repeat_first (some h) o b = via (both (leb_decides 1 h) (first_decides x b)) (
      λ (g, (s, p)). let (t, d) = ahead b s p in (t, (suc (low - 1), omega arith, omega arith, d)),
      λ (s, (k, l, u, d)). let (z, w) = power_first k b s d in (omega arith, w),
    )

    repeat_exact : (high : Option ℕ) → UpTo high low → Exact (Repeated high) (of_repeat low high m)
    unfolding of_repeat
    repeat_exact high o = record { shortest = repeat_shortest high o; longest = repeat_longest high o; first = first_by _ (repeat_first high o) }

-- ---- the theorem

-- "These three are exact, over strings of any length": so is the summary of every tree whose counts are ordered
pub exact : {s : Sort} (t : Syntax s) → Ordered t → Exact (Satisfies t) (summary_of t)
unfolding Satisfies Ordered summary_of OneOf
exact (last a) o = exact a o
exact (then a p) o = both_exact (exact a o.0) (exact p o.1)
exact (repeat low high b) o = repeat_exact (exact b o.1) low high o.0
exact (codes set) o = class_exact (in_set set) (set_small set)
exact (literal value) o = literal_exact value
exact (group bs) o = exact bs o
exact (only p) o = exact p o
exact (or p bs) o = either_exact (exact p o.0) (exact bs o.1)

-- a summary is exact just where it says the same
pub exact_exactly : {s : Sort} (t : Syntax s) → Ordered t → (m : Summary) → Exact (Satisfies t) m ↔ Same m (summary_of t)
exact_exactly t o m = (λ x. exact_unique x (exact t o), same_exact (exact t o))

-- so an exact summary has one sequence of bytes
pub exact_bytes : {s : Sort} (t : Syntax s) → Ordered t → (m : Summary) → Exact (Satisfies t) m → summary_bytes m ≡ summary_bytes (summary_of t)
exact_bytes t o m x = ap summary_bytes (same_equal (exact_unique x (exact t o)))
