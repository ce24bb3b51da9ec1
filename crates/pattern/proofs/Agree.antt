-- The decision agrees with the meaning. Assumes nothing.
use mathlib.Core.Path.{◌≡◌, refl, sym, ap, ◌∙◌}
use mathlib.Core.Bool.{◌&&◌}
use mathlib.Core.List.{[], ◌∷◌}
use mathlib.Core.Option.{Option}
use Prim.Native.Nat.{ℕ, zero, suc, ◌+◌, ◌-◌, ◌<◌, ◌≤◌, min}
use native.Mathlib.Omega.{arith}
use lib.Dec.{T, leb}
use lib.ListN.{length}
use lib.Seq.{slice, slice_empty, length-slice}
use Rattle.pattern.specs.Bytes.{Bytes, equal}
use Rattle.pattern.specs.Codes.{in_set}
use Rattle.pattern.specs.Syntax.{Sort, Syntax, last, then, repeat, codes, literal, group, only, or}
use Rattle.pattern.specs.Meaning.{Cut, Power, UpTo, Satisfies}
use Rattle.pattern.specs.Decision.{Rel, trial, join, power, max_count, repeated, single, decide}
use Rattle.pattern.specs.Within.{Ordered}
use Rattle.pattern.proofs.Tests.{Decides, via, both, either, no_test, leb_decides, eqb_decides, any_decides}
use Rattle.pattern.proofs.Stretch.{cut_slice, slice_cut}
use Rattle.pattern.proofs.FewBodies.{few}

single_decides : (set : ℕ) (s : Bytes) → Decides (single set s) ((b : ℕ) × (s ≡ b ∷ []) × T (in_set set b))
unfolding single
single_decides set [] = no_test (λ (b, e, t). omega (arith, ap length e))
single_decides set (b ∷ []) = record { sound = λ h. (b, refl, h); complete = λ (c, e, t). let f : b ≡ c = cc in rw f t }
single_decides set (b ∷ c ∷ s) = no_test (λ (d, e, t). omega (arith, ap length e))

pub equal_decides : (s v : Bytes) → Decides (equal s v) (s ≡ v)
unfolding equal
equal_decides [] [] = record { sound = λ h. refl; complete = λ e. tt }
equal_decides [] (b ∷ v) = no_test (λ e. omega (arith, ap length e))
equal_decides (a ∷ s) [] = no_test (λ e. omega (arith, ap length e))
equal_decides (a ∷ s) (b ∷ v) = via (both (eqb_decides a b) (equal_decides s v)) (λ (p, q). cc, λ e. (cc, cc))

-- a relation decides of every stretch of the label whether it satisfies P
pub record Agree (l : Bytes) (R : Rel) (P : Bytes → Type 0) : Type 0 where
  pub on : (i j : ℕ) → i ≤ j → j ≤ length l → Decides (R i j) (P (slice i j l))

module _ {l : Bytes} where
  pub trial_agree : {R S : Rel} {P Q : Bytes → Type 0} → Agree l R P → Agree l S Q → {i j : ℕ} → i ≤ j → j ≤ length l → (d : ℕ) → d < suc j - i
      → Decides (trial R S i j d) (P (slice i (i + d) l) × Q (slice (i + d) j l))
  unfolding trial
  trial_agree r s {i} {j} h k d f = both (r.on i (i + d) (omega arith) (omega arith)) (s.on (i + d) j (omega arith) k)

  join_agree : {R S : Rel} {P Q : Bytes → Type 0} → Agree l R P → Agree l S Q → Agree l (join R S) (Cut P Q)
  unfolding join Cut
  join_agree r s = record {
    on = λ i j h k.
        via (any_decides (suc j - i) (trial_agree r s h k)) (
          λ (d, f, (p, q)). (slice i (i + d) l, slice (i + d) j l, cut_slice l i (i + d) j (omega arith) (omega arith) k, p, q),
          λ (a, b, x, p, q). let (f, u, v) = slice_cut l a b i j h k x in (length a, omega arith, (rw u p, rw v q)),
        );
  }

  power_agree : {R : Rel} {P : Bytes → Type 0} → Agree l R P → (k : ℕ) → Agree l (power R k) (Power P k)
  unfolding power Power
  power_agree r zero = record { on = λ i j h k. via (eqb_decides i j) (λ e. rw e (slice_empty j l), λ e. omega (arith, sym (length-slice i j l k) ∙ ap length e)) }
  power_agree r (suc c) = join_agree r (power_agree r c)

  repeat_agree : {R : Rel} {P : Bytes → Type 0} → Agree l R P → (low : ℕ) (high : Option ℕ) → UpTo high low
      → Agree l (repeated (length l) low high R) (λ s. (k : ℕ) × (low ≤ k) × UpTo high k × Power P k s)
  unfolding repeated
  repeat_agree {P} r low high o = record {
    on = λ i j h k.
        let n : ℕ = length l in
        let bodies : (c : ℕ) → c < suc (max_count n high) → Decides (leb (min low n) c && power _ c i j) ((min low n ≤ c) × Power P c (slice i j l)) =
        λ c f. both (leb_decides (min low n) c) ((power_agree r c).on i j h k) in
        via (both (any_decides (suc (max_count n high)) bodies) (either (leb_decides low n) (rw slice_empty at (r.on i i (omega arith) (omega arith)))))
        (few P low high n (slice i j l) o (rw (length-slice i j l k) (omega arith)));
  }

  -- of every stretch the decision says just whether it satisfies the tree
  pub agree : {s : Sort} (x : Syntax s) → Ordered x → Agree l (decide l x) (Satisfies x)
  unfolding decide Satisfies Ordered
  agree (last a) o = agree a o
  agree (then a p) o = join_agree (agree a o.0) (agree p o.1)
  agree (repeat low high b) o = repeat_agree (agree b o.1) low high o.0
  agree (codes set) o = record { on = λ i j h k. single_decides set (slice i j l) }
  agree (literal value) o = record { on = λ i j h k. equal_decides (slice i j l) value }
  agree (group bs) o = agree bs o
  agree (only p) o = agree p o
  agree (or p bs) o = record { on = λ i j h k. either ((agree p o.0).on i j h k) ((agree bs o.1).on i j h k) }
