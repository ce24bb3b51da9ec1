-- A tree says the same of every empty stretch. Assumes nothing.
use mathlib.Core.Path.{◌≡◌, refl, sym, ap, ◌∙◌}
use mathlib.Core.Bool.{Bool, false, ◌&&◌, ◌||◌}
use mathlib.Core.Option.{Option}
use Prim.Native.Nat.{ℕ, zero, suc, ◌+◌, ◌-◌, min}
use native.Mathlib.Omega.{arith}
use borrow.Author.Tests.{eq-eqb}
use lib.Dec.{leb}
use lib.Seq.{slice_empty}
use Rattle.pattern.specs.Bytes.{Bytes, equal}
use Rattle.pattern.specs.Syntax.{Sort, Syntax, last, then, repeat, codes, literal, group, only, or}
use Rattle.pattern.specs.Decision.{Rel, any, trial, join, power, max_count, repeated, single, decide}
use Rattle.planes.proofs.Relations.{any_same}

abbrev Level : Rel → Type 0
Level R = (i : ℕ) → R i i ≡ R 0 0

module _ (R S : Rel) where
  join_empty : (i : ℕ) → join R S i i ≡ (R i i && S i i) || false
  unfolding join any trial
  join_empty i = let e : suc i - i ≡ 1 = omega arith in let z : i + 0 ≡ i = omega arith in rw (e, z)

  join_level : Level R → Level S → Level (join R S)
  join_level r s i = join_empty i ∙ rw (r i, s i) (sym (join_empty 0))

power_level : (R : Rel) → Level R → (k : ℕ) → Level (power R k)
unfolding power
power_level R r zero i = eq-eqb i i refl
power_level R r (suc k) i = join_level R (power R k) r (power_level R r k) i

repeated_level : (n low : ℕ) (high : Option ℕ) (R : Rel) → Level R → Level (repeated n low high R)
unfolding repeated
repeated_level n low high R r i =
    let enough : ℕ → ℕ → Bool = λ i k. leb (min low n) k && power R k i i in
    rw (r i, any_same (enough i) (enough 0) (suc (max_count n high)) (λ k h. ap (λ (b : Bool). leb (min low n) k && b) (power_level R r k i)))

pub decide_level : (l : Bytes) {s : Sort} (x : Syntax s) → Level (decide l x)
unfolding decide
decide_level l (last a) i = decide_level l a i
decide_level l (then a p) i = join_level (decide l a) (decide l p) (decide_level l a) (decide_level l p) i
decide_level l (repeat low high b) i = repeated_level _ low high (decide l b) (decide_level l b) i
decide_level l (codes set) i = ap (single set) (slice_empty i l ∙ sym (slice_empty 0 l))
decide_level l (literal value) i = ap (λ (v : Bytes). equal v value) (slice_empty i l ∙ sym (slice_empty 0 l))
decide_level l (group bs) i = decide_level l bs i
decide_level l (only p) i = decide_level l p i
decide_level l (or p bs) i = rw (decide_level l p i, decide_level l bs i)
