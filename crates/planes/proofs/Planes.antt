-- Laws of cells and planes. Assumes nothing.
use mathlib.Core.Path.{◌≡◌, refl, sym, ap, ap₂, ◌∙◌}
use mathlib.Core.Bool.{Bool, true, false, not, ◌&&◌}
use mathlib.Core.List.{List}
use mathlib.Core.Logic.{⊎_elim}
use Prim.Native.Nat.{ℕ, ◌+◌, ◌-◌, ◌*◌, ◌/◌, ◌%◌, ◌≤◌, ◌<◌}
use native.Mathlib.Nat.{eq-or-lt_of_le, mul-le-mul_left, mul-le-mul_right, mul-one}
use native.Mathlib.Omega.{arith}
use lib.Arith.{digits_lt, digits_div, digits_mod}
use lib.Bits.{bit_and}
use lib.Dec.{eqb}
use lib.ListN.{length, set, length-set}
use lib.Seq.{get_or-set_same, get_or-set_other}
use Rattle.pattern.specs.Decision.{Rel, trial}
use Rattle.planes.specs.Cells.{cell_index, cell, InRoom, bit_of, stretch_set, Tells, on, Plane, Readable, Kept}

some : {w i : ℕ} → i < w → 1 ≤ w
some h = omega arith

module _ (w p i j : ℕ) (hi : i < w) (hj : j < w) where
  pub index_below : (q : ℕ) → p < q → cell_index w p i j < q * w * w
  index_below q h = digits_lt (digits_lt h hi) hj

  pub index_in : {n : ℕ} → (p + 1) * w * w ≤ n → cell_index w p i j < n
  index_in h = omega (arith, index_below (p + 1) (omega arith))

  -- two cells with one index are one cell
  index_inj : (p' i' j' : ℕ) → i' < w → j' < w → cell_index w p i j ≡ cell_index w p' i' j' → (p ≡ p') × (i ≡ i') × (j ≡ j')
  index_inj p' i' j' hi' hj' e =
      let q : p * w + i ≡ p' * w + i' = sym (digits_div (p * w + i) hj) ∙ ap (λ (k : ℕ). k / w) e ∙ digits_div (p' * w + i') hj' in (
        sym (digits_div p hi) ∙ ap (λ (k : ℕ). k / w) q ∙ digits_div p' hi',
        sym (digits_mod p hi) ∙ ap (λ (k : ℕ). k % w) q ∙ digits_mod p' hi',
        sym (digits_mod (p * w + i) hj) ∙ ap (λ (k : ℕ). k % w) e ∙ digits_mod (p' * w + i') hj',
      )

  -- a cell that is set holds what it is set to, and every other cell what it held
  pub set_here : (s : List ℕ) (v : ℕ) → InRoom s w p → cell (set s (cell_index w p i j) v) w p i j ≡ v
  set_here s v h = get_or-set_same s (cell_index w p i j) v 0 (index_in h)

  pub set_kept : (s : List ℕ) (v : ℕ) → Kept s (set s (cell_index w p i j) v) w (p + 1) (λ q a b. q ≡ p → a ≡ i → b ≡ j → ⊥)
  set_kept s v = record {
    same = λ q a b ha hb n. get_or-set_other s (cell_index w p i j) (cell_index w q a b) v 0 (λ e. let (x, y, z) = index_inj q a b ha hb (sym e) in n (sym x) (sym y) (sym z));
    rest = λ k h. get_or-set_other s (cell_index w p i j) k v 0 (λ e. omega (arith, index_below (p + 1) (omega arith)));
  }

-- ---- what is kept

abbrev Cells : Type 1
Cells = ℕ → ℕ → ℕ → Type 0

pub kept_all : (s : List ℕ) (w N : ℕ) (P : Cells) → Kept s s w N P
kept_all s w N P = record { same = λ q i j hi hj n. refl; rest = λ k h. refl }

pub kept_then : {s s' s'' : List ℕ} {w N : ℕ} {P Q R : Cells} → Kept s s' w N P → Kept s' s'' w N Q
    → ((q i j : ℕ) → R q i j → P q i j) → ((q i j : ℕ) → R q i j → Q q i j) → Kept s s'' w N R
kept_then a b f g = record {
  same = λ q i j hi hj n. b.same q i j hi hj (g q i j n) ∙ a.same q i j hi hj (f q i j n);
  rest = λ k h. b.rest k h ∙ a.rest k h;
}

-- fewer cells, more planes
pub kept_less : {s s' : List ℕ} {w : ℕ} (N M : ℕ) {P Q : Cells} → N ≤ M → Kept s s' w N P → ((q i j : ℕ) → Q q i j → P q i j) → Kept s s' w M Q
kept_less {w = w} N M h a f = record {
  same = λ q i j hi hj n. a.same q i j hi hj (f q i j n);
  rest = λ k l. a.rest k (omega (arith, mul-le-mul_right w (mul-le-mul_right w h)));
}

-- ---- the two cells of a stretch

-- the cells other than these two
abbrev pub Beside : ℕ → ℕ → ℕ → ℕ → ℕ → ℕ → Type 0
Beside p i j q a b = q ≡ p → (a ≡ i → b ≡ j → ⊥) × (a ≡ j → b ≡ i → ⊥)

pub stretch_long : (w p i j : ℕ) (s : List ℕ) (v : ℕ) → length (stretch_set s w p i j v) ≡ length s
stretch_long w p i j s v = length-set (set s (cell_index w p i j) v) (cell_index w p j i) v ∙ length-set s (cell_index w p i j) v

module _ (w p i j : ℕ) (hi : i ≤ j) (hj : j < w) (s : List ℕ) (b : Bool) where
  pub stretch_kept : Kept s (stretch_set s w p i j (bit_of b)) w (p + 1) (Beside p i j)
  stretch_kept = kept_then (set_kept w p i j (omega arith) hj s (bit_of b)) (set_kept w p j i hj (omega arith) _ (bit_of b)) (λ q a b n e. (n e).0) (λ q a b n e. (n e).1)

  pub stretch_tells : InRoom s w p → Tells (stretch_set s w p i j (bit_of b)) w p i j b
  stretch_tells room =
      let v : ℕ = bit_of b in
      let s' : List ℕ = set s (cell_index w p i j) v in
      let last : cell (stretch_set s w p i j v) w p j i ≡ v = set_here w p j i hj (omega arith) s' v (rw (length-set s (cell_index w p i j) v) room) in
      record {
        by_begin = ⊎_elim
            (λ e. rw e (rw e at last))
            (λ l. (set_kept w p j i hj (omega arith) s' v).same p i j (omega arith) hj (λ _ y z. omega arith) ∙ set_here w p i j (omega arith) hj s v room)
            (eq-or-lt_of_le hi);
        by_end = last;
      }

module _ {w p i j : ℕ} where
  pub tells_same : {s : List ℕ} {b c : Bool} → Tells s w p i j b → b ≡ c → Tells s w p i j c
  tells_same h e = record { by_begin = h.by_begin ∙ ap bit_of e; by_end = h.by_end ∙ ap bit_of e }

  pub tells_kept : {s s' : List ℕ} {N : ℕ} {P : Cells} {b : Bool} → Kept s s' w N P → i ≤ j → j < w → P p i j × P p j i → Tells s w p i j b → Tells s' w p i j b
  tells_kept k hi hj (f, g) h = record { by_begin = k.same p i j (omega arith) hj f ∙ h.by_begin; by_end = k.same p j i hj (omega arith) g ∙ h.by_end }

-- ---- relations and planes

-- two relations agree on the stretches below w
abbrev pub Same : ℕ → Rel → Rel → Type 0
Same w R S = (i j : ℕ) → i ≤ j → j < w → R i j ≡ S i j

bit_on : (b : Bool) → not (eqb (bit_of b) 0) ≡ b
bit_on true = refl
bit_on false = refl

module _ {s : List ℕ} {w p : ℕ} where
  pub plane_on : {R : Rel} → Plane s w p R → Same w (on s w p) R
  unfolding on
  plane_on {R} h i j hi hj = rw (h.holds i j hi hj).by_begin (bit_on (R i j))

  pub plane_same : {R S : Rel} → Plane s w p R → Same w R S → Plane s w p S
  plane_same h e = record { holds = λ i j hi hj. tells_same (h.holds i j hi hj) (e i j hi hj) }

  pub plane_flags : {R : Rel} → Plane s w p R → Plane s w p (on s w p)
  plane_flags {R} h = plane_same h (λ i j hi hj. sym (plane_on h i j hi hj))

  pub plane_kept : {s' : List ℕ} {N : ℕ} {P : Cells} {R : Rel} → Kept s s' w N P → ((i j : ℕ) → P p i j) → Plane s w p R → Plane s' w p R
  plane_kept k f h = record { holds = λ i j hi hj. tells_kept k hi hj (f i j, f j i) (h.holds i j hi hj) }

  pub on_kept : {s' : List ℕ} {N : ℕ} {P : Cells} → Kept s s' w N P → ((i j : ℕ) → P p i j) → Same w (on s' w p) (on s w p)
  unfolding on
  on_kept k f i j hi hj = ap (λ (v : ℕ). not (eqb v 0)) (k.same p i j (omega arith) hj (f i j))

pub read_kept : {s s' : List ℕ} {w p N : ℕ} {P : Cells} → length s' ≡ length s → Kept s s' w N P → ((i j : ℕ) → P p i j) → Readable s w p → Readable s' w p
read_kept e k f h = record { room = rw e h.room; flags = plane_flags (plane_kept k f h.flags) }

-- a plane whose number is below q is in a list that q planes fit in
pub room_of : (s : List ℕ) (w p q : ℕ) → p < q → q * w * w ≤ length s → InRoom s w p
room_of s w p q h room = let fewer : p + 1 ≤ q = omega arith in omega (arith, mul-le-mul_right w (mul-le-mul_right w fewer))

-- planes are no more than their bytes
pub planes_le : (w q : ℕ) → 1 ≤ w → q ≤ q * w * w
planes_le w q h = omega (arith, mul-le-mul_left q h, mul-one q, mul-le-mul_left (q * w) h, mul-one (q * w))

-- ---- a trial on two planes is the test `&` of two cells

both_set : (x y : Bool) → (bit_and (bit_of x) (bit_of y) ≡ 0 → ⊥) → x && y ≡ true
both_set true true h = refl
both_set true false h = absurd (h refl)
both_set false true h = absurd (h refl)
both_set false false h = absurd (h refl)

not_both : (x y : Bool) → bit_and (bit_of x) (bit_of y) ≡ 0 → x && y ≡ false
not_both true true h = let z : ◌≡◌ {A = ℕ} 1 0 = h in absurd (omega arith)
not_both true false h = refl
not_both false true h = refl
not_both false false h = refl

module _ (s : List ℕ) (w left right : ℕ) (l : Plane s w left (on s w left)) (r : Plane s w right (on s w right)) (i m j : ℕ) (hi : i ≤ m) (hm : m ≤ j) (hj : j < w) where
  cells_and : bit_and (cell s w left i m) (cell s w right j m) ≡ bit_and (bit_of (on s w left i m)) (bit_of (on s w right m j))
  cells_and = ap₂ bit_and (l.holds i m hi (omega arith)).by_begin (r.holds m j hm hj).by_end

  trial_on : trial (on s w left) (on s w right) i j (m - i) ≡ on s w left i m && on s w right m j
  unfolding trial
  trial_on = let e : i + (m - i) ≡ m = omega arith in rw e

  pub trial_hit : (bit_and (cell s w left i m) (cell s w right j m) ≡ 0 → ⊥) → trial (on s w left) (on s w right) i j (m - i) ≡ true
  trial_hit h = trial_on ∙ both_set (on s w left i m) (on s w right m j) (λ e. h (cells_and ∙ e))

  pub trial_miss : bit_and (cell s w left i m) (cell s w right j m) ≡ 0 → trial (on s w left) (on s w right) i j (m - i) ≡ false
  trial_miss h = trial_on ∙ not_both (on s w left i m) (on s w right m j) (sym cells_and ∙ h)
