-- The loops of a join, in plain values: what holds where the stretches that end at j and begin before i, or those that end before j, are stored. Assumes nothing.
use mathlib.Core.Path.{◌≡◌, refl, sym, ◌∙◌}
use mathlib.Core.Bool.{Bool, true, false}
use mathlib.Core.List.{List}
use mathlib.Core.Logic.{⊎_elim}
use Prim.Native.Nat.{ℕ, suc, ◌+◌, ◌-◌, ◌≤◌, ◌<◌}
use native.Mathlib.Nat.{eq-or-lt_of_le}
use native.Mathlib.Omega.{arith}
use lib.Bits.{bit_and}
use lib.ListN.{length}
use Rattle.std.specs.Prelude.{Option, Some, None}
use Rattle.std.specs.Option.{OnSome}
use Rattle.pattern.specs.Decision.{trial, join, any}
use Rattle.pattern.specs.Trials.{tries, column_trials, joins}
use Rattle.planes.specs.Cells.{cell, Tells, Plane, Kept, Others, on, bit_of, stretch_set}
use Rattle.planes.specs.declared.budget.Budget.{Budget}
use Rattle.planes.specs.Whole.{BlankPost}
use Rattle.planes.specs.Join.{JoinPre, JoinPost}
use Rattle.planes.proofs.Planes.{Same, Beside, stretch_long, stretch_tells, stretch_kept, kept_all, kept_then, kept_less, tells_same, tells_kept, plane_same, on_kept, read_kept, trial_hit, trial_miss}
use Rattle.planes.proofs.Relations.{tries_same, any_same, trial_same, join_same, joins_same, column_same}
use Rattle.planes.proofs.Counting.{Counting, count_start, count_step, count_stop, count_end}
use Rattle.planes.proofs.Searching.{SearchAt, FoundAt, Searched, search_hit, search_none, search_next}

-- a join that could be made still can
ready_kept : {s s' : List ℕ} {w left right out N : ℕ} → length s' ≡ length s → Kept s s' w N (Others out) → JoinPre s w left right out → JoinPre s' w left right out
ready_kept e k h = record {
  wide = h.wide;
  from_left = read_kept e k (λ i j. h.not_left) h.from_left;
  from_right = read_kept e k (λ i j. h.not_right) h.from_right;
  into = rw e h.into;
  not_left = h.not_left;
  not_right = h.not_right;
}

-- ---- the stretches that end at j

-- the cells of plane p that speak of no stretch that ends at j, and those of the other planes
abbrev Off : ℕ → ℕ → ℕ → ℕ → ℕ → Type 0
Off p j q a b = q ≡ p → (a ≤ b → b ≡ j → ⊥) × (b ≤ a → a ≡ j → ⊥)

-- those that begin before i are stored; s₀ is the list as it was before the first
pub record ColumnAt (s₀ : List ℕ) (w left right out j budget trials : ℕ) (s : List ℕ) (spent i : ℕ) : Type 0 where
  pub ready : JoinPre s₀ w left right out
  pub inside : j < w
  pub counting : Counting (λ a. tries (suc j - a) (trial (on s₀ w left) (on s₀ w right) a j)) (suc j) budget trials spent i
  pub long : length s ≡ length s₀
  pub done : (a : ℕ) → a < i → Tells s w out a j (join (on s₀ w left) (on s₀ w right) a j)
  pub ahead : (a : ℕ) → i ≤ a → a ≤ j → Tells s w out a j false
  pub kept : Kept s₀ s w (out + 1) (Off out j)

module _ {s₀ : List ℕ} {w left right out j budget trials : ℕ} {s : List ℕ} {spent i : ℕ} (inv : ColumnAt s₀ w left right out j budget trials s spent i) where
  others : Kept s₀ s w (out + 1) (Others out)
  others = kept_less (out + 1) (out + 1) (omega arith) inv.kept (λ q a b n e. absurd (n e))

  pub column_ready : JoinPre s w left right out
  column_ready = ready_kept inv.long others inv.ready

  -- a trial at m is the test `&` of two cells
  module _ {t m : ℕ} (at : SearchAt (trial (on s w left) (on s w right) i j) i j budget spent t m) (n : t ≡ budget → ⊥) where
    pub trial_held : (bit_and (cell s w left i m) (cell s w right j m) ≡ 0 → ⊥) → FoundAt (trial (on s w left) (on s w right) i j) i j budget spent (t + 1) m
    trial_held h = search_hit at n (trial_hit s w left right column_ready.from_left.flags column_ready.from_right.flags i m j at.from at.to inv.inside h)

    module _ (h : bit_and (cell s w left i m) (cell s w right j m) ≡ 0) where
      missed : trial (on s w left) (on s w right) i j (m - i) ≡ false
      missed = trial_miss s w left right column_ready.from_left.flags column_ready.from_right.flags i m j at.from at.to inv.inside h

      pub trial_none : m ≡ i → Searched (trial (on s w left) (on s w right) i j) i j budget spent (t + 1) false
      trial_none = search_none at n missed

      pub trial_next : (m ≡ i → ⊥) → SearchAt (trial (on s w left) (on s w right) i j) i j budget spent (t + 1) (m - 1)
      trial_next = search_next at n missed

  column_end : j < i → spent ≡ trials + column_trials (on s₀ w left) (on s₀ w right) j
  unfolding column_trials
  column_end h = count_end _ (suc j) budget trials spent i inv.counting (omega arith)

  module _ (more : i ≤ j) where
    same_trial : (d : ℕ) → d < suc j - i → trial (on s w left) (on s w right) i j d ≡ trial (on s₀ w left) (on s₀ w right) i j d
    same_trial = trial_same w _ _ _ _ (on_kept others (λ a b. inv.ready.not_left)) (on_kept others (λ a b. inv.ready.not_right)) i j more inv.inside

    tried : tries (suc j - i) (trial (on s w left) (on s w right) i j) ≡ tries (suc j - i) (trial (on s₀ w left) (on s₀ w right) i j)
    tried = tries_same _ _ (suc j - i) same_trial

    found : any (suc j - i) (trial (on s w left) (on s w right) i j) ≡ join (on s₀ w left) (on s₀ w right) i j
    unfolding join
    found = any_same _ _ (suc j - i) same_trial

    column_stop : budget < spent + tries (suc j - i) (trial (on s w left) (on s w right) i j) → budget < trials + column_trials (on s₀ w left) (on s₀ w right) j
    unfolding column_trials
    column_stop over = count_stop _ (suc j) budget trials spent i inv.counting (omega arith) _ tried over

    -- the search is over with t trials; f says whether it found an end
    module _ {t : ℕ} {f : Bool} (got : Searched (trial (on s w left) (on s w right) i j) i j budget spent t f) where
      column_step : (s' : List ℕ) → length s' ≡ length s → Tells s' w out i j f → Kept s s' w (out + 1) (Beside out i j) → ColumnAt s₀ w left right out j budget trials s' t (i + 1)
      column_step s' len here k =
          let other : (a : ℕ) → a ≤ j → (a ≡ i → ⊥) → (b : Bool) → Tells s w out a j b → Tells s' w out a j b
          = λ a l n b. tells_kept k l inv.inside (λ _. (λ y _. n y, λ y z. omega arith), λ _. (λ y z. omega arith, λ _ z. n z)) in
          record {
            ready = inv.ready;
            inside = inv.inside;
            counting = count_step _ (suc j) budget trials spent i inv.counting (omega arith) _ tried t got.within got.count;
            long = len ∙ inv.long;
            done = λ a l. ⊎_elim (λ z. rw z (tells_same here (sym got.finds ∙ found))) (λ z. other a (omega arith) (λ y. omega arith) _ (inv.done a z)) (eq-or-lt_of_le (let y : a ≤ i = omega arith in y));
            ahead = λ a l m. other a m (λ y. omega arith) _ (inv.ahead a (omega arith) m);
            kept = kept_then inv.kept k (λ q a b n. n) (λ q a b n x. (λ y z. (n x).0 (omega arith) z, λ y z. (n x).1 (omega arith) y));
          }

    pub column_found : {t : ℕ} → Searched (trial (on s w left) (on s w right) i j) i j budget spent t true → ColumnAt s₀ w left right out j budget trials (stretch_set s w out i j (bit_of true)) t (i + 1)
    column_found got =
        column_step got (stretch_set s w out i j (bit_of true)) (stretch_long w out i j s (bit_of true)) (stretch_tells w out i j more inv.inside s true column_ready.into) (stretch_kept w out i j more inv.inside s true)

    pub column_missing : {t : ℕ} → Searched (trial (on s w left) (on s w right) i j) i j budget spent t false → ColumnAt s₀ w left right out j budget trials s t (i + 1)
    column_missing got = column_step got s refl (inv.ahead i (omega arith) more) (kept_all _ _ _ _)

-- ---- all ends

-- the stretches that end before j are stored; s₀ is the list as it was before the first
pub record PlaneAt (s₀ : List ℕ) (w left right out budget trials : ℕ) (s : List ℕ) (spent j : ℕ) : Type 0 where
  pub ready : JoinPre s₀ w left right out
  pub counting : Counting (column_trials (on s₀ w left) (on s₀ w right)) w budget trials spent j
  pub long : length s ≡ length s₀
  pub done : (a b : ℕ) → a ≤ b → b < j → Tells s w out a b (join (on s₀ w left) (on s₀ w right) a b)
  pub ahead : (a b : ℕ) → a ≤ b → j ≤ b → b < w → Tells s w out a b false
  pub kept : Kept s₀ s w (out + 1) (Others out)

pub plane_start : {s₀ : List ℕ} {w left right out budget trials : ℕ} → JoinPre s₀ w left right out → trials ≤ budget → Plane s₀ w out (λ i j. false) → PlaneAt s₀ w left right out budget trials s₀ trials 0
plane_start ok h v = record {
  ready = ok;
  counting = count_start _ _ _ _ h;
  long = refl;
  done = λ a b l m. absurd (omega arith);
  ahead = λ a b l m n. v.holds a b l n;
  kept = kept_all _ _ _ _;
}

module _ {s₀ : List ℕ} {w left right out limit trials : ℕ} {s : List ℕ} {spent j : ℕ} (inv : PlaneAt s₀ w left right out limit trials s spent j) where
  pub plane_end : (b c : Budget) → trials ≡ b.spent → c.limit ≡ b.limit → c.spent ≡ spent → w ≤ j → JoinPost s₀ s w left right out b (Some c)
  unfolding joins
  plane_end b c y l e h = record {
    counted = (l, e ∙ rw y at (count_end _ w limit trials spent j inv.counting h));
    whole = record { holds = λ a b l m. inv.done a b l (omega arith) };
    kept = inv.kept;
  }

  module _ (more : j < w) where
    pub column_start : ColumnAt s w left right out j limit spent s spent 0
    column_start = record {
      ready = ready_kept inv.long inv.kept inv.ready;
      inside = more;
      counting = count_start _ (suc j) limit spent inv.counting.within;
      long = refl;
      done = λ a l. absurd (omega arith);
      ahead = λ a l m. inv.ahead a j m (omega arith) more;
      kept = kept_all _ _ _ _;
    }

    left_same : Same w (on s w left) (on s₀ w left)
    left_same = on_kept inv.kept (λ a b. inv.ready.not_left)

    right_same : Same w (on s w right) (on s₀ w right)
    right_same = on_kept inv.kept (λ a b. inv.ready.not_right)

    columns_tried : column_trials (on s w left) (on s w right) j ≡ column_trials (on s₀ w left) (on s₀ w right) j
    columns_tried = column_same w _ _ _ _ left_same right_same j more

    module _ {s' : List ℕ} {t i : ℕ} (column : ColumnAt s w left right out j limit spent s' t i) where
      all_kept : Kept s₀ s' w (out + 1) (Others out)
      all_kept = kept_then inv.kept column.kept (λ q a b n. n) (λ q a b n x. absurd (n x))

      pub plane_stop : (b : Budget) → limit ≡ b.limit → trials ≡ b.spent → i ≤ j → limit < t + tries (suc j - i) (trial (on s' w left) (on s' w right) i j) → JoinPost s₀ s' w left right out b None
      unfolding joins
      plane_stop b l y here over = record {
        counted = omega (arith, l, y, count_stop _ w limit trials spent j inv.counting more _ columns_tried (column_stop column here over));
        whole = tt;
        kept = all_kept;
      }

      other : (a b : ℕ) → a ≤ b → b < w → (b ≡ j → ⊥) → (x : Bool) → Tells s w out a b x → Tells s' w out a b x
      other a b l m n x = tells_kept column.kept l m (λ _. (λ _ y. n y, λ y z. omega arith), λ _. (λ y z. omega arith, λ _ y. n y))

      pub plane_step : j < i → PlaneAt s₀ w left right out limit trials s' t (j + 1)
      plane_step past = record {
        ready = inv.ready;
        counting = count_step _ w limit trials spent j inv.counting more _ columns_tried _ column.counting.within (column_end column past);
        long = column.long ∙ inv.long;
        done = λ a b l m. ⊎_elim
            (λ z. let y : a ≤ j = omega arith in rw z (tells_same (column.done a (omega arith)) (join_same w _ _ _ _ left_same right_same a j y more)))
            (λ z. other a b l (omega arith) (λ y. omega arith) _ (inv.done a b l z))
            (eq-or-lt_of_le (let y : b ≤ j = omega arith in y));
        ahead = λ a b l m n. other a b l n (λ y. omega arith) _ (inv.ahead a b l (omega arith) n);
        kept = all_kept;
      }

-- a join into an emptied plane is one into the plane as it was
module _ {s₀ s₁ : List ℕ} {w left right out : ℕ} (ok : JoinPre s₀ w left right out) (b : BlankPost s₀ s₁ w out) where
  pub join_ready : length s₁ ≡ length s₀ → JoinPre s₁ w left right out
  join_ready e = ready_kept e b.kept ok

  pub join_blank : {s : List ℕ} {budget : Budget} (r : Option Budget) → JoinPost s₁ s w left right out budget r → JoinPost s₀ s w left right out budget r
  join_blank {s = s} r h = record { counted = rw (← joins_same w _ _ _ _ l k) h.counted; whole = planed r h.whole; kept = kept_then b.kept h.kept (λ q i j n. n) (λ q i j n. n) }
    where
      l : Same w (on s₁ w left) (on s₀ w left)
      l = on_kept b.kept (λ i j. ok.not_left)

      k : Same w (on s₁ w right) (on s₀ w right)
      k = on_kept b.kept (λ i j. ok.not_right)

      planed : (r : Option Budget) → OnSome r (Plane s w out (join (on s₁ w left) (on s₁ w right))) → OnSome r (Plane s w out (join (on s₀ w left) (on s₀ w right)))
      planed None h = tt
      planed (Some t) h = plane_same h (join_same w _ _ _ _ l k)
