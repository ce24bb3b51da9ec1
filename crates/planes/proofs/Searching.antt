-- The search for an end, in plain values: what holds where the ends above m were tried and none held. Assumes nothing.
use mathlib.Core.Path.{◌≡◌, refl, sym, ◌∙◌}
use mathlib.Core.Bool.{Bool, true, false, cond}
use Prim.Native.Nat.{ℕ, suc, ◌+◌, ◌-◌, ◌≤◌, ◌<◌}
use native.Mathlib.Omega.{arith}
use Rattle.std.specs.Prelude.{Option, Some, None, is_some}
use Rattle.pattern.specs.Decision.{any}
use Rattle.pattern.specs.Trials.{tries}

-- the ends m down to i are still to be tried; p is asked how far an end is from i
pub record SearchAt (p : ℕ → Bool) (i j budget trials spent m : ℕ) : Type 0 where
  pub from : i ≤ m
  pub to : m ≤ j
  pub within : spent ≤ budget
  pub count : spent + tries (suc m - i) p ≡ trials + tries (suc j - i) p
  pub same : any (suc m - i) p ≡ any (suc j - i) p

-- the search is over, and f says whether an end holds
pub record Searched (p : ℕ → Bool) (i j budget trials spent : ℕ) (f : Bool) : Type 0 where
  pub within : spent ≤ budget
  pub count : spent ≡ trials + tries (suc j - i) p
  pub finds : any (suc j - i) p ≡ f

-- it is over, and the end m holds
pub record FoundAt (p : ℕ → Bool) (i j budget trials spent m : ℕ) : Type 0 where
  pub searched : Searched p i j budget trials spent true
  pub from : i ≤ m
  pub to : m ≤ j
  pub holds : p (m - i) ≡ true

-- what the search yields: an end that holds, or none
abbrev pub Says : (p : ℕ → Bool) (i j budget trials spent : ℕ) → Option ℕ → Type 0
Says p i j budget trials spent (Some m) = FoundAt p i j budget trials spent m
Says p i j budget trials spent None = Searched p i j budget trials spent false

pub says_searched : {p : ℕ → Bool} {i j budget trials spent : ℕ} (o : Option ℕ) → Says p i j budget trials spent o → Searched p i j budget trials spent (is_some o)
says_searched (Some m) h = h.searched
says_searched None h = h

module _ (p : ℕ → Bool) where
  tries_none : tries 0 p ≡ 0
  unfolding tries
  tries_none = refl

  any_none : any 0 p ≡ false
  unfolding any
  any_none = refl

  module _ (c : ℕ) where
    tries_some : 1 ≤ tries (suc c) p
    unfolding tries
    tries_some = pick (p c)
      where
        pick : (g : Bool) → 1 ≤ cond g 1 (suc (tries c p))
        pick true = omega arith
        pick false = omega arith

    module _ (e : p c ≡ true) where
      tries_hit : tries (suc c) p ≡ 1
      unfolding tries
      tries_hit = rw e

      any_hit : any (suc c) p ≡ true
      unfolding any
      any_hit = rw e

    module _ (e : p c ≡ false) where
      tries_miss : tries (suc c) p ≡ suc (tries c p)
      unfolding tries
      tries_miss = rw e

      any_miss : any (suc c) p ≡ any c p
      unfolding any
      any_miss = rw e

pub search_start : {p : ℕ → Bool} {i j budget trials : ℕ} → i ≤ j → trials ≤ budget → SearchAt p i j budget trials trials j
search_start h l = record { from = h; to = omega arith; within = l; count = refl; same = refl }

module _ {p : ℕ → Bool} {i j budget trials spent m : ℕ} (inv : SearchAt p i j budget trials spent m) where
  left : suc m - i ≡ suc (m - i)
  left = omega (arith, inv.from)

  count : spent + tries (suc (m - i)) p ≡ trials + tries (suc j - i) p
  count = rw left at inv.count

  same : any (suc (m - i)) p ≡ any (suc j - i) p
  same = rw left at inv.same

  -- it stops where the budget is spent
  pub search_stop : spent ≡ budget → budget < trials + tries (suc j - i) p
  search_stop e = omega (arith, count, tries_some p (m - i))

  module _ (n : spent ≡ budget → ⊥) where
    pub search_hit : p (m - i) ≡ true → FoundAt p i j budget trials (spent + 1) m
    search_hit e =
        record {
          searched = record { within = omega (arith, inv.within); count = omega (arith, count, tries_hit p (m - i) e); finds = sym same ∙ any_hit p (m - i) e };
          from = inv.from;
          to = inv.to;
          holds = e;
        }

    module _ (e : p (m - i) ≡ false) where
      pub search_none : m ≡ i → Searched p i j budget trials (spent + 1) false
      search_none z =
          let o : m - i ≡ 0 = omega arith in
          let none : tries (m - i) p ≡ 0 = rw o (tries_none p) in
          record {
            within = omega (arith, inv.within);
            count = omega (arith, count, tries_miss p (m - i) e);
            finds = sym same ∙ any_miss p (m - i) e ∙ rw o (any_none p);
          }

      pub search_next : (m ≡ i → ⊥) → SearchAt p i j budget trials (spent + 1) (m - 1)
      search_next z =
          let o : suc (m - 1) - i ≡ m - i = omega (arith, inv.from) in
          record {
            from = omega (arith, inv.from);
            to = omega (arith, inv.to);
            within = omega (arith, inv.within);
            count = rw o (omega (arith, count, tries_miss p (m - i) e));
            same = rw o (sym (any_miss p (m - i) e) ∙ same);
          }
