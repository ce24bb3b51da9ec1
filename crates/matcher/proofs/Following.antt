-- The join of an atom with its followers, and the loop over all atoms, in plain values. Assumes nothing.
use mathlib.Core.Path.{◌≡◌, refl, sym, ap, ◌∙◌}
use mathlib.Core.Bool.{or-false}
use mathlib.Core.List.{List, [], ◌∷◌}
use mathlib.Core.Logic.{⊎_elim}
use Prim.Native.Nat.{ℕ, zero, suc, ◌+◌, ◌*◌, ◌-◌, ◌/◌, ◌≤◌, ◌<◌}
use native.Mathlib.Nat.{eq-or-lt_of_le}
use native.Mathlib.Omega.{arith}
use lib.ListN.{length, drop}
use lib.Seq.{drop-cons, drop-length}
use Rattle.std.specs.Prelude.{Option, None, Some}
use Rattle.std.specs.Option.{OnSome}
use Rattle.pattern.specs.Bytes.{Bytes}
use Rattle.pattern.specs.Syntax.{pattern, atom, Syntax, last, then, size, nodes}
use Rattle.pattern.specs.Decision.{Rel, join, decide}
use Rattle.pattern.specs.Trials.{joins, repeats, atom_trials, total, trials}
use Rattle.pattern.specs.Decode.{dummy, tree_of}
use Rattle.pattern.proofs.Bound.{nodes_size}
use Rattle.pattern.proofs.RoundTrip.{some_atom}
use Rattle.table.specs.declared.record.Record.{Record}
use Rattle.atoms.specs.Records.{RecordOf}
use Rattle.planes.specs.declared.budget.Budget.{Budget}
use Rattle.planes.specs.Cells.{InRoom, Plane, Kept, on}
use Rattle.planes.specs.Join.{JoinPre, JoinPost}
use Rattle.planes.specs.Whole.{BlankPost, AddPre, AddPost}
use Rattle.atoms.specs.Atoms.{atoms, node, head}
use Rattle.matcher.specs.Settled.{StepPre, Settled}
use Rattle.matcher.specs.FillBody.{FillBodyPre}
use Rattle.matcher.specs.Steps.{NoPlane, FillAtomPost, follow_trials, JoinFollowersPre, JoinFollowersPost, SettlePost, SettleAllPost}
use Rattle.planes.proofs.Planes.{kept_all, kept_then, kept_less, plane_on, plane_same, plane_flags, plane_kept}
use Rattle.planes.proofs.Relations.{join_same, joins_same}
use Rattle.planes.proofs.Counting.{counted_then}
use Rattle.matcher.proofs.Groups.{settled_kept, work_long, work_room}

-- what follows of what is held of a value
OnSome_map : {P Q : Type 0} (r : Option Budget) → (P → Q) → OnSome r P → OnSome r Q
OnSome_map None f h = tt
OnSome_map (Some t) f h = f h

-- ---- the followers

follows_last : (l : Bytes) (p : Syntax pattern) (a : Syntax atom) → p ≡ last a → (follow_trials l p ≡ 0) × (decide l p ≡ decide l a)
unfolding follow_trials decide
follows_last l p a e = (ap (follow_trials l) e, ap (λ (z : Syntax pattern). decide l z) e)

follows_then : (l : Bytes) (p : Syntax pattern) (a : Syntax atom) (q : Syntax pattern) → p ≡ then a q → (follow_trials l p ≡ joins (suc (length l)) (decide l a) (decide l q)) × (decide l p ≡ join (decide l a) (decide l q))
unfolding follow_trials decide
follows_then l p a q e = (ap (follow_trials l) e, ap (λ (z : Syntax pattern). decide l z) e)

module _ (table label s : Bytes) (w x : ℕ) (ok : JoinFollowersPre table label s w x) where
  pub follow_blank : (1 ≤ w) × InRoom s w (2 * x + 1)
  follow_blank = (omega (arith, ok.work.wide), work_room ok.work (2 * x + 1) (omega (arith, ok.there)))

  module _ (s₁ : Bytes) (l₁ : length s₁ ≡ length s) (b : BlankPost s s₁ w (2 * x + 1)) where
    here : Plane s₁ w (2 * x) (decide label (head (node table x)))
    here = plane_kept b.kept (λ i j e. omega arith) ok.here

    pub follow_add : AddPre s₁ w (2 * x) (2 * x + 1)
    follow_add = record {
      wide = omega (arith, ok.work.wide);
      added = record { room = rw l₁ (work_room ok.work (2 * x) (omega (arith, ok.there))); flags = plane_flags here };
      into = record { room = rw l₁ (work_room ok.work (2 * x + 1) (omega (arith, ok.there))); flags = plane_flags b.plane };
    }

    pub follow_last : (r : Record) → RecordOf table x r → (budget : Budget) → r.ends ≡ 1 → (s₂ : Bytes) → AddPost s₁ s₂ w (2 * x) (2 * x + 1) → JoinFollowersPost table label s s₂ w x budget (Some budget)
    follow_last r is budget e s₂ f =
        let (none, same) = follows_last label _ _ (is.is_last e) in
        record {
          counted = (refl, omega (arith, none));
          whole = plane_same f.plane (λ i j hi hj. rw (plane_on here i j hi hj, plane_on b.plane i j hi hj) (or-false (decide label (head (node table x)) i j) ∙ sym (ap (λ (R : Rel). R i j) same)));
          kept = kept_less (2 * x + 1 + 1) (2 * x + 2) (omega arith) (kept_then b.kept f.kept (λ q i j n. n) (λ q i j n. n)) (λ q i j n. n);
        }

  module _ (r : Record) (is : RecordOf table x r) where
    module _ (n : r.ends ≡ 1 → ⊥) (next : ℕ) (e : next ≡ x + size (head (node table x))) where
      pub follow_next : next < atoms table
      follow_next = rw e (is.is_followed n).there

      follow_plane : Plane s w (2 * next + 1) (decide label (node table next))
      follow_plane = ok.settled.rest next (omega (arith, some_atom (head (node table x)))) follow_next

      pub follow_ready : JoinPre s w (2 * x) (2 * next + 1) (2 * x + 1)
      follow_ready = record {
        wide = omega (arith, ok.work.wide);
        from_left = record { room = work_room ok.work (2 * x) (omega (arith, ok.there)); flags = plane_flags ok.here };
        from_right = record { room = work_room ok.work (2 * next + 1) (omega (arith, follow_next)); flags = plane_flags follow_plane };
        into = work_room ok.work (2 * x + 1) (omega (arith, ok.there));
        not_left = λ y. omega arith;
        not_right = λ y. omega (arith, some_atom (head (node table x)));
      }

      pub follow_then : (budget : Budget) (s' : Bytes) (t : Option Budget) → JoinPost s s' w (2 * x) (2 * next + 1) (2 * x + 1) budget t → JoinFollowersPost table label s s' w x budget t
      follow_then budget s' t got =
          let m = (is.is_followed n).is in
          let (tried, same) = follows_then label _ _ _ (m ∙ ap (λ (k : ℕ). then (head (node table x)) (node table k)) (sym e)) in
          let z : w ≡ suc (length label) = omega (arith, ok.work.wide) in
          let count : joins w (on s w (2 * x)) (on s w (2 * next + 1)) ≡ follow_trials label (node table x)
          = joins_same w _ _ _ _ (plane_on ok.here) (plane_on follow_plane) ∙ ap (λ (v : ℕ). joins v (decide label (head (node table x))) (decide label (node table next))) z ∙ sym tried in
          record {
            counted = rw (← count) got.counted;
            whole = OnSome_map t (λ p. plane_same p (λ i j hi hj. join_same w _ _ _ _ (plane_on ok.here) (plane_on follow_plane) i j hi hj ∙ sym (ap (λ (R : Rel). R i j) same))) got.whole;
            kept = kept_less (2 * x + 1 + 1) (2 * x + 2) (omega arith) got.kept (λ q i j k. k);
          }

-- ---- both planes of an atom

atom_is : (l : Bytes) (p : Syntax pattern) → atom_trials l p ≡ repeats l (head p) + follow_trials l p
unfolding atom_trials head follow_trials
atom_is l (last a) = omega arith
atom_is l (then a p) = refl

module _ (table label s : Bytes) (w temp x : ℕ) (budget : Budget) (ok : FillBodyPre table label s w temp x) (s₁ : Bytes) where
  pub step_stop : FillAtomPost table label s s₁ w temp x budget None → SettlePost table label s s₁ w temp x budget None
  step_stop got = record {
    counted = omega (arith, got.counted, atom_is label (node table x));
    whole = tt;
    kept = kept_less (temp + 4) (temp + 4) (omega arith) got.kept (λ q i j n. absurd n);
  }

  module _ (t : Budget) (got : FillAtomPost table label s s₁ w temp x budget (Some t)) (l₁ : length s₁ ≡ length s) where
    pub step_following : JoinFollowersPre table label s₁ w x
    step_following = record {
      work = work_long l₁ ok.work;
      there = ok.there;
      settled = settled_kept got.kept (λ q i j l m. (omega arith, omega (arith, ok.temp_is))) ok.settled;
      here = got.whole;
    }

    pub step_end : (s₂ : Bytes) (u : Option Budget) → JoinFollowersPost table label s₁ s₂ w x t u → SettlePost table label s s₂ w temp x budget u
    step_end s₂ u f =
        let later : Settled table label s₂ w (suc x) = settled_kept f.kept (λ q i j l m y. omega arith) step_following.settled in
        let few : 2 * x + 2 ≤ temp + 4 = omega (arith, ok.temp_is, ok.there) in
        record {
          counted = rw (atom_is label (node table x)) (counted_then budget t _ _ u got.counted f.counted);
          whole = OnSome_map u (λ p. record {
            own = λ y l m. ⊎_elim (λ k. rw (← k) (plane_kept f.kept (λ i j b. omega arith) got.whole)) (λ k. later.own y k m) (eq-or-lt_of_le l);
            rest = λ y l m. ⊎_elim (λ k. rw (← k) p) (λ k. later.rest y k m) (eq-or-lt_of_le l);
          }) f.whole;
          kept = kept_then got_kept (kept_less (2 * x + 2) (temp + 4) few f.kept (λ q i j n. n)) (λ q i j n. n) (λ q i j n. absurd n);
        }
      where
        got_kept : Kept s s₁ w (temp + 4) NoPlane
        got_kept = kept_less (temp + 4) (temp + 4) (omega arith) got.kept (λ q i j n. absurd n)

-- ---- all atoms

total_drop : (f : Syntax pattern → ℕ) (k : ℕ) (xs : List (Syntax pattern)) → total f (drop k xs) ≤ total f xs
unfolding total
total_drop f zero xs = omega arith
total_drop f (suc k) [] = omega arith
total_drop f (suc k) (x ∷ xs) = omega (arith, total_drop f k xs)

-- the planes of the atoms from x on are settled, and their trials are counted
pub record AllAt (table label s₀ : Bytes) (w temp : ℕ) (budget : Budget) (s : Bytes) (x : ℕ) (counted : Budget) : Type 0 where
  pub there : x ≤ atoms table
  pub long : length s ≡ length s₀
  pub limit : counted.limit ≡ budget.limit
  pub count : counted.spent ≡ budget.spent + total (atom_trials label) (drop x (nodes (tree_of table)))
  pub settled : Settled table label s w x
  pub kept : Kept s₀ s w (temp + 4) NoPlane

module _ (table label s₀ : Bytes) (w temp : ℕ) (budget : Budget) (ok : StepPre table label s₀ w) (temp_is : temp ≡ 2 * atoms table) where
  pub all_start : AllAt table label s₀ w temp budget s₀ (temp / 2) budget
  unfolding total
  all_start =
      let h : temp / 2 ≡ length (nodes (tree_of table)) = omega (arith, nodes_size (tree_of table)) in
      let none : total (atom_trials label) (drop (temp / 2) (nodes (tree_of table))) ≡ 0 = ap (λ (k : ℕ). total (atom_trials label) (drop k (nodes (tree_of table)))) h ∙ ap (total (atom_trials label)) (drop-length (nodes (tree_of table))) in
      record {
        there = omega arith;
        long = refl;
        limit = refl;
        count = omega (arith, none);
        settled = record { own = λ y l m. absurd (omega arith); rest = λ y l m. absurd (omega arith) };
        kept = kept_all s₀ w (temp + 4) NoPlane;
      }

  module _ (s : Bytes) (x : ℕ) (counted : Budget) (inv : AllAt table label s₀ w temp budget s x counted) where
    pub all_end : x ≤ 0 → SettleAllPost table label s₀ s w temp budget (Some counted)
    unfolding trials
    all_end h =
        let z : x ≡ 0 = omega arith in
        record {
          counted = (inv.limit, rw z at inv.count);
          whole = rw z at inv.settled;
          kept = inv.kept;
        }

    module _ (more : 0 < x) where
      one : suc (x - 1) ≡ x
      one = omega arith

      counts : total (atom_trials label) (drop (x - 1) (nodes (tree_of table))) ≡ atom_trials label (node table (x - 1)) + total (atom_trials label) (drop x (nodes (tree_of table)))
      unfolding total node
      counts =
          ap (total (atom_trials label)) (drop-cons (nodes (tree_of table)) (x - 1) (last dummy) (omega (arith, nodes_size (tree_of table), inv.there)))
          ∙ ap (λ (k : ℕ). atom_trials label (node table (x - 1)) + k) (ap (λ (k : ℕ). total (atom_trials label) (drop k (nodes (tree_of table)))) one)

      module _ (s' : Bytes) where
        still : Kept s s' w (temp + 4) NoPlane → Kept s₀ s' w (temp + 4) NoPlane
        still kept = kept_then inv.kept kept (λ q i j n. n) (λ q i j n. n)

        pub all_stop : SettlePost table label s s' w temp (x - 1) counted None → SettleAllPost table label s₀ s' w temp budget None
        unfolding trials
        all_stop got = record {
          counted = omega (arith, got.counted, inv.limit, inv.count, counts, total_drop (atom_trials label) (x - 1) (nodes (tree_of table)));
          whole = tt;
          kept = still got.kept;
        }

        pub all_step : (t : Budget) → SettlePost table label s s' w temp (x - 1) counted (Some t) → length s' ≡ length s → AllAt table label s₀ w temp budget s' (x - 1) t
        all_step t got len = record {
          there = omega (arith, inv.there);
          long = len ∙ inv.long;
          limit = got.counted.0 ∙ inv.limit;
          count = omega (arith, got.counted.1, inv.count, counts);
          settled = got.whole;
          kept = still got.kept;
        }
