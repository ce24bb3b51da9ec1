-- The loop over the number of bodies, in plain values. Assumes nothing.
use mathlib.Core.Path.{◌≡◌, refl, ◌∙◌}
use mathlib.Core.List.{List}
use Prim.Native.Nat.{ℕ, suc, ◌+◌, ◌*◌, ◌≤◌, ◌<◌}
use native.Mathlib.Numerals.{add-one}
use native.Mathlib.Omega.{arith}
use lib.ListN.{length}
use Rattle.std.specs.Prelude.{Some, None}
use Rattle.pattern.specs.Decision.{any, power, join}
use Rattle.planes.specs.declared.budget.Budget.{Budget}
use Rattle.planes.specs.Cells.{InRoom, Plane, Kept, Others, on}
use Rattle.pattern.specs.Trials.{joins}
use Rattle.planes.specs.Join.{JoinPre, JoinPost}
use Rattle.planes.specs.Whole.{AddPre}
use Rattle.planes.specs.RepeatBody.{AddFromPost, fewer, body_trials, RepeatBodyPre, Elsewhere, RepeatBodyPost}
use Rattle.planes.proofs.Planes.{kept_all, kept_then, kept_less, plane_on, plane_same, plane_flags, plane_kept, room_of}
use Rattle.planes.proofs.Relations.{join_same, joins_same}
use Rattle.planes.proofs.Counting.{Counting, count_start, count_step, count_stop, count_end}

-- where k bodies are made, and out has those of fewer than o
pub record RepeatBodyAt (s₀ : List ℕ) (w temp out low times : ℕ) (budget : Budget) (s : List ℕ) (counted : Budget) (from to k o : ℕ) : Type 0 where
  pub counting : Counting (body_trials w (on s₀ w temp)) times budget.limit budget.spent counted.spent k
  pub limit : counted.limit ≡ budget.limit
  pub long : length s ≡ length s₀
  pub turns : from + to ≡ 2 * temp + 3
  pub from_high : temp < from
  pub to_high : temp < to
  pub bodies : Plane s w from (power (on s₀ w temp) k)
  pub all : Plane s w out (fewer (on s₀ w temp) low o)
  pub kept : Kept s₀ s w (temp + 4) (Elsewhere temp out)

module _ (s₀ : List ℕ) (w temp out low times : ℕ) (budget : Budget) (ok : RepeatBodyPre s₀ w temp out) where
  pub repeat_start : RepeatBodyAt s₀ w temp out low times budget s₀ budget (temp + 1) (temp + 2) 0 0
  unfolding power any
  repeat_start = record {
    counting = count_start _ times budget.limit budget.spent budget.within;
    limit = refl;
    long = refl;
    turns = omega arith;
    from_high = omega arith;
    to_high = omega arith;
    bodies = ok.empty;
    all = ok.nothing;
    kept = kept_all s₀ w (temp + 4) (Elsewhere temp out);
  }

  module _ (s : List ℕ) (counted : Budget) (from to k : ℕ) where
    repeat_room : length s ≡ length s₀ → (p : ℕ) → p < temp + 4 → InRoom s w p
    repeat_room e p h = room_of s w p (temp + 4) h (rw e ok.room)

    -- plane temp has the body throughout
    repeat_body : Kept s₀ s w (temp + 4) (Elsewhere temp out) → Plane s w temp (on s₀ w temp)
    repeat_body k = let below = ok.below in plane_kept k (λ i j. (λ e. omega arith, λ e. omega arith, λ e. omega arith)) ok.body

    -- first the gathering
    module _ (inv : RepeatBodyAt s₀ w temp out low times budget s counted from to k k) where
      pub repeat_add : AddPre s w from out
      repeat_add =
          let below = ok.below in
          record {
            wide = ok.wide;
            added = record { room = repeat_room inv.long from (omega (arith, inv.turns, inv.to_high)); flags = plane_flags inv.bodies };
            into = record { room = repeat_room inv.long out (omega arith); flags = plane_flags inv.all };
          }

      pub repeat_added : (s' : List ℕ) → length s' ≡ length s → AddFromPost s s' w from out low k → RepeatBodyAt s₀ w temp out low times budget s' counted from to k (suc k)
      unfolding any
      repeat_added s' len got =
          let below = ok.below in
          record {
            counting = inv.counting;
            limit = inv.limit;
            long = len ∙ inv.long;
            turns = inv.turns;
            from_high = inv.from_high;
            to_high = inv.to_high;
            bodies = plane_kept got.kept (λ i j e. omega (arith, inv.from_high)) inv.bodies;
            all = plane_same got.plane (λ i j hi hj. rw (plane_on inv.bodies i j hi hj, plane_on inv.all i j hi hj));
            kept = kept_then inv.kept (kept_less (out + 1) (temp + 4) (omega arith) got.kept (λ q i j n. n)) (λ q i j n. n) (λ q i j n. n.0);
          }

    -- then the join
    module _ (inv : RepeatBodyAt s₀ w temp out low times budget s counted from to k (suc k)) where
      pub repeat_ready : JoinPre s w temp from to
      repeat_ready = record {
        wide = ok.wide;
        from_left = record { room = repeat_room inv.long temp (omega arith); flags = plane_flags (repeat_body inv.kept) };
        from_right = record { room = repeat_room inv.long from (omega (arith, inv.turns, inv.to_high)); flags = plane_flags inv.bodies };
        into = repeat_room inv.long to (omega (arith, inv.turns, inv.from_high));
        not_left = λ e. omega (arith, inv.to_high);
        not_right = λ e. omega (arith, inv.turns);
      }

      pub repeat_end : times ≤ k → RepeatBodyPost s₀ s w temp out low times budget (Some counted)
      repeat_end h =
          let e : k ≡ times = omega (arith, inv.counting.below) in
          record {
            counted = (inv.limit, count_end _ times budget.limit budget.spent counted.spent k inv.counting h);
            whole = rw e at inv.all;
            kept = inv.kept;
          }

      -- where it is stopped, and where it is whole
      module _ (more : k < times) (s' : List ℕ) where
        tried : joins w (on s w temp) (on s w from) ≡ body_trials w (on s₀ w temp) k
        tried = joins_same w _ _ _ _ (plane_on (repeat_body inv.kept)) (plane_on inv.bodies)

        all_kept : Kept s s' w (to + 1) (Others to) → Kept s₀ s' w (temp + 4) (Elsewhere temp out)
        all_kept kept =
            let to_low : to ≤ temp + 2 = omega (arith, inv.turns, inv.from_high) in
            kept_then inv.kept (kept_less (to + 1) (temp + 4) (omega arith) kept (λ q i j n. n)) (λ q i j n. n)
            (λ q i j n e. let far : q ≡ temp + 1 → ⊥ = n.1 in let near : q ≡ temp + 2 → ⊥ = n.2 in omega (arith, inv.to_high))

        pub repeat_stop : JoinPost s s' w temp from to counted None → RepeatBodyPost s₀ s' w temp out low times budget None
        repeat_stop got = record { counted = count_stop _ times budget.limit budget.spent counted.spent k inv.counting more _ tried (rw inv.limit at got.counted); whole = tt; kept = all_kept got.kept }

        one_more : power (on s₀ w temp) (k + 1) ≡ join (on s₀ w temp) (power (on s₀ w temp) k)
        unfolding power
        one_more = rw add-one

        pub repeat_step : (t : Budget) → JoinPost s s' w temp from to counted (Some t) → length s' ≡ length s → RepeatBodyAt s₀ w temp out low times budget s' t to from (k + 1) (k + 1)
        repeat_step t got len =
            let below = ok.below in
            let z : suc k ≡ k + 1 = omega arith in
            record {
              counting = count_step _ times budget.limit budget.spent counted.spent k inv.counting more _ tried t.spent (omega (arith, t.within, got.counted.0, inv.limit)) got.counted.1;
              limit = got.counted.0 ∙ inv.limit;
              long = len ∙ inv.long;
              turns = omega (arith, inv.turns);
              from_high = inv.to_high;
              to_high = inv.from_high;
              bodies = rw one_more (plane_same got.whole (join_same w _ _ _ _ (plane_on (repeat_body inv.kept)) (plane_on inv.bodies)));
              all = rw (← z) (plane_kept got.kept (λ i j x. omega (arith, inv.to_high)) inv.all);
              kept = all_kept got.kept;
            }
