-- Any calls in turn are answered as by a plain map. Assumes nothing.
use mathlib.Core.Path.{◌≡◌, refl, ap, ap₂, ◌∙◌}
use mathlib.Core.Logic.{◌↔◌, ◌⊎◌, inl, inr, ⊎_elim}
use mathlib.Core.Bool.{true}
use mathlib.Core.List.{List, [], ◌∷◌}
use mathlib.Core.Option.{Option, none, some}
use Prim.Native.Nat.{ℕ, ◌≤◌, ◌<◌}
use native.Mathlib.Omega.{arith}
use lib.ListN.{length, set}
use Rattle.pattern.specs.Numbers.{FULL, REGISTER}
use Rattle.pattern.specs.Bytes.{Bytes}
use Rattle.pattern.specs.Answers.{MatchOutput, ended}
use Rattle.pattern.proofs.Tests.{le_or_lt}
use Rattle.register.specs.Maps.{Map, empty, total, is_table, Changed}
use Rattle.register.specs.Layout.{overhead, capacity, register_of}
use Rattle.register.specs.Register.{init_of, store_of, remove_of}
use Rattle.register.specs.Turns.{Call, init, store, remove, match, Response, answered, matched, response_number, changed, map_step, register_step, responses, after_all, Simulates}
use Rattle.register.proofs.Registers.{meant_within, init_follows, store_refused, remove_refused, match_refused, init_refused, Follows, store_follows, remove_follows, match_follows, full_exactly}

changed_simulates : (lent : Bytes) (c : Changed Map) (o : Changed Bytes) → Follows lent c o → Simulates lent (changed c) (changed o)
unfolding response_number
changed_simulates lent c o f =
    record { response = ap answered f.number; means = f.means; long = f.long; behind = f.behind; refused_leaves = λ n. f.refused_leaves (λ z. n (f.number ∙ z)) }

-- "It must answer as a plain map from number to table does", each call
pub step_simulates : (lent : Bytes) (m : Map) → register_of lent ≡ some m → (c : Call) → Simulates lent (map_step (capacity lent) m c) (register_step lent c)
unfolding map_step register_step response_number
step_simulates lent m e init = changed_simulates lent _ _ (init_follows lent (omega (arith, meant_within lent m e)))
step_simulates lent m e (store k t) = changed_simulates lent _ _ (store_follows lent m e k t)
step_simulates lent m e (remove k) = changed_simulates lent _ _ (remove_follows lent m e k)
step_simulates lent m e (match k label scratch parts budget) =
    record { response = ap matched (match_follows lent m e k label scratch parts budget); means = e; long = refl; behind = refl; refused_leaves = λ z. refl }

same_capacity : (a b : Bytes) → length a ≡ length b → capacity a ≡ capacity b
same_capacity a b h = omega arith

-- and all calls in turn: the responses are the plain map's, and the lent bytes then mean what it then is
pub simulation : (lent : Bytes) (m : Map) (calls : List Call) → register_of lent ≡ some m
    → (responses register_step lent calls ≡ responses (map_step (capacity lent)) m calls)
    × (register_of (after_all register_step lent calls) ≡ some (after_all (map_step (capacity lent)) m calls))
    × (length (after_all register_step lent calls) ≡ length lent)
unfolding responses after_all
simulation lent m [] e = (refl, e, refl)
simulation lent m (c ∷ cs) e =
    let s = step_simulates lent m e c in
    let next : Bytes = (register_step lent c).next in
    let (r, a, l) = simulation next (map_step (capacity lent) m c).next cs s.means in
    let n : capacity next ≡ capacity lent = same_capacity next lent s.long in
    (rw (s.response, r, n), rw (a, n), l ∙ s.long)

-- from any bytes that are enough, whatever they hold
pub simulation_from_init : (lent : Bytes) (calls : List Call) → overhead ≤ length lent
    → (responses register_step lent (init ∷ calls) ≡ responses (map_step (capacity lent)) empty (init ∷ calls))
    × (register_of (after_all register_step lent (init ∷ calls)) ≡ some (after_all (map_step (capacity lent)) empty (init ∷ calls)))
    × (length (after_all register_step lent (init ∷ calls)) ≡ length lent)
unfolding responses after_all map_step register_step
simulation_from_init lent calls h =
    let f = init_follows lent h in
    let next : Bytes = (init_of lent).after in
    let (r, a, l) = simulation next empty calls f.means in
    let c : capacity next ≡ capacity lent = same_capacity next lent f.long in
    (ap₂ (λ (x : Response) (xs : List Response). x ∷ xs) (ap answered f.number) (r ∙ ap (λ x. responses (map_step x) empty calls) c), a ∙ ap (λ x. some (after_all (map_step x) empty calls)) c, l ∙ f.long)

-- "so freed room is used again": after any stores and removals 17 asks for the lengths that are then kept, and for nothing else
pub room_after : (lent : Bytes) (m : Map) (calls : List Call) → register_of lent ≡ some m → (k : ℕ) (t : Bytes)
    → ((store_of (after_all register_step lent calls) k t).number ≡ FULL) ↔ ((is_table t ≡ true) × (capacity lent < total (set (after_all (map_step (capacity lent)) m calls) k t)))
room_after lent m calls e k t =
    let (r, a, l) = simulation lent m calls e in
    let now : Bytes = after_all register_step lent calls in
    let c : capacity now ≡ capacity lent = same_capacity now lent l in
    rw c at (full_exactly now (after_all (map_step (capacity lent)) m calls) a k t)

-- ---- any lent bytes

refused : (lent : Bytes) (o : Changed Bytes) → o ≡ record { number = REGISTER; after = lent } → (o.number ≡ REGISTER) × (o.after ≡ lent)
refused lent o f = (ap (λ (x : Changed Bytes). x.number) f, ap (λ (x : Changed Bytes). x.after) f)

-- where they mean no map: 18 and all stays, or it is starting empty
none_step : (lent : Bytes) → register_of lent ≡ none → (c : Call)
    → ((response_number (register_step lent c).response ≡ REGISTER) × ((register_step lent c).next ≡ lent)) ⊎ ((response_number (register_step lent c).response ≡ 0) × (register_of (register_step lent c).next ≡ some empty))
unfolding register_step response_number ended
none_step lent e init = ⊎_elim (λ h. let f = init_follows lent h in inr (f.number, f.means)) (λ h. inl (refused lent (init_of lent) (init_refused lent h))) (le_or_lt overhead (length lent))
none_step lent e (store k t) = inl (refused lent (store_of lent k t) (store_refused lent e k t))
none_step lent e (remove k) = inl (refused lent (remove_of lent k) (remove_refused lent e k))
none_step lent e (match k label scratch parts budget) = inl (ap (λ (o : MatchOutput). o.answer.number) (match_refused lent e k label scratch parts budget), refl)

module _ (lent : Bytes) (c : Call) where
  -- "Every call not refused with" 18 "leaves a good buffer"; 9 is of the calls from C (mpt/proofs/Good)
  pub good_after : ¬ (response_number (register_step lent c).response ≡ REGISTER) → (m : Map) × (register_of (register_step lent c).next ≡ some m)
  good_after n = go (register_of lent) refl
    where
      go : (o : Option Map) → register_of lent ≡ o → (m : Map) × (register_of (register_step lent c).next ≡ some m)
      go (some m) e = ((map_step (capacity lent) m c).next, (step_simulates lent m e c).means)
      go none e = ⊎_elim (λ (r, l). absurd (n r)) (λ (r, f). (empty, f)) (none_step lent e c)

  -- "Refusals change nothing in the register"
  pub refused_leaves : ¬ (response_number (register_step lent c).response ≡ 0) → (register_step lent c).next ≡ lent
  refused_leaves n = go (register_of lent) refl
    where
      go : (o : Option Map) → register_of lent ≡ o → (register_step lent c).next ≡ lent
      go (some m) e = (step_simulates lent m e c).refused_leaves n
      go none e = ⊎_elim (λ (r, l). l) (λ (r, f). absurd (n r)) (none_step lent e c)
