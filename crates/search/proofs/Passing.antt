-- A search past numbers that do not end it: what it counts, and what scratch comes to. Assumes nothing.
use mathlib.Core.Path.{◌≡◌, refl, sym, ap, ◌∙◌}
use mathlib.Core.Logic.{⊎_elim}
use mathlib.Core.Bool.{Bool, true, false, cond}
use mathlib.Core.List.{[], ◌∷◌}
use mathlib.Core.Option.{some}
use Prim.Native.Nat.{ℕ, zero, suc, ◌+◌, max, ◌≤◌, ◌<◌}
use native.Mathlib.Nat.{max_comm}
use native.Mathlib.Omega.{arith}
use lib.Dec.{eqb}
use lib.ListN.{length, take, drop, get_or-eq_default}
use Rattle.pattern.specs.Numbers.{label_limit}
use Rattle.pattern.specs.Bytes.{Bytes, zeroed}
use Rattle.pattern.specs.Syntax.{pattern, Syntax}
use Rattle.pattern.specs.Decode.{decode}
use Rattle.pattern.specs.Answers.{MatchOutput, scratch_needed, lent_fault, match_of}
use Rattle.pattern.proofs.Tests.{le_or_lt}
use Rattle.pattern.proofs.Stores.{length_zeroed, zeroed_twice}
use Rattle.pattern.proofs.Calls.{lent_fits, unsatisfied_no, Leaves, match_leaves}
use Rattle.register.specs.Maps.{Map, table_of}
use Rattle.register.specs.Layout.{allowed}
use Rattle.register.proofs.Maps.{AllAllowed, missing_tree, table_cases}
use Rattle.search.specs.Search.{unlimited, SearchOutput, search_refused, is_ruled_out, search_from}
use Rattle.search.specs.Found.{ruled_out_count, scratch_of, most_scratch, Passed}
use Rattle.search.proofs.Steps.{missing_none, step_none, step_missing, step_unsatisfied}

-- ---- lengths

-- scratch and parts keep theirs
pub record Lengths (scratch parts : Bytes) (o : SearchOutput) : Type 0 where
  pub same_scratch : length o.scratch ≡ length scratch
  pub same_parts : length o.parts ≡ length parts

-- those of a step, by its tests and what comes later
lengths_step : (k skipped : ℕ) (scratch parts : Bytes) (o : MatchOutput) → Leaves scratch parts o → (a b c : Bool) {x y : SearchOutput} → Lengths scratch parts x → Lengths o.scratch o.parts y
    → Lengths scratch parts (elim a [
      | true ↦ x
      | false ↦ elim b [
        | false ↦ search_refused o.answer.number k o.scratch o.parts
        | true ↦ elim c [
          | true ↦ record { number = 0; verdict = 1; at = k; skipped = skipped; scratch = o.scratch; parts = o.parts }
          | false ↦ y
        ]
      ]
    ])
unfolding search_refused
lengths_step k skipped scratch parts o left true b c f g = f
lengths_step k skipped scratch parts o left false false c f g = record { same_scratch = left.same_scratch; same_parts = left.same_parts }
lengths_step k skipped scratch parts o left false true true f g = record { same_scratch = left.same_scratch; same_parts = left.same_parts }
lengths_step k skipped scratch parts o left false true false f g = record { same_scratch = g.same_scratch ∙ left.same_scratch; same_parts = g.same_parts ∙ left.same_parts }

pub from_lengths : (label : Bytes) (m : Map) (k skipped : ℕ) (scratch parts : Bytes) → Lengths scratch parts (search_from k m label skipped scratch parts)
unfolding search_from
from_lengths label [] k skipped scratch parts = record { same_scratch = refl; same_parts = refl }
from_lengths label (t ∷ m) k skipped scratch parts =
    let o : MatchOutput = match_of t label scratch parts unlimited in
    let n : ℕ = skipped + cond (is_ruled_out t label) 1 0 in
    lengths_step k n scratch parts o (match_leaves t label scratch parts unlimited) (eqb (length t) 0) (eqb o.answer.number 0) (eqb o.answer.value 1)
    (from_lengths label m (suc k) skipped scratch parts) (from_lengths label m (suc k) n o.scratch o.parts)

-- ---- a table: what it uses, and what its summary says

module _ (t : Bytes) (p : Syntax pattern) (good : decode t ≡ some p) (label : Bytes) where
  pub scratch_is : scratch_of t label ≡ scratch_needed p (length label)
  unfolding scratch_of
  scratch_is = rw (scratch_of, good)

module _ (t : Bytes) (z : length t ≡ 0) (label : Bytes) where
  missing_scratch : scratch_of t label ≡ 0
  unfolding scratch_of
  missing_scratch = rw (scratch_of, missing_tree t z)

  missing_kept : is_ruled_out t label ≡ false
  unfolding is_ruled_out
  missing_kept = rw (is_ruled_out, missing_tree t z)

-- ---- the numbers before the last that is looked at

pub count_take : (m : Map) (label : Bytes) (k : ℕ) → k < length m
    → ruled_out_count (take (suc k) m) label ≡ ruled_out_count (take k m) label + cond (is_ruled_out (table_of m k) label) 1 0
unfolding ruled_out_count
count_take [] label k h = absurd (omega arith)
count_take (t ∷ m) label zero h = omega arith
count_take (t ∷ m) label (suc k) h = omega (arith, count_take m label k (omega arith))

pub most_take : (m : Map) (label : Bytes) (k : ℕ) → k < length m → most_scratch (take (suc k) m) label ≡ max (scratch_of (table_of m k) label) (most_scratch (take k m) label)
unfolding most_scratch
most_take [] label k h = absurd (omega arith)
most_take (t ∷ m) label zero h = refl
most_take (t ∷ m) label (suc k) h = omega (arith, most_take m label k (omega arith))

pub count_le : (m : Map) (label : Bytes) → ruled_out_count m label ≤ length m
unfolding ruled_out_count
count_le [] label = omega arith
count_le (t ∷ m) label = omega (arith, count_le m label, one (is_ruled_out t label))
  where
    one : (b : Bool) → cond b 1 0 ≤ 1
    one true = omega arith
    one false = omega arith

-- a number that has a pattern is in the map
pub kept_within : (m : Map) (k : ℕ) (p : Syntax pattern) → decode (table_of m k) ≡ some p → k < length m
kept_within m k p e =
    ⊎_elim (λ h. absurd (missing_none (table_of m k) (ap length (get_or-eq_default m [] h)) p e)) (λ h. h) (le_or_lt (length m) k)

module _ (label scratch parts : Bytes) (short : length label ≤ label_limit) where
  pub lent_same : (p : Syntax pattern) (s : Bytes) → length s ≡ length scratch → lent_fault p label s parts ≡ lent_fault p label scratch parts
  unfolding lent_fault
  lent_same p s e = rw e

  passed_scratch : (t : Bytes) → allowed t ≡ true → Passed label scratch parts t → scratch_of t label ≤ length scratch
  passed_scratch t a h =
      ⊎_elim (λ z. omega (arith, missing_scratch t z label))
      (λ (p, good). omega (arith, scratch_is t p good label, (lent_fits p label scratch parts (h.fits p good)).scratch_long)) (table_cases t a)

  -- past one number
  passes : (k : ℕ) (t : Bytes) (m : Map) (skipped : ℕ) (s : Bytes) → length s ≡ length scratch → allowed t ≡ true → Passed label scratch parts t
      → search_from k (t ∷ m) label skipped s parts ≡ search_from (suc k) m label (skipped + cond (is_ruled_out t label) 1 0) (zeroed (scratch_of t label) s) parts
  passes k t m skipped s e a h = ⊎_elim missing (λ (p, good). kept p good) (table_cases t a)
    where
      missing : length t ≡ 0 → search_from k (t ∷ m) label skipped s parts ≡ search_from (suc k) m label (skipped + cond (is_ruled_out t label) 1 0) (zeroed (scratch_of t label) s) parts
      missing z =
          let c : skipped ≡ skipped + 0 = omega arith in
          step_missing k t m label skipped s parts z
          ∙ ap (λ n. search_from (suc k) m label n s parts) c
          ∙ (λ i. search_from (suc k) m label (skipped + cond (sym (missing_kept t z label) i) 1 0) (zeroed (sym (missing_scratch t z label) i) s) parts)

      kept : (p : Syntax pattern) → decode t ≡ some p
          → search_from k (t ∷ m) label skipped s parts ≡ search_from (suc k) m label (skipped + cond (is_ruled_out t label) 1 0) (zeroed (scratch_of t label) s) parts
      kept p good =
          let f = lent_fits p label scratch parts (h.fits p good) in
          step_unsatisfied k t m label skipped s parts p good short (omega (arith, f.scratch_long)) f.parts_long (unsatisfied_no t p good label (h.unsatisfied p good))
          ∙ ap (λ n. search_from (suc k) m label (skipped + cond (is_ruled_out t label) 1 0) (zeroed n s) parts) (sym (scratch_is t p good label))

  -- past the first j
  pub passes_all : (j : ℕ) (m : Map) → AllAllowed m → ((i : ℕ) → i < j → Passed label scratch parts (table_of m i)) → (k skipped : ℕ) (s : Bytes) → length s ≡ length scratch
      → search_from k m label skipped s parts
      ≡ search_from (k + j) (drop j m) label (skipped + ruled_out_count (take j m) label) (zeroed (most_scratch (take j m) label) s) parts
  unfolding ruled_out_count most_scratch
  passes_all zero m a h k skipped s e =
      let x : k ≡ k + 0 = omega arith in
      let y : skipped ≡ skipped + 0 = omega arith in
      (λ i. search_from (x i) m label (y i) s parts)
  passes_all (suc j) [] a h k skipped s e =
      let y : skipped ≡ skipped + 0 = omega arith in
      step_none k label skipped s parts ∙ ap (λ n. record { number = 0; verdict = 0; at = 0; skipped = n; scratch = s; parts = parts }) y ∙ sym (step_none (k + suc j) label (skipped + 0) s parts)
  passes_all (suc j) (t ∷ m) a h k skipped s e =
      let u : ℕ = scratch_of t label in
      let w : ℕ = most_scratch (take j m) label in
      let c : ℕ = cond (is_ruled_out t label) 1 0 in
      let first = h 0 (omega arith) in
      let fits : u ≤ length s = omega (arith, passed_scratch t (a 0) first) in
      let x : suc k + j ≡ k + suc j = omega arith in
      let y : skipped + c + ruled_out_count (take j m) label ≡ skipped + (c + ruled_out_count (take j m) label) = omega arith in
      let z : zeroed w (zeroed u s) ≡ zeroed (max u w) s = zeroed_twice w u s fits ∙ ap (λ n. zeroed n s) (max_comm w u) in
      passes k t m skipped s e (a 0) first
      ∙ passes_all j m (λ i. a (suc i)) (λ i l. h (suc i) (omega arith)) (suc k) (skipped + c) (zeroed u s) (length_zeroed u s fits ∙ e)
      ∙ (λ i. search_from (x i) (drop j m) label (y i) (z i) parts)

  pub most_fits : (j : ℕ) (m : Map) → AllAllowed m → ((i : ℕ) → i < j → Passed label scratch parts (table_of m i)) → most_scratch (take j m) label ≤ length scratch
  unfolding most_scratch
  most_fits zero m a h = omega arith
  most_fits (suc j) [] a h = omega arith
  most_fits (suc j) (t ∷ m) a h = omega (arith, passed_scratch t (a 0) (h 0 (omega arith)), most_fits j m (λ i. a (suc i)) (λ i l. h (suc i) (omega arith)))
