-- What a search of a register answers and leaves, sentence by sentence of the request. Assumes nothing.
use mathlib.Core.Path.{◌≡◌, refl, sym, ap, subst, ◌∙◌}
use mathlib.Core.Logic.{◌⊎◌, inl, inr, ⊎_elim}
use mathlib.Core.Bool.{true, false}
use mathlib.Core.Option.{Option, none, some, none-ne-some}
use Prim.Native.Nat.{ℕ, suc, ◌≤◌, ◌<◌}
use native.Mathlib.Omega.{arith}
use lib.ListN.{length, take, length-take}
use Rattle.pattern.specs.Numbers.{label_limit, parts_room, LABEL, WORK, PARTS, REGISTER}
use Rattle.pattern.specs.Bytes.{Bytes}
use Rattle.pattern.specs.Syntax.{pattern, Syntax}
use Rattle.pattern.specs.Decode.{decode}
use Rattle.pattern.specs.Answers.{lent_fault}
use Rattle.pattern.proofs.Tests.{le_or_lt}
use Rattle.pattern.proofs.Rooms.{parts_fit, scratch_fits}
use Rattle.summary.proofs.RulingOut.{table_never_ruled_out}
use Rattle.register.specs.Maps.{numbers, Map, table_of}
use Rattle.register.specs.Layout.{allowed, register_of}
use Rattle.register.proofs.Meaning.{meant}
use Rattle.search.specs.Search.{SearchOutput, search_refused, is_ruled_out, search_from, search_of}
use Rattle.search.specs.Found.{Passed, FoundAt, Ends, Answers, Unsatisfied, Finds, Refuses, Bounded}
use Rattle.search.proofs.Steps.{fault_none, fault_number, search_bad, search_long, search_goes}
use Rattle.search.proofs.Passing.{from_lengths, count_le, kept_within}
use Rattle.search.proofs.Endings.{map_ends, answers, ending_cases}

module _ (lent label scratch parts : Bytes) where
  abbrev output : SearchOutput
  output = search_of lent label scratch parts

  -- ---- a good register and a label within the limit

  module _ (m : Map) (good : register_of lent ≡ some m) (short : length label ≤ label_limit) where
    each : (k : ℕ) → allowed (table_of m k) ≡ true
    each = (meant lent m good).proper.each

    -- all that is answered and left, ending by ending
    pub search_ends : Ends m label scratch parts output
    search_ends = subst (Ends m label scratch parts) (sym (search_goes lent label scratch parts m good short)) (map_ends label scratch parts short m each)

    -- and each ending from what is answered
    pub search_answers : Answers m label scratch parts output
    search_answers = subst (Answers m label scratch parts) (sym (search_goes lent label scratch parts m good short)) (answers label scratch parts short m each)

    -- with the sizes that always suffice it is not refused, and finds the lowest
    pub search_finds : 33_816_576 ≤ length scratch → parts_room ≤ length parts → Finds m label output
    unfolding search_refused
    search_finds s p =
        record {
          number = zero;
          yes = λ k. (
            λ (v, a). let (q, f) = (search_answers.yes k).0 (zero, v, a) in (q, record { kept = f.kept; satisfied = f.satisfied; below = λ j l. (f.lowest j l).unsatisfied }),
            λ (q, f). let (n, v, a) = (search_answers.yes k).1 (q, record { kept = f.kept; fits = enough k q f.kept; satisfied = f.satisfied; lowest = λ j l. passed j (f.below j l) }) in (v, a),
          );
          not_found = (λ v j. (search_answers.not_found.0 (zero, v) j).unsatisfied, λ h. (search_answers.not_found.1 (λ j. passed j (h j))).1);
        }
      where
        enough : (k : ℕ) (q : Syntax pattern) → decode (table_of m k) ≡ some q → lent_fault q label scratch parts ≡ none
        enough k q kept = fault_none q label scratch parts short (omega (arith, s, scratch_fits (table_of m k) q (length label) kept short)) (omega (arith, p, parts_fit (table_of m k) q kept))

        passed : (j : ℕ) → Unsatisfied m label j → Passed label scratch parts (table_of m j)
        passed j h = record { fits = enough j; unsatisfied = h }

        zero : output.number ≡ 0
        zero =
            ap (λ (o : SearchOutput). o.number) (search_goes lent label scratch parts m good short)
            ∙ ending_cases label scratch parts short m each (λ o. o.number ≡ 0) (λ k q ends f. refl) (λ h. refl)
            (λ number k q r. absurd (none-ne-some number (sym (enough k q r.kept) ∙ r.fault)))

    -- the pattern that is found is not among the skipped
    pub found_not_skipped : (k : ℕ) (p : Syntax pattern) → FoundAt m label scratch parts k p → is_ruled_out (table_of m k) label ≡ false
    unfolding is_ruled_out
    found_not_skipped k p f = rw (is_ruled_out, f.kept) (table_never_ruled_out (table_of m k) p f.kept label short f.satisfied)

    -- which numbers going through the map gives
    goes_number : ((search_from 0 m label 0 scratch parts).number ≡ 0) ⊎ ((search_from 0 m label 0 scratch parts).number ≡ WORK) ⊎ ((search_from 0 m label 0 scratch parts).number ≡ PARTS)
    unfolding search_refused
    goes_number =
        ending_cases label scratch parts short m each (λ o. (o.number ≡ 0) ⊎ (o.number ≡ WORK) ⊎ (o.number ≡ PARTS)) (λ k p ends f. inl refl) (λ h. inl refl)
        (λ number k p r. inr (fault_number (table_of m k) label scratch parts p r.kept short number r.fault))

    goes_bounded : Bounded scratch parts (search_from 0 m label 0 scratch parts)
    unfolding search_refused
    goes_bounded =
        let l = from_lengths label m 0 0 scratch parts in
        let n = (meant lent m good).proper.count in
        let number = ⊎_elim inl (⊎_elim (λ w. inr (inr (inl w))) (λ w. inr (inr (inr (inl w))))) goes_number in
        let (v, a, s) =
        ending_cases label scratch parts short m each (λ o. (o.verdict ≤ 1) × (o.at < numbers) × (o.skipped ≤ numbers))
        (λ k p ends f. (omega arith, omega (arith, n, kept_within m k p f.kept), omega (arith, n, count_le (take (suc k) m) label, length-take (suc k) m)))
        (λ h. (omega arith, omega arith, omega (arith, n, count_le m label)))
        (λ number k p r. (omega arith, omega (arith, n, kept_within m k p r.kept), omega arith)) in
        record { number = number; verdict = v; at = a; skipped = s; same_scratch = l.same_scratch; same_parts = l.same_parts }

  -- ---- every register and label

  -- whatever holds of 18, of 12 and of going through the numbers holds
  search_cases : (P : SearchOutput → Type 0)
      → (register_of lent ≡ none → P (search_refused REGISTER 0 scratch parts))
      → ((m : Map) → register_of lent ≡ some m → label_limit < length label → P (search_refused LABEL 0 scratch parts))
      → ((m : Map) → register_of lent ≡ some m → length label ≤ label_limit → P (search_from 0 m label 0 scratch parts))
      → P output
  search_cases P bad long goes = go (register_of lent) refl
    where
      go : (o : Option Map) → register_of lent ≡ o → P output
      go none e = subst P (sym (search_bad lent label scratch parts e)) (bad e)
      go (some m) e =
          ⊎_elim (λ h. subst P (sym (search_goes lent label scratch parts m e h)) (goes m e h)) (λ h. subst P (sym (search_long lent label scratch parts m e h)) (long m e h))
          (le_or_lt (length label) label_limit)

  pub search_refuses : Refuses lent label scratch parts output
  unfolding search_refused
  search_refuses = record {
    register = (
      search_cases (λ o. o.number ≡ REGISTER → register_of lent ≡ none) (λ e n. e) (λ m e h n. absurd (omega arith)) (λ m e h n. absurd (other m e h (inl n))),
      λ e. ap (λ (o : SearchOutput). o.number) (search_bad lent label scratch parts e),
    );
    long = (
      search_cases (λ o. o.number ≡ LABEL → (m : Map) × (register_of lent ≡ some m) × (label_limit < length label)) (λ e n. absurd (omega arith)) (λ m e h n. (m, e, h)) (λ m e h n. absurd (other m e h (inr n))),
      λ (m, e, h). ap (λ (o : SearchOutput). o.number) (search_long lent label scratch parts m e h),
    );
    untouched = search_cases (λ o. (o.number ≡ REGISTER) ⊎ (o.number ≡ LABEL) → o ≡ search_refused o.number 0 scratch parts) (λ e n. refl) (λ m e h n. refl) (λ m e h n. absurd (other m e h n));
  }
    where
      other : (m : Map) → register_of lent ≡ some m → length label ≤ label_limit → ¬ (((search_from 0 m label 0 scratch parts).number ≡ REGISTER) ⊎ ((search_from 0 m label 0 scratch parts).number ≡ LABEL))
      other m e h n =
          ⊎_elim (λ z. ⊎_elim (λ x. omega arith) (λ x. omega arith) n) (⊎_elim (λ z. ⊎_elim (λ x. omega arith) (λ x. omega arith) n) (λ z. ⊎_elim (λ x. omega arith) (λ x. omega arith) n)) (goes_number m e h)

  -- numbers that fit their places, and lengths as lent
  pub search_bounded : Bounded scratch parts output
  unfolding search_refused
  search_bounded =
      search_cases (Bounded scratch parts)
      (λ e. record { number = inr (inr (inr (inr refl))); verdict = omega arith; at = omega arith; skipped = omega arith; same_scratch = refl; same_parts = refl })
      (λ m e h. record { number = inr (inl refl); verdict = omega arith; at = omega arith; skipped = omega arith; same_scratch = refl; same_parts = refl })
      goes_bounded
