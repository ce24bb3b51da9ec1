-- The endings of a search of a map: what each answers and leaves, and that there is no other. Assumes nothing.
use mathlib.Core.Path.{◌≡◌, refl, sym, ap, subst, ◌∙◌}
use mathlib.Core.Logic.{◌⊎◌, inl, inr, ⊎_elim}
use mathlib.Core.Bool.{true}
use mathlib.Core.List.{List, [], ◌∷◌}
use mathlib.Core.Option.{Option, none, some}
use Prim.Native.Nat.{ℕ, zero, suc, ◌+◌, max, ◌≤◌, ◌<◌}
use native.Mathlib.Omega.{arith}
use lib.ListN.{length, take, drop}
use lib.Seq.{take-length, drop-length, drop-cons}
use Rattle.pattern.specs.Numbers.{label_limit}
use Rattle.pattern.specs.Bytes.{Bytes, overwrite, zeroed}
use Rattle.pattern.specs.Syntax.{pattern, Syntax}
use Rattle.pattern.specs.Meaning.{Satisfies}
use Rattle.pattern.specs.Parts.{IsVerdict, verdict}
use Rattle.pattern.specs.Decode.{decode}
use Rattle.pattern.specs.Answers.{scratch_needed, part_bytes, lent_fault}
use Rattle.pattern.proofs.Stores.{length_zeroed, zeroed_twice}
use Rattle.pattern.proofs.Longest.{yes_satisfies}
use Rattle.pattern.proofs.Calls.{lent_fits, verdict_right, satisfied_yes}
use Rattle.register.specs.Maps.{Map, table_of}
use Rattle.register.specs.Layout.{allowed}
use Rattle.register.proofs.Maps.{AllAllowed, table_cases}
use Rattle.search.specs.Search.{SearchOutput, search_refused, search_from}
use Rattle.search.specs.Found.{ruled_out_count, most_scratch, Passed, FoundAt, RefusedAt, NoneFound, found_output, none_output, refused_output, Ends, Answers}
use Rattle.search.proofs.Steps.{missing_none, fault_number, step_none, step_fault, step_satisfied}
use Rattle.search.proofs.Passing.{scratch_is, count_take, most_take, kept_within, lent_same, passes_all, most_fits}

module _ (label scratch parts : Bytes) (short : length label ≤ label_limit) where
  -- ---- each ending

  module _ (m : Map) (each : AllAllowed m) where
    -- past the numbers before k, which has a table
    comes_to : (k : ℕ) (p : Syntax pattern) → decode (table_of m k) ≡ some p → ((j : ℕ) → j < k → Passed label scratch parts (table_of m j))
        → search_from 0 m label 0 scratch parts
        ≡ search_from k (table_of m k ∷ drop (suc k) m) label (ruled_out_count (take k m) label) (zeroed (most_scratch (take k m) label) scratch) parts
    comes_to k p kept lowest =
        let z : (n : ℕ) → 0 + n ≡ n = λ n. omega arith in
        passes_all label scratch parts short k m each lowest 0 0 scratch refl
        ∙ (λ i. search_from (z k i) (drop-cons m k [] (kept_within m k p kept) i) label (z (ruled_out_count (take k m) label) i) (zeroed (most_scratch (take k m) label) scratch) parts)

    found_is : (k : ℕ) (p : Syntax pattern) → FoundAt m label scratch parts k p
        → (ends : List ℕ) × IsVerdict label p (some ends) × (search_from 0 m label 0 scratch parts ≡ found_output m label scratch parts k ends)
    found_is k p f =
        let (ends, v) = satisfied_yes (table_of m k) p f.kept label f.satisfied in
        let w : ℕ = most_scratch (take k m) label in
        let fits = most_fits label scratch parts short k m each f.lowest in
        let n = length_zeroed w scratch fits in
        let l = lent_fits p label scratch parts f.fits in
        let t : Bytes = table_of m k in
        let i = kept_within m k p f.kept in
        let y : zeroed (scratch_needed p (length label)) (zeroed w scratch) ≡ zeroed (most_scratch (take (suc k) m) label) scratch =
        zeroed_twice (scratch_needed p (length label)) w scratch fits ∙ ap (λ x. zeroed (max x w) scratch) (sym (scratch_is t p f.kept label)) ∙ ap (λ x. zeroed x scratch) (sym (most_take m label k i)) in (
          ends,
          rw v at (verdict_right t p f.kept label),
          comes_to k p f.kept f.lowest
              ∙ step_satisfied k t (drop (suc k) m) label (ruled_out_count (take k m) label) (zeroed w scratch) parts p f.kept short (omega (arith, l.scratch_long, n)) l.parts_long ends v
              ∙ (λ j. record { number = 0; verdict = 1; at = k; skipped = sym (count_take m label k i) j; scratch = y j; parts = overwrite (part_bytes ends) parts }),
        )

    -- a refusal is 13 or 14, so not 0
    refusal_some : (number k : ℕ) (p : Syntax pattern) → RefusedAt m label scratch parts number k p → ¬ (number ≡ 0)
    refusal_some number k p r z = ⊎_elim (λ e. omega arith) (λ e. omega arith) (fault_number (table_of m k) label scratch parts p r.kept short number r.fault)

    refused_is : (number k : ℕ) (p : Syntax pattern) → RefusedAt m label scratch parts number k p → search_from 0 m label 0 scratch parts ≡ refused_output m label scratch parts number k
    refused_is number k p r =
        let w : ℕ = most_scratch (take k m) label in
        let n = length_zeroed w scratch (most_fits label scratch parts short k m each r.lowest) in
        comes_to k p r.kept r.lowest
        ∙ step_fault k (table_of m k) (drop (suc k) m) label (ruled_out_count (take k m) label) (zeroed w scratch) parts p r.kept short number
        (lent_same label scratch parts short p (zeroed w scratch) n ∙ r.fault) (refusal_some number k p r)

    none_is : NoneFound m label scratch parts → search_from 0 m label 0 scratch parts ≡ none_output m label scratch parts
    none_is h =
        let z : (n : ℕ) → 0 + n ≡ n = λ n. omega arith in
        passes_all label scratch parts short (length m) m each (λ j l. h j) 0 0 scratch refl
        ∙ (λ i. search_from (0 + length m) (drop-length m i) label (z (ruled_out_count (take-length m i) label) i) (zeroed (most_scratch (take-length m i) label) scratch) parts)
        ∙ step_none (0 + length m) label (ruled_out_count m label) (zeroed (most_scratch m label) scratch) parts

  -- ---- there is no other

  -- what a table is to the search
  data Role (t : Bytes) : Type 0 where
    passed : Passed label scratch parts t → Role t
    matches : (p : Syntax pattern) → decode t ≡ some p → lent_fault p label scratch parts ≡ none → Satisfies p label → Role t
    refuses : (number : ℕ) (p : Syntax pattern) → decode t ≡ some p → lent_fault p label scratch parts ≡ some number → Role t

  missing_passed : (t : Bytes) → length t ≡ 0 → Passed label scratch parts t
  missing_passed t z = record { fits = λ p e. absurd (missing_none t z p e); unsatisfied = λ p e. absurd (missing_none t z p e) }

  role : (t : Bytes) → allowed t ≡ true → Role t
  role t a = ⊎_elim (λ z. passed (missing_passed t z)) (λ (p, good). lent p good (lent_fault p label scratch parts) refl) (table_cases t a)
    where
      tried : (p : Syntax pattern) → decode t ≡ some p → lent_fault p label scratch parts ≡ none → (v : Option (List ℕ)) → IsVerdict label p v → Role t
      tried p good f none n =
          unfold IsVerdict in
          passed (record {
            fits = λ q e. let s : some p ≡ some q = sym good ∙ e in let x : p ≡ q = cc in rw x at f;
            unsatisfied = λ q e. let s : some p ≡ some q = sym good ∙ e in let x : p ≡ q = cc in rw x at n;
          })
      tried p good f (some ends) y = matches p good f (yes_satisfies label p ends y)

      lent : (p : Syntax pattern) → decode t ≡ some p → (o : Option ℕ) → lent_fault p label scratch parts ≡ o → Role t
      lent p good none f = tried p good f (verdict label p) (verdict_right t p good label)
      lent p good (some number) f = refuses number p good f

  -- the three endings
  abbrev Ending : Map → Type 0
  Ending m =
      ((k : ℕ) × (p : Syntax pattern) × FoundAt m label scratch parts k p)
      ⊎ NoneFound m label scratch parts
      ⊎ ((number : ℕ) × (k : ℕ) × (p : Syntax pattern) × RefusedAt m label scratch parts number k p)

  -- one more before those that are passed
  passed_first : (t : Bytes) (m : Map) (k : ℕ) → Passed label scratch parts t → ((j : ℕ) → j < k → Passed label scratch parts (table_of m j))
      → (j : ℕ) → j < suc k → Passed label scratch parts (table_of (t ∷ m) j)
  passed_first t m k x h zero l = x
  passed_first t m k x h (suc j) l = h j (omega arith)

  passed_all : (t : Bytes) (m : Map) → Passed label scratch parts t → NoneFound m label scratch parts → NoneFound (t ∷ m) label scratch parts
  passed_all t m x h zero = x
  passed_all t m x h (suc j) = h j

  one_ending : (m : Map) → AllAllowed m → Ending m
  one_ending [] a = inr (inl (λ j. missing_passed [] refl))
  one_ending (t ∷ m) a = go (one_ending m (λ k. a (suc k))) (role t (a 0))
    where
      go : Ending m → Role t → Ending (t ∷ m)
      go rest (matches p good f s) = inl (0, p, record { kept = good; fits = f; satisfied = s; lowest = λ j l. absurd (omega arith) })
      go rest (refuses number p good f) = inr (inr (number, 0, p, record { kept = good; fault = f; lowest = λ j l. absurd (omega arith) }))
      go rest (passed x) =
          ⊎_elim (λ (k, p, f). inl (suc k, p, record { kept = f.kept; fits = f.fits; satisfied = f.satisfied; lowest = passed_first t m k x f.lowest }))
          (⊎_elim (λ h. inr (inl (passed_all t m x h)))
          (λ (number, k, p, r). inr (inr (number, suc k, p, record { kept = r.kept; fault = r.fault; lowest = passed_first t m k x r.lowest }))))
          rest

  -- so each answer is given exactly where its ending is
  module _ (m : Map) (each : AllAllowed m) where
    abbrev o : SearchOutput
    o = search_from 0 m label 0 scratch parts

    pub map_ends : Ends m label scratch parts o
    map_ends = record { one = one_ending m each; found = found_is m each; not_found = none_is m each; refused = refused_is m each }

    found_shows : (k : ℕ) (p : Syntax pattern) → FoundAt m label scratch parts k p → (o.number ≡ 0) × (o.verdict ≡ 1) × (o.at ≡ k)
    found_shows k p f = let (x, v, e) = found_is m each k p f in (ap (λ (y : SearchOutput). y.number) e, ap (λ (y : SearchOutput). y.verdict) e, ap (λ (y : SearchOutput). y.at) e)

    none_shows : NoneFound m label scratch parts → (o.number ≡ 0) × (o.verdict ≡ 0)
    none_shows h = let e = none_is m each h in (ap (λ (y : SearchOutput). y.number) e, ap (λ (y : SearchOutput). y.verdict) e)

    refused_shows : (number k : ℕ) (p : Syntax pattern) → RefusedAt m label scratch parts number k p → (o.number ≡ number) × ¬ (number ≡ 0) × (o.at ≡ k)
    unfolding search_refused
    refused_shows number k p r =
        let e = refused_is m each number k p r in
        (ap (λ (y : SearchOutput). y.number) e, refusal_some m each number k p r, ap (λ (y : SearchOutput). y.at) e)

    pub answers : Answers m label scratch parts o
    answers =
        record {
          yes = λ k. (λ (n, v, a). found k n v a, λ (p, f). found_shows k p f);
          not_found = (λ (n, v). nothing n v, none_shows);
          refused = λ number k. (λ (n, z, a). refused number k n z a, λ (p, r). refused_shows number k p r);
        }
      where
        found : (k : ℕ) → o.number ≡ 0 → o.verdict ≡ 1 → o.at ≡ k → (p : Syntax pattern) × FoundAt m label scratch parts k p
        found k n v a =
            ⊎_elim (λ (j, p, f). let (x, y, z) = found_shows j p f in let e : j ≡ k = omega arith in (p, rw e at f))
            (⊎_elim (λ h. let (x, y) = none_shows h in absurd (omega arith)) (λ (number, j, p, r). let (x, y, z) = refused_shows number j p r in absurd (y (omega arith))))
            (one_ending m each)

        nothing : o.number ≡ 0 → o.verdict ≡ 0 → NoneFound m label scratch parts
        nothing n v =
            ⊎_elim (λ (j, p, f). let (x, y, z) = found_shows j p f in absurd (omega arith))
            (⊎_elim (λ h. h) (λ (number, j, p, r). let (x, y, z) = refused_shows number j p r in absurd (y (omega arith))))
            (one_ending m each)

        refused : (number k : ℕ) → o.number ≡ number → ¬ (number ≡ 0) → o.at ≡ k → (p : Syntax pattern) × RefusedAt m label scratch parts number k p
        refused number k n z a =
            ⊎_elim (λ (j, p, f). let (x, y, w) = found_shows j p f in absurd (z (omega arith)))
            (⊎_elim (λ h. let (x, y) = none_shows h in absurd (z (omega arith)))
            (λ (l, j, p, r). let (x, y, w) = refused_shows l j p r in let e : j ≡ k = omega arith in let d : l ≡ number = omega arith in (p, rw (e, d) at r)))
            (one_ending m each)

    -- whatever holds of every ending holds
    pub ending_cases : (P : SearchOutput → Type 0)
        → ((k : ℕ) (p : Syntax pattern) (ends : List ℕ) → FoundAt m label scratch parts k p → P (found_output m label scratch parts k ends))
        → (NoneFound m label scratch parts → P (none_output m label scratch parts))
        → ((number k : ℕ) (p : Syntax pattern) → RefusedAt m label scratch parts number k p → P (refused_output m label scratch parts number k))
        → P o
    ending_cases P found nothing refused =
        ⊎_elim (λ (k, p, f). let (x, v, e) = found_is m each k p f in subst P (sym e) (found k p x f))
        (⊎_elim (λ h. subst P (sym (none_is m each h)) (nothing h)) (λ (number, k, p, r). subst P (sym (refused_is m each number k p r)) (refused number k p r)))
        (one_ending m each)
