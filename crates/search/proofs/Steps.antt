-- A search step by step: what it does with the first number, case by case. Assumes nothing.
use mathlib.Core.Path.{◌≡◌, refl, sym, ap, subst, ◌∙◌}
use mathlib.Core.Logic.{◌⊎◌, inl, inr, ⊎_elim}
use mathlib.Core.Bool.{Bool, true, false, cond}
use mathlib.Core.List.{List, [], ◌∷◌}
use mathlib.Core.Option.{Option, none, some, none-ne-some}
use Prim.Native.Nat.{ℕ, suc, ◌+◌, ◌*◌, ◌≤◌, ◌<◌}
use native.Mathlib.Omega.{arith}
use lib.Dec.{eqb}
use lib.ListN.{length}
use borrow.Author.Tests.{lt-ltb, le-ltb, eq-eqb, ne_eqb}
use Rattle.std.specs.Prelude.{Result, Ok, Err}
use Rattle.std.specs.Result.{MatchResult, IsErrAnd}
use Rattle.std.proofs.lemmas.Result.{err_from_is_err_and}
use Rattle.pattern.specs.Numbers.{label_limit, LABEL, WORK, PARTS, BUDGET, REGISTER}
use Rattle.pattern.specs.Bytes.{Bytes, overwrite, zeroed}
use Rattle.pattern.specs.Syntax.{pattern, Syntax, top_size}
use Rattle.pattern.specs.Parts.{verdict}
use Rattle.pattern.specs.Trials.{trials}
use Rattle.pattern.specs.Scan.{refuse}
use Rattle.pattern.specs.Decode.{decode}
use Rattle.pattern.specs.Answers.{MatchOutput, scratch_needed, part_bytes, lent_fault, untried, decided, ended, ending, match_ending, match_of}
use Rattle.pattern.proofs.Tests.{le_or_lt, if_true, if_false}
use Rattle.pattern.proofs.Calls.{good_limited, within_budget, verdict_exactly, trials_fit}
use Rattle.summary.specs.Summary.{rules_out, summary_of}
use Rattle.summary.proofs.RulingOut.{ruled_out_verdict}
use Rattle.register.specs.Maps.{Map}
use Rattle.register.specs.Layout.{register_of}
use Rattle.register.proofs.Maps.{missing_tree}
use Rattle.search.specs.Search.{unlimited, search_refused, is_ruled_out, search_from, search_of}

-- ---- a match of a good table with unlimited budget

-- no bytes are no good table
pub missing_none : (t : Bytes) → length t ≡ 0 → (p : Syntax pattern) → ¬ (decode t ≡ some p)
missing_none t z p e = none-ne-some p (sym (missing_tree t z) ∙ e)

-- what is lent, by its lengths
pub fault_label : (p : Syntax pattern) (label scratch parts : Bytes) → label_limit < length label → lent_fault p label scratch parts ≡ some LABEL
unfolding lent_fault refuse
fault_label p label scratch parts h = rw (lt-ltb label_limit (length label) h)

module _ (p : Syntax pattern) (label scratch parts : Bytes) (short : length label ≤ label_limit) where
  pub fault_work : length scratch < scratch_needed p (length label) → lent_fault p label scratch parts ≡ some WORK
  unfolding lent_fault refuse
  fault_work h = rw (le-ltb label_limit (length label) short, lt-ltb (length scratch) (scratch_needed p (length label)) h)

  module _ (room : scratch_needed p (length label) ≤ length scratch) where
    pub fault_parts : length parts < 2 * top_size p → lent_fault p label scratch parts ≡ some PARTS
    unfolding lent_fault refuse
    fault_parts h = rw (le-ltb label_limit (length label) short, le-ltb (length scratch) (scratch_needed p (length label)) room, lt-ltb (length parts) (2 * top_size p) h)

    pub fault_none : 2 * top_size p ≤ length parts → lent_fault p label scratch parts ≡ none
    unfolding lent_fault refuse
    fault_none h = rw (le-ltb label_limit (length label) short, le-ltb (length scratch) (scratch_needed p (length label)) room, le-ltb (length parts) (2 * top_size p) h)

  -- whatever holds in each case holds
  pub fault_cases : (P : Option ℕ → Type 0)
      → (length scratch < scratch_needed p (length label) → P (some WORK))
      → (scratch_needed p (length label) ≤ length scratch → length parts < 2 * top_size p → P (some PARTS))
      → (scratch_needed p (length label) ≤ length scratch → 2 * top_size p ≤ length parts → P none)
      → P (lent_fault p label scratch parts)
  fault_cases P narrow few fits =
      ⊎_elim (λ r. ⊎_elim (λ h. subst P (sym (fault_none r h)) (fits r h)) (λ h. subst P (sym (fault_parts r h)) (few r h)) (le_or_lt (2 * top_size p) (length parts)))
      (λ h. subst P (sym (fault_work h)) (narrow h)) (le_or_lt (scratch_needed p (length label)) (length scratch))

module _ (t label scratch parts : Bytes) (p : Syntax pattern) (good : decode t ≡ some p) where
  -- a fault of what is lent ends it
  pub match_fault : (n budget : ℕ) → lent_fault p label scratch parts ≡ some n → match_of t label scratch parts budget ≡ ended (untried n) scratch parts
  unfolding match_of match_ending ending
  match_fault n budget f = rw (good, f)

  module _ (short : length label ≤ label_limit) where
    -- no count of trials exceeds the budget
    pub never_exhausted : trials label p ≤ unlimited
    never_exhausted = let (a, b) = trials_fit label p short (good_limited t p good) in omega (arith, a, b)

    -- so what fits gets a verdict
    pub match_decided : lent_fault p label scratch parts ≡ none → match_of t label scratch parts unlimited ≡ ended (decided (scratch_needed p (length label)) (trials label p) (verdict label p)) scratch parts
    match_decided f = within_budget t label scratch parts p good f unlimited never_exhausted

    -- a fault of what is lent is 13 or 14
    pub fault_number : (n : ℕ) → lent_fault p label scratch parts ≡ some n → (n ≡ WORK) ⊎ (n ≡ PARTS)
    fault_number n =
        fault_cases p label scratch parts short (λ o. o ≡ some n → (n ≡ WORK) ⊎ (n ≡ PARTS))
        (λ h e. inl cc) (λ r h e. inr cc) (λ r h e. absurd (none-ne-some n e))

    -- so the number is 0, 13 or 14
    pub match_numbers : let n : ℕ = (match_of t label scratch parts unlimited).answer.number in (n ≡ 0) ⊎ (n ≡ WORK) ⊎ (n ≡ PARTS)
    unfolding ended
    match_numbers = go (lent_fault p label scratch parts) refl
      where
        go : (o : Option ℕ) → lent_fault p label scratch parts ≡ o → let n : ℕ = (match_of t label scratch parts unlimited).answer.number in (n ≡ 0) ⊎ (n ≡ WORK) ⊎ (n ≡ PARTS)
        go none f = inl ((verdict_exactly t label scratch parts p good f unlimited).1 never_exhausted)
        go (some n) f = let e = ap (λ (x : MatchOutput). x.answer.number) (match_fault n unlimited f) in ⊎_elim (λ h. inr (inl (e ∙ h))) (λ h. inr (inr (e ∙ h))) (fault_number n f)

  -- so never 15, whatever the label
  pub never_budget : ¬ ((match_of t label scratch parts unlimited).answer.number ≡ BUDGET)
  unfolding ended
  never_budget z =
      ⊎_elim (λ h. ⊎_elim (λ e. omega arith) (⊎_elim (λ e. omega arith) (λ e. omega arith)) (match_numbers h))
      (λ h. let e = ap (λ (x : MatchOutput). x.answer.number) (match_fault LABEL unlimited (fault_label p label scratch parts h)) in omega arith) (le_or_lt (length label) label_limit)

-- ---- the first number

-- after the last
pub step_none : (k : ℕ) (label : Bytes) (skipped : ℕ) (scratch parts : Bytes)
    → search_from k [] label skipped scratch parts ≡ record { number = 0; verdict = 0; at = 0; skipped = skipped; scratch = scratch; parts = parts }
unfolding search_from
step_none k label skipped scratch parts = refl

module _ (k : ℕ) (t : Bytes) (m : Map) (label : Bytes) (skipped : ℕ) (scratch parts : Bytes) where
  -- none is kept under it
  pub step_missing : length t ≡ 0 → search_from k (t ∷ m) label skipped scratch parts ≡ search_from (suc k) m label skipped scratch parts
  unfolding search_from
  step_missing e = if_true _ _ _ (eq-eqb _ _ e)

  abbrev output : MatchOutput
  output = match_of t label scratch parts unlimited

  abbrev passed_over : ℕ
  passed_over = skipped + cond (is_ruled_out t label) 1 0

  module _ (p : Syntax pattern) (good : decode t ≡ some p) where
    present : eqb (length t) 0 ≡ false
    present = ne_eqb (length t) 0 (λ e. missing_none t e p good)

    -- by what an ordinary call answers
    pub step_refused : (o : MatchOutput) → o ≡ output → ¬ (o.answer.number ≡ 0) → search_from k (t ∷ m) label skipped scratch parts ≡ search_refused o.answer.number k o.scratch o.parts
    unfolding search_from
    step_refused o e n =
        if_false _ _ _ present ∙ if_false _ _ _ (ne_eqb output.answer.number 0 (λ z. n (ap (λ (x : MatchOutput). x.answer.number) e ∙ z)))
        ∙ ap (λ (x : MatchOutput). search_refused x.answer.number k x.scratch x.parts) (sym e)

    step_yes : output.answer.number ≡ 0 → output.answer.value ≡ 1
        → search_from k (t ∷ m) label skipped scratch parts ≡ record { number = 0; verdict = 1; at = k; skipped = passed_over; scratch = output.scratch; parts = output.parts }
    unfolding search_from
    step_yes n v = if_false _ _ _ present ∙ if_true _ _ _ (eq-eqb _ _ n) ∙ if_true _ _ _ (eq-eqb _ _ v)

    step_no : output.answer.number ≡ 0 → output.answer.value ≡ 0
        → search_from k (t ∷ m) label skipped scratch parts ≡ search_from (suc k) m label passed_over output.scratch output.parts
    unfolding search_from
    step_no n v = if_false _ _ _ present ∙ if_true _ _ _ (eq-eqb _ _ n) ∙ if_false _ _ _ (ne_eqb output.answer.value 1 (λ z. omega arith))

    -- what its summary says
    ruled_out : is_ruled_out t label ≡ rules_out (summary_of p) label
    unfolding is_ruled_out
    ruled_out = rw (is_ruled_out, good)

    counted : (b : Bool) → rules_out (summary_of p) label ≡ b → passed_over ≡ skipped + cond b 1 0
    counted b e = ap (λ c. skipped + cond c 1 0) (ruled_out ∙ e)

    -- not ruled out
    module _ (kept : rules_out (summary_of p) label ≡ false) (o : MatchOutput) (e : o ≡ output) (n : o.answer.number ≡ 0) where
      same_count : passed_over ≡ skipped
      same_count = counted false kept ∙ omega arith

      number_zero : output.answer.number ≡ 0
      number_zero = ap (λ (x : MatchOutput). x.answer.number) (sym e) ∙ n

      pub step_found : o.answer.value ≡ 1
          → search_from k (t ∷ m) label skipped scratch parts ≡ record { number = 0; verdict = 1; at = k; skipped = skipped; scratch = o.scratch; parts = o.parts }
      step_found v =
          step_yes number_zero (ap (λ (x : MatchOutput). x.answer.value) (sym e) ∙ v)
          ∙ (λ i. record { number = 0; verdict = 1; at = k; skipped = same_count i; scratch = (sym e i).scratch; parts = (sym e i).parts })

      pub step_passed : o.answer.value ≡ 0 → search_from k (t ∷ m) label skipped scratch parts ≡ search_from (suc k) m label skipped o.scratch o.parts
      step_passed v =
          step_no number_zero (ap (λ (x : MatchOutput). x.answer.value) (sym e) ∙ v)
          ∙ (λ i. search_from (suc k) m label (same_count i) (sym e i).scratch (sym e i).parts)

    module _ (short : length label ≤ label_limit) where
      -- by the lengths of what is lent
      pub step_fault : (n : ℕ) → lent_fault p label scratch parts ≡ some n → ¬ (n ≡ 0) → search_from k (t ∷ m) label skipped scratch parts ≡ search_refused n k scratch parts
      unfolding ended
      step_fault n f z = step_refused (ended (untried n) scratch parts) (sym (match_fault t label scratch parts p good n unlimited f)) z

      pub step_work : length scratch < scratch_needed p (length label) → search_from k (t ∷ m) label skipped scratch parts ≡ search_refused WORK k scratch parts
      step_work h = step_fault WORK (fault_work p label scratch parts short h) (λ e. omega arith)

      module _ (room : scratch_needed p (length label) ≤ length scratch) where
        pub step_parts : length parts < 2 * top_size p → search_from k (t ∷ m) label skipped scratch parts ≡ search_refused PARTS k scratch parts
        step_parts h = step_fault PARTS (fault_parts p label scratch parts short room h) (λ e. omega arith)

        decided_as : 2 * top_size p ≤ length parts → (v : Option (List ℕ)) → verdict label p ≡ v → output ≡ ended (decided (scratch_needed p (length label)) (trials label p) v) scratch parts
        decided_as h v e =
            match_decided t label scratch parts p good short (fault_none p label scratch parts short room h) ∙ ap (λ x. ended (decided (scratch_needed p (length label)) (trials label p) x) scratch parts) e

        -- a verdict, ruled out or not
        pub step_satisfied : 2 * top_size p ≤ length parts → (ends : List ℕ) → verdict label p ≡ some ends
            → search_from k (t ∷ m) label skipped scratch parts
            ≡ record { number = 0; verdict = 1; at = k; skipped = passed_over; scratch = zeroed (scratch_needed p (length label)) scratch; parts = overwrite (part_bytes ends) parts }
        unfolding ended
        step_satisfied h ends v =
            let e = decided_as h (some ends) v in
            step_yes (ap (λ (x : MatchOutput). x.answer.number) e) (ap (λ (x : MatchOutput). x.answer.value) e)
            ∙ (λ i. record { number = 0; verdict = 1; at = k; skipped = passed_over; scratch = (e i).scratch; parts = (e i).parts })

        pub step_unsatisfied : 2 * top_size p ≤ length parts → verdict label p ≡ none
            → search_from k (t ∷ m) label skipped scratch parts ≡ search_from (suc k) m label passed_over (zeroed (scratch_needed p (length label)) scratch) parts
        unfolding ended
        step_unsatisfied h v =
            let e = decided_as h none v in
            step_no (ap (λ (x : MatchOutput). x.answer.number) e) (ap (λ (x : MatchOutput). x.answer.value) e)
            ∙ ap (λ (x : MatchOutput). search_from (suc k) m label passed_over x.scratch x.parts) e

        -- ruled out by the summary
        pub step_skipped : 2 * top_size p ≤ length parts → rules_out (summary_of p) label ≡ true
            → search_from k (t ∷ m) label skipped scratch parts ≡ search_from (suc k) m label (suc skipped) (zeroed (scratch_needed p (length label)) scratch) parts
        step_skipped h out =
            let c : skipped + 1 ≡ suc skipped = omega arith in
            step_unsatisfied h (ruled_out_verdict t p good label short out)
            ∙ ap (λ n. search_from (suc k) m label n (zeroed (scratch_needed p (length label)) scratch) parts) (counted true out ∙ c)

-- ---- the whole search

module _ (lent label scratch parts : Bytes) where
  pub search_bad : register_of lent ≡ none → search_of lent label scratch parts ≡ search_refused REGISTER 0 scratch parts
  unfolding search_of
  search_bad e = rw (search_of, e)

  module _ (m : Map) (good : register_of lent ≡ some m) where
    pub search_long : label_limit < length label → search_of lent label scratch parts ≡ search_refused LABEL 0 scratch parts
    unfolding search_of
    search_long h = rw (search_of, good, lt-ltb label_limit (length label) h)

    pub search_goes : length label ≤ label_limit → search_of lent label scratch parts ≡ search_from 0 m label 0 scratch parts
    unfolding search_of
    search_goes h = rw (search_of, good, le-ltb label_limit (length label) h)

-- what a result was before its error was mapped
pub ok_before : {V E D : Type 0} (P : E → D → Type 0) (r : Result V E) (q : Result V D) {x : V} → MatchResult r (λ y. q ≡ Ok y) (λ e. IsErrAnd q (P e)) → q ≡ Ok x → r ≡ Ok x
ok_before P (Ok y) q m h = ok_same (sym m ∙ h)
  where
    ok_same : {V E D : Type 0} {x y : V} → ◌≡◌ {A = Result V D} (Ok y) (Ok x) → ◌≡◌ {A = Result V E} (Ok y) (Ok x)
    ok_same e = cc
ok_before P (Err e) q m h = let (d, g, p) = err_from_is_err_and q m in cc

pub err_before : {V E D : Type 0} (P : E → D → Type 0) (r : Result V E) (q : Result V D) {d : D} → MatchResult r (λ y. q ≡ Ok y) (λ e. IsErrAnd q (P e)) → q ≡ Err d → (e : E) × (r ≡ Err e) × P e d
err_before P (Ok y) q m h = absurd cc
err_before P (Err e) q {d} m h = let (x, g, p) = err_from_is_err_and q m in let same : x ≡ d = cc in (e, refl, subst (P e) same p)
