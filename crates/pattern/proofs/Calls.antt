-- What the owner's demands say of compiling, writing back and matching. Assumes nothing.
use mathlib.Core.Path.{◌≡◌, refl, sym, ap, subst, ◌∙◌}
use mathlib.Core.Logic.{◌↔◌, ◌⊎◌, inl, inr, ⊎_elim}
use mathlib.Core.Bool.{Bool, true, false}
use mathlib.Core.List.{List}
use mathlib.Core.Option.{Option, none, some}
use Prim.Native.Nat.{ℕ, suc, ◌+◌, ◌*◌, ◌^◌, ◌≤◌, ◌<◌}
use native.Mathlib.Nat.{mul-le-mul}
use native.Mathlib.Omega.{arith}
use lib.Dec.{T, leb, leb→le}
use lib.ListN.{length}
use lib.Seq.{take-append_seam}
use borrow.Author.Tests.{le-leb, lt-leb, leb-true, leb-false, lt-ltb, le-ltb}
use Rattle.pattern.specs.Numbers.{source_limit, atom_limit, label_limit, LONG, DEPTH, ROOM, TABLE, LABEL, WORK, PARTS, BUDGET}
use Rattle.pattern.specs.Versions.{Version, written_version}
use Rattle.pattern.specs.Bytes.{Bytes, overwrite, zeroed}
use Rattle.pattern.specs.Syntax.{Sort, pattern, Syntax, last, then, repeat, codes, literal, group, only, or, size, top_size}
use Rattle.pattern.specs.Meaning.{Satisfies}
use Rattle.pattern.specs.Parts.{IsVerdict, verdict}
use Rattle.pattern.specs.Trials.{trials, trial_bound}
use Rattle.pattern.specs.Grammar.{Derives}
use Rattle.pattern.specs.Scan.{refuse, Outcome, refused, accepted, outcome}
use Rattle.pattern.specs.Within.{Ordered, InLimits, Limited}
use Rattle.pattern.specs.Faults.{rows_at, Applies, Least}
use Rattle.pattern.specs.Print.{print}
use Rattle.pattern.specs.Table.{encode}
use Rattle.pattern.specs.Decode.{version_of, decode, Compiles}
use Rattle.pattern.specs.Answers.{Answer, refusal, result, put_if, put, compiled, compile_of, written_back, write_of, MatchOutput, scratch_needed, part_bytes, lent_fault, Ending, untried, exhausted, decided, ended, ending, match_ending, match_of, result_bytes, MatchNumber, Untouched, shown}
use Rattle.pattern.proofs.Tests.{le_or_lt, not_less, if_true, if_false}
use Rattle.pattern.proofs.Stores.{length_overwrite, length_zeroed}
use Rattle.pattern.proofs.Longest.{verdict_is, yes_satisfies, verdict_length, part_bytes_length}
use Rattle.pattern.proofs.Bound.{bound}
use Rattle.pattern.proofs.Accepted.{accepted_exactly}
use Rattle.pattern.proofs.TableRows.{refuse_applies, refuse_none, row_number}
use Rattle.pattern.proofs.Least.{refused_exactly}
use Rattle.pattern.proofs.Shortest.{shortest, good_tree}
use Rattle.pattern.proofs.RoundTrip.{compiles_accepted, compiles_version, accepted_compiles, good_exactly}

-- the counts of a tree within the limits are in order
pub good_ordered : {s : Sort} (d : ℕ) (x : Syntax s) → InLimits d x → Ordered x
unfolding InLimits Ordered
good_ordered d (last a) g = good_ordered d a g
good_ordered d (then a p) (g, k) = (good_ordered d a g, good_ordered d p k)
good_ordered d (repeat low high b) ((x, y, z), k) = (z, good_ordered d b k)
good_ordered d (codes set) g = tt
good_ordered d (literal value) g = tt
good_ordered d (group bs) (x, k) = good_ordered (suc d) bs k
good_ordered d (only p) g = good_ordered d p g
good_ordered d (or p bs) (g, k) = (good_ordered d p g, good_ordered d bs k)

-- ---- the tree of a good table

module _ (table : Bytes) (t : Syntax pattern) (good : decode table ≡ some t) where
  -- its printed source is accepted with it
  pub print_accepted : outcome (print t) ≡ accepted t
  print_accepted = let (v, source, c) = (good_exactly table t).0 good in (good_tree t).0 (source, compiles_accepted c)

  -- so its tree is within the limits
  pub good_limited : Limited t
  good_limited = let (n, h, g) = (accepted_exactly (print t) t).0 print_accepted in g

  -- that source compiles to the table in the version that the table names
  pub print_compiles : Compiles (version_of table) (print t) t table
  print_compiles =
      let (v, source, c) = (good_exactly table t).0 good in
      let (n, h, g) = (accepted_exactly (print t) t).0 print_accepted in
      rw (compiles_version c) (record { derives = h; within = g.tree; short = omega (arith, shortest 0 t source c.within c.derives, c.short); few = c.few; whole = c.whole })

  -- the table that its tree compiles to is good too, with the same tree
  pub renewed : decode (encode t) ≡ some t
  renewed = (good_exactly (encode t) t).1 (written_version, print t, accepted_compiles (print t) t print_accepted)

  -- and is the table itself, if that is of the version that is written
  pub encode_same : version_of table ≡ written_version → encode t ≡ table
  encode_same e = rw e at print_compiles.whole

  -- no source that compiles to the table is shorter than its printed one
  pub print_shortest : (v : Version) (source : Bytes) (u : Syntax pattern) → Compiles v source u table → length (print t) ≤ length source
  print_shortest v source u c =
      let d : decode table ≡ some u = (good_exactly table u).1 (v, source, c) in
      let e : u ≡ t = cc in
      rw e at (shortest 0 u source c.within c.derives)

  -- demand 2: the verdict is yes just when the partition exists, and the parts are the longest_first one
  pub verdict_right : (label : Bytes) → IsVerdict label t (verdict label t)
  verdict_right label =
      verdict_is label t (good_ordered 0 t print_compiles.within)

  -- so a label gets no just where it does not satisfy the pattern
  pub unsatisfied_no : (label : Bytes) → ¬ Satisfies t label → verdict label t ≡ none
  unfolding IsVerdict
  unsatisfied_no label n = go (verdict label t) (verdict_right label)
    where
      go : (v : Option (List ℕ)) → IsVerdict label t v → v ≡ none
      go none w = refl
      go (some ends) w = absurd (n (yes_satisfies label t ends w))

  pub satisfied_yes : (label : Bytes) → Satisfies t label → (ends : List ℕ) × (verdict label t ≡ some ends)
  unfolding IsVerdict
  satisfied_yes label s = go (verdict label t) (verdict_right label)
    where
      go : (v : Option (List ℕ)) → IsVerdict label t v → (ends : List ℕ) × (v ≡ some ends)
      go none w = absurd (w s)
      go (some ends) w = (ends, refl)

-- ---- writing back

-- a result in lent bytes that are long enough, and in others
pub put_fits : (position : ℕ) (x lent : Bytes) → length x ≤ length lent → put position x lent ≡ record { answer = result (length x) 0; bytes = overwrite x lent }
unfolding put put_if
put_fits position x lent h = ap (λ b. put_if b position x lent) (le-leb _ _ h)

pub put_short : (position : ℕ) (x lent : Bytes) → length lent < length x → put position x lent ≡ record { answer = refusal ROOM position; bytes = lent }
unfolding put put_if
put_short position x lent h = ap (λ b. put_if b position x lent) (lt-leb _ _ h)

put_written : (b : Bool) (position : ℕ) (x lent : Bytes) → (put_if b position x lent).answer.number ≡ 0 → result_bytes (put_if b position x lent) ≡ x
unfolding put_if overwrite
put_written true position x lent e = take-append_seam x _
put_written false position x lent e = absurd (omega arith)

write_printed : (o : Option (Syntax pattern)) (source : Bytes) → (written_back o source).answer.number ≡ 0 → (t : Syntax pattern) × (o ≡ some t) × (result_bytes (written_back o source) ≡ print t)
unfolding written_back put
write_printed none source e = absurd (omega arith)
write_printed (some t) source e = (t, refl, put_written _ 0 (print t) source e)

-- demand 2, as 02 amends it: the source that is written back compiles to the version 2 table of the same pattern
pub write_compile : (table source room : Bytes) (t : Syntax pattern) → decode table ≡ some t → (write_of table source).answer.number ≡ 0 → length (encode t) ≤ length room
    → compile_of (result_bytes (write_of table source)) room ≡ record { answer = result (length (encode t)) 0; bytes = overwrite (encode t) room }
unfolding write_of compile_of compiled
write_compile table source room t d e h =
    let (u, x, w) = write_printed (decode table) source e in
    let z : u ≡ t = cc in
    ap (λ x. compile_of x room) (w ∙ ap print z)
    ∙ ap (λ o. compiled o (print t) room) (print_accepted table t d)
    ∙ put_fits _ (encode t) room h

-- which is the table it was written from, if that is of this version
pub write_compile_same : (table source room : Bytes) → version_of table ≡ written_version → (write_of table source).answer.number ≡ 0 → length table ≤ length room
    → compile_of (result_bytes (write_of table source)) room ≡ record { answer = result (length table) 0; bytes = overwrite table room }
unfolding write_of
write_compile_same table source room v e h =
    let (t, d, w) = write_printed (decode table) source e in
    let s : encode t ≡ table = encode_same table t d v in
    rw s at (write_compile table source room t d e (rw s h))

-- ---- matching

-- the number of a fault of what is lent
lent_number : (t : Syntax pattern) (label scratch parts : Bytes) (f : ℕ) → lent_fault t label scratch parts ≡ some f → (LABEL ≤ f) × (f ≤ PARTS)
unfolding lent_fault Applies
lent_number t label scratch parts f e =
    ⊎_elim (λ (x, y). (omega arith, omega arith)) (⊎_elim (λ (x, y). (omega arith, omega arith)) (⊎_elim (λ (x, y). (omega arith, omega arith)) (λ b. absurd b))) (refuse_applies _ f e)

-- what is lent where none of them applies
pub record LentFits (t : Syntax pattern) (label scratch parts : Bytes) : Type 0 where
  pub label_short : length label ≤ label_limit
  pub scratch_long : scratch_needed t (length label) ≤ length scratch
  pub parts_long : 2 * top_size t ≤ length parts

pub lent_fits : (t : Syntax pattern) (label scratch parts : Bytes) → lent_fault t label scratch parts ≡ none → LentFits t label scratch parts
unfolding lent_fault Applies
lent_fits t label scratch parts e = record {
  label_short = not_less _ _ (λ h. refuse_none _ LABEL e (inl (h, refl)));
  scratch_long = not_less _ _ (λ h. refuse_none _ WORK e (inr (inl (h, refl))));
  parts_long = not_less _ _ (λ h. refuse_none _ PARTS e (inr (inr (inl (h, refl)))));
}

-- by the budget, where nothing is refused before
pub ending_within : (used count budget : ℕ) (v : Option (List ℕ)) → count ≤ budget → ending none used count budget v ≡ decided used count v
unfolding ending
ending_within used count budget v h = if_true _ _ _ (le-leb _ _ h)

pub ending_beyond : (used count budget : ℕ) (v : Option (List ℕ)) → budget < count → ending none used count budget v ≡ exhausted used budget
unfolding ending
ending_beyond used count budget v h = if_false _ _ _ (lt-leb _ _ h)

-- what holds of every refusal from 11 to 14, of BUDGET and of a verdict holds of every match
pub match_cases : (P : Ending → Type 0) (o : Option (Syntax pattern)) (label scratch parts : Bytes) (budget : ℕ)
    → ((number : ℕ) → TABLE ≤ number → number ≤ PARTS → P (untried number))
    → ((t : Syntax pattern) → o ≡ some t → lent_fault t label scratch parts ≡ none → budget < trials label t → P (exhausted (scratch_needed t (length label)) budget))
    → ((t : Syntax pattern) → o ≡ some t → lent_fault t label scratch parts ≡ none → trials label t ≤ budget → P (decided (scratch_needed t (length label)) (trials label t) (verdict label t)))
    → P (match_ending o label scratch parts budget)
unfolding match_ending ending
match_cases P none label scratch parts budget refuses stops decides = refuses TABLE (omega arith) (omega arith)
match_cases P (some t) label scratch parts budget refuses stops decides = lent (lent_fault t label scratch parts) refl
  where
    within : lent_fault t label scratch parts ≡ none → (b : Bool) → leb (trials label t) budget ≡ b → P (ending none (scratch_needed t (length label)) (trials label t) budget (verdict label t))
    within f true e = let h = leb-true _ _ e in subst P (sym (ending_within _ _ budget _ h)) (decides t refl f h)
    within f false e = let h = leb-false _ _ e in subst P (sym (ending_beyond _ (trials label t) budget (verdict label t) h)) (stops t refl f h)

    lent : (o : Option ℕ) → lent_fault t label scratch parts ≡ o → P (ending o (scratch_needed t (length label)) (trials label t) budget (verdict label t))
    lent (some f) e = let (x, y) = lent_number t label scratch parts f e in refuses f (omega arith) y
    lent none e = within e (leb (trials label t) budget) refl

-- with a good table and parts enough: LABEL or WORK, by their tests, BUDGET or a verdict
pub fit_cases : (P : Ending → Type 0) (table label scratch parts : Bytes) (budget : ℕ) (t : Syntax pattern) → decode table ≡ some t → 2 * top_size t ≤ length parts
    → (label_limit < length label → P (untried LABEL))
    → (length label ≤ label_limit → length scratch < scratch_needed t (length label) → P (untried WORK))
    → (LentFits t label scratch parts → budget < trials label t → P (exhausted (scratch_needed t (length label)) budget))
    → (LentFits t label scratch parts → trials label t ≤ budget → P (decided (scratch_needed t (length label)) (trials label t) (verdict label t)))
    → P (match_ending (decode table) label scratch parts budget)
unfolding match_ending lent_fault refuse ending
fit_cases P table label scratch parts budget t d r long narrow stops decides =
    rw d (⊎_elim (λ h. ⊎_elim (λ k. rw (le-ltb label_limit (length label) h, le-ltb (length scratch) used k, le-ltb (length parts) (2 * top_size t) r) (tried (record { label_short = h; scratch_long = k; parts_long = r })))
    (λ k. rw (le-ltb label_limit (length label) h, lt-ltb (length scratch) used k) (narrow h k)) (le_or_lt used (length scratch)))
    (λ h. rw (lt-ltb label_limit (length label) h) (long h)) (le_or_lt (length label) label_limit))
  where
    used : ℕ
    used = scratch_needed t (length label)

    tried : LentFits t label scratch parts → P (ending none used (trials label t) budget (verdict label t))
    tried f =
        ⊎_elim (λ h. subst P (sym (ending_within used _ budget _ h)) (decides f h)) (λ h. subst P (sym (ending_beyond used (trials label t) budget (verdict label t) h)) (stops f h))
        (le_or_lt (trials label t) budget)

-- what a verdict reports, whichever it is
record Reported (used count : ℕ) (scratch : Bytes) (m : MatchOutput) : Type 0 where
  number_zero : m.answer.number ≡ 0
  trials_count : m.answer.trials ≡ count
  used_zeroed : m.scratch ≡ zeroed used scratch

decided_reports : (used count : ℕ) (v : Option (List ℕ)) (scratch parts : Bytes) → Reported used count scratch (ended (decided used count v) scratch parts)
unfolding ended
decided_reports used count none scratch parts = record { number_zero = refl; trials_count = refl; used_zeroed = refl }
decided_reports used count (some ends) scratch parts = record { number_zero = refl; trials_count = refl; used_zeroed = refl }

pub decided_zeroed : (used count : ℕ) (v : Option (List ℕ)) (scratch parts : Bytes) → (ended (decided used count v) scratch parts).scratch ≡ zeroed used scratch
decided_zeroed used count v scratch parts = (decided_reports used count v scratch parts).used_zeroed

-- where no other refusal applies: the table is good, the label and the lent slices fit
module _ (table label scratch parts : Bytes) (t : Syntax pattern) (good : decode table ≡ some t) (lent : lent_fault t label scratch parts ≡ none) where
  -- the call makes the trials of the table's tree
  match_counted : (budget : ℕ) → match_of table label scratch parts budget ≡ ended (ending none (scratch_needed t (length label)) (trials label t) budget (verdict label t)) scratch parts
  unfolding match_of match_ending
  match_counted budget = rw (good, lent)

  -- demand 3: a verdict, with the defined count, where the count is within the budget
  pub within_budget : (budget : ℕ) → trials label t ≤ budget → match_of table label scratch parts budget ≡ ended (decided (scratch_needed t (length label)) (trials label t) (verdict label t)) scratch parts
  within_budget budget h = match_counted budget ∙ ap (λ e. ended e scratch parts) (ending_within _ _ budget _ h)

  -- otherwise BUDGET, which reports the budget, writes no parts and clears scratch
  pub beyond_budget : (budget : ℕ) → budget < trials label t → match_of table label scratch parts budget ≡ ended (exhausted (scratch_needed t (length label)) budget) scratch parts
  beyond_budget budget h = match_counted budget ∙ ap (λ e. ended e scratch parts) (ending_beyond _ _ budget _ h)

  -- what they report
  pub within_reports : (budget : ℕ) → trials label t ≤ budget → (match_of table label scratch parts budget).answer.trials ≡ trials label t
  within_reports budget h = ap (λ m. m.answer.trials) (within_budget budget h) ∙ (decided_reports (scratch_needed t (length label)) _ (verdict label t) scratch parts).trials_count

  pub beyond_reports : (budget : ℕ) → budget < trials label t → (match_of table label scratch parts budget).answer ≡ record { number = BUDGET; position = 0; value = 0; trials = budget }
  unfolding ended
  beyond_reports budget h = ap (λ m. m.answer) (beyond_budget budget h)

  -- a verdict exactly where the count is within the budget
  pub verdict_exactly : (budget : ℕ) → ((match_of table label scratch parts budget).answer.number ≡ 0) ↔ (trials label t ≤ budget)
  verdict_exactly budget = (
    λ e. ⊎_elim (λ h. h) (λ h. let x = ap (λ (a : Answer). a.number) (beyond_reports budget h) in absurd (omega arith)) (le_or_lt (trials label t) budget),
    λ h. ap (λ m. m.answer.number) (within_budget budget h) ∙ (decided_reports (scratch_needed t (length label)) _ (verdict label t) scratch parts).number_zero,
  )

  -- the bound holds of what is reported, with 15 too
  pub count_bounded : (budget : ℕ) → (match_of table label scratch parts budget).answer.trials ≤ trial_bound (size t) (length label)
  count_bounded budget =
      ⊎_elim (λ h. omega (arith, within_reports budget h, bound label t))
      (λ h. let x = ap (λ (a : Answer). a.trials) (beyond_reports budget h) in omega (arith, bound label t)) (le_or_lt (trials label t) budget)

  -- budgets that the count is within give the same verdict, parts, scratch and number
  pub budgets_agree : (b c : ℕ) → trials label t ≤ b → trials label t ≤ c → match_of table label scratch parts b ≡ match_of table label scratch parts c
  budgets_agree b c h k = within_budget b h ∙ sym (within_budget c k)

-- a good table is matched as the version 2 table of the same pattern
pub match_renewed : (table label scratch parts : Bytes) (budget : ℕ) (t : Syntax pattern) → decode table ≡ some t
    → match_of table label scratch parts budget ≡ match_of (encode t) label scratch parts budget
unfolding match_of
match_renewed table label scratch parts budget t good =
    ap (λ o. ended (match_ending o label scratch parts budget) scratch parts) (good ∙ sym (renewed table t good))

-- ---- what a refused call leaves

put_untouched : (b : Bool) (position : ℕ) (x lent : Bytes) → ¬ ((put_if b position x lent).answer.number ≡ 0) → (put_if b position x lent).bytes ≡ lent
unfolding put_if
put_untouched true position x lent e = absurd (e refl)
put_untouched false position x lent e = refl

-- demand 1: a refused call writes nothing
pub compile_untouched : (source table : Bytes) → ¬ ((compile_of source table).answer.number ≡ 0) → (compile_of source table).bytes ≡ table
unfolding compile_of compiled put
compile_untouched source table = go (outcome source)
  where
    go : (o : Outcome) → ¬ ((compiled o source table).answer.number ≡ 0) → (compiled o source table).bytes ≡ table
    go (refused f p) e = refl
    go (accepted t) e = put_untouched _ (length source) (encode t) table e

pub write_untouched : (table source : Bytes) → ¬ ((write_of table source).answer.number ≡ 0) → (write_of table source).bytes ≡ source
unfolding write_of written_back put
write_untouched table source = go (decode table)
  where
    go : (o : Option (Syntax pattern)) → ¬ ((written_back o source).answer.number ≡ 0) → (written_back o source).bytes ≡ source
    go none e = refl
    go (some t) e = put_untouched _ 0 (print t) source e

ended_untouched : (e : Ending) (scratch parts : Bytes) → Untouched scratch parts (ended e scratch parts)
unfolding ended
ended_untouched (untried number) scratch parts = record { kept_parts = λ e. refl; kept_scratch = λ e f. refl }
ended_untouched (exhausted used budget) scratch parts = record { kept_parts = λ e. refl; kept_scratch = λ e f. absurd (f refl) }
ended_untouched (decided used trials none) scratch parts = record { kept_parts = λ e. refl; kept_scratch = λ e f. absurd (e refl) }
ended_untouched (decided used trials (some ends)) scratch parts = record { kept_parts = λ e. absurd (e refl); kept_scratch = λ e f. absurd (e refl) }

pub match_untouched : (table label scratch parts : Bytes) (budget : ℕ) → Untouched scratch parts (match_of table label scratch parts budget)
unfolding match_of
match_untouched table label scratch parts budget = ended_untouched _ scratch parts

-- ---- scratch

ended_shown : (e : Ending) (scratch other parts : Bytes) → shown (ended e scratch parts) ≡ shown (ended e other parts)
unfolding ended
ended_shown (untried number) scratch other parts = refl
ended_shown (exhausted used budget) scratch other parts = refl
ended_shown (decided used trials none) scratch other parts = refl
ended_shown (decided used trials (some ends)) scratch other parts = refl

-- demand 3: what the scratch held before does not matter
pub scratch_ignored : (table label scratch other parts : Bytes) (budget : ℕ) → length scratch ≡ length other
    → shown (match_of table label scratch parts budget) ≡ shown (match_of table label other parts budget)
unfolding match_of
scratch_ignored table label scratch other parts budget e = rw (same_ending (decode table)) (ended_shown _ scratch other parts)
  where
    same_ending : (o : Option (Syntax pattern)) → match_ending o label scratch parts budget ≡ match_ending o label other parts budget
    same_ending none = unfold match_ending in refl
    same_ending (some t) = unfold match_ending lent_fault in rw e

-- ---- what a match leaves

-- lengths as lent; and yes, or parts as lent
pub record Leaves (scratch parts : Bytes) (m : MatchOutput) : Type 0 where
  pub same_scratch : length m.scratch ≡ length scratch
  pub same_parts : length m.parts ≡ length parts
  pub yes_or_kept : ((m.answer.number ≡ 0) × (m.answer.value ≡ 1)) ⊎ ((m.answer.value ≡ 0) × (m.parts ≡ parts))

pub match_leaves : (table label scratch parts : Bytes) (budget : ℕ) → Leaves scratch parts (match_of table label scratch parts budget)
unfolding match_of ended
match_leaves table label scratch parts budget =
    match_cases (λ e. Leaves scratch parts (ended e scratch parts)) (decode table) label scratch parts budget
    (λ number l h. record { same_scratch = refl; same_parts = refl; yes_or_kept = inr (refl, refl) })
    (λ t d f h. record { same_scratch = length_zeroed _ scratch (lent_fits t label scratch parts f).scratch_long; same_parts = refl; yes_or_kept = inr (refl, refl) })
    (λ t d f h. decides t (lent_fits t label scratch parts f) (verdict label t) refl)
  where
    decides : (t : Syntax pattern) → LentFits t label scratch parts → (v : Option (List ℕ)) → verdict label t ≡ v → Leaves scratch parts (ended (decided (scratch_needed t (length label)) (trials label t) v) scratch parts)
    decides t f none e = unfold ended in record { same_scratch = length_zeroed _ scratch f.scratch_long; same_parts = refl; yes_or_kept = inr (refl, refl) }
    decides t f (some ends) e =
        let n = part_bytes_length ends in
        unfold ended in
        record { same_scratch = length_zeroed _ scratch f.scratch_long; same_parts = length_overwrite (part_bytes ends) parts (omega (arith, verdict_length label t ends e, f.parts_long)); yes_or_kept = inl (refl, refl) }

-- ---- a verdict or a numbered refusal

-- the number of a source's refusal
outcome_number : (source : Bytes) (f p : ℕ) → outcome source ≡ refused f p → (LONG ≤ f) × (f ≤ DEPTH)
unfolding Least rows_at
outcome_number source f p e =
    ⊎_elim (λ (h, x, y). (omega arith, omega arith)) (λ (h, (a, b, c)). let (x, y) = row_number _ _ f a in (omega arith, omega arith)) ((refused_exactly source f p).0 e)

-- demand 2: a source is compiled just when a tree within the limits derives it and its table has room
pub compile_accepted : (source table : Bytes) (t : Syntax pattern) → length source ≤ source_limit → Derives t source → Limited t → length (encode t) ≤ length table
    → compile_of source table ≡ record { answer = result (length (encode t)) 0; bytes = overwrite (encode t) table }
unfolding compile_of compiled
compile_accepted source table t l h g r =
    ap (λ o. compiled o source table) ((accepted_exactly source t).1 (l, h, g)) ∙ put_fits _ (encode t) table r

put_zero : (b : Bool) (position : ℕ) (x lent : Bytes) → (put_if b position x lent).answer.number ≡ 0 → T b
unfolding put_if
put_zero true position x lent e = tt
put_zero false position x lent e = absurd (omega arith)

pub compile_zero : (source table : Bytes) → (compile_of source table).answer.number ≡ 0
    → (t : Syntax pattern) × (length source ≤ source_limit) × Derives t source × Limited t × (length (encode t) ≤ length table)
unfolding compile_of compiled put
compile_zero source table = go (outcome source) refl
  where
    go : (o : Outcome) → outcome source ≡ o → (compiled o source table).answer.number ≡ 0 → (t : Syntax pattern) × (length source ≤ source_limit) × Derives t source × Limited t × (length (encode t) ≤ length table)
    go (refused f p) e z = absurd (let (x, y) = outcome_number source f p e in omega arith)
    go (accepted t) e z = let (l, h, g) = (accepted_exactly source t).0 e in (t, l, h, g, leb→le _ _ (put_zero _ _ (encode t) table z))

-- demand 1: the numbers of the calls
put_number : (b : Bool) (position : ℕ) (x lent : Bytes) → ((put_if b position x lent).answer.number ≡ 0) ⊎ ((put_if b position x lent).answer.number ≡ ROOM)
unfolding put_if
put_number true position x lent = inl refl
put_number false position x lent = inr refl

pub compile_number : (source table : Bytes) → (compile_of source table).answer.number ≤ ROOM
unfolding compile_of compiled put
compile_number source table = go (outcome source) refl
  where
    go : (o : Outcome) → outcome source ≡ o → (compiled o source table).answer.number ≤ ROOM
    go (refused f p) e = let (x, y) = outcome_number source f p e in omega arith
    go (accepted t) e = ⊎_elim (λ h. omega arith) (λ h. omega arith) (put_number (leb (length (encode t)) (length table)) (length source) (encode t) table)

pub write_number : (table source : Bytes) → let n : ℕ = (write_of table source).answer.number in (n ≡ 0) ⊎ (n ≡ ROOM) ⊎ (n ≡ TABLE)
unfolding write_of written_back put
write_number table source = go (decode table)
  where
    go : (o : Option (Syntax pattern)) → let n : ℕ = (written_back o source).answer.number in (n ≡ 0) ⊎ (n ≡ ROOM) ⊎ (n ≡ TABLE)
    go none = inr (inr refl)
    go (some t) = ⊎_elim inl (λ h. inr (inl h)) (put_number (leb (length (print t)) (length source)) 0 (print t) source)

pub match_number : (table label scratch parts : Bytes) (budget : ℕ) → MatchNumber (match_of table label scratch parts budget).answer.number
unfolding match_of ended
match_number table label scratch parts budget =
    match_cases (λ e. MatchNumber (ended e scratch parts).answer.number) (decode table) label scratch parts budget
    (λ number l h. inr (omega arith, omega arith)) (λ t d f h. inr (omega arith, omega arith)) (λ t d f h. inl (decided_reports (scratch_needed t (length label)) _ (verdict label t) scratch parts).number_zero)

-- demand 1: scratch after a verdict or BUDGET
pub match_zeroed : (table label scratch parts : Bytes) (budget : ℕ)
    → ((match_of table label scratch parts budget).answer.number ≡ 0) ⊎ ((match_of table label scratch parts budget).answer.number ≡ BUDGET)
    → (t : Syntax pattern) × (decode table ≡ some t) × ((match_of table label scratch parts budget).scratch ≡ zeroed (scratch_needed t (length label)) scratch)
unfolding match_of ended
match_zeroed table label scratch parts budget =
    match_cases
    (λ e. (((ended e scratch parts).answer.number ≡ 0) ⊎ ((ended e scratch parts).answer.number ≡ BUDGET)) → (t : Syntax pattern) × (decode table ≡ some t) × ((ended e scratch parts).scratch ≡ zeroed (scratch_needed t (length label)) scratch))
    (decode table) label scratch parts budget
    (λ f l h. ⊎_elim (λ z. absurd (omega arith)) (λ z. absurd (omega arith)))
    (λ t d f h z. (t, d, refl))
    (λ t d f h z. (t, d, (decided_reports (scratch_needed t (length label)) _ (verdict label t) scratch parts).used_zeroed))

-- ---- the verdict of a call

-- where a verdict is given, nothing was at fault and the count is within the budget
pub match_tried : (table label scratch parts : Bytes) (budget : ℕ) (t : Syntax pattern) → decode table ≡ some t → (match_of table label scratch parts budget).answer.number ≡ 0
    → (lent_fault t label scratch parts ≡ none) × (trials label t ≤ budget)
unfolding match_of ended
match_tried table label scratch parts budget t d =
    match_cases (λ e. (ended e scratch parts).answer.number ≡ 0 → (lent_fault t label scratch parts ≡ none) × (trials label t ≤ budget)) (decode table) label scratch parts budget
    (λ number l h z. absurd (omega arith)) (λ u e f h z. absurd (omega arith))
    (λ u e f h z. let s : some u ≡ some t = sym e ∙ d in let x : u ≡ t = cc in subst (λ y. (lent_fault y label scratch parts ≡ none) × (trials label y ≤ budget)) x (f, h))

-- demand 2: where a verdict is given, it is yes just when the label satisfies the pattern
module _ (table label scratch parts : Bytes) (t : Syntax pattern) (good : decode table ≡ some t) (lent : lent_fault t label scratch parts ≡ none) (budget : ℕ) (enough : trials label t ≤ budget) where
  pub match_verdict : ((match_of table label scratch parts budget).answer.value ≡ 1) ↔ Satisfies t label
  unfolding ended IsVerdict
  match_verdict = rw (within_budget table label scratch parts t good lent budget enough) (go (verdict label t) (verdict_right table t good label))
    where
      go : (v : Option (List ℕ)) → IsVerdict label t v → ((ended (decided (scratch_needed t (length label)) (trials label t) v) scratch parts).answer.value ≡ 1) ↔ Satisfies t label
      go none m = (λ e. absurd (omega arith), λ s. absurd (m s))
      go (some ends) m = (λ e. yes_satisfies label t ends m, λ s. refl)

  -- yes writes the longest_first ends, 2T bytes
  pub match_parts : (match_of table label scratch parts budget).answer.value ≡ 1
      → (ends : List ℕ) × IsVerdict label t (some ends) × (length (part_bytes ends) ≡ 2 * top_size t) × ((match_of table label scratch parts budget).parts ≡ overwrite (part_bytes ends) parts)
  unfolding ended
  match_parts = rw (within_budget table label scratch parts t good lent budget enough) (go (verdict label t) refl)
    where
      go : (v : Option (List ℕ)) → verdict label t ≡ v → (ended (decided (scratch_needed t (length label)) (trials label t) v) scratch parts).answer.value ≡ 1
          → (ends : List ℕ) × IsVerdict label t (some ends) × (length (part_bytes ends) ≡ 2 * top_size t) × ((ended (decided (scratch_needed t (length label)) (trials label t) v) scratch parts).parts ≡ overwrite (part_bytes ends) parts)
      go none e y = absurd (omega arith)
      go (some ends) e y =
          let n : length ends ≡ top_size t = verdict_length label t ends e in
          (ends, rw e at (verdict_right table t good label), part_bytes_length ends ∙ omega arith, refl)

-- no writes none
pub match_no : (table label scratch parts : Bytes) (budget : ℕ) → (match_of table label scratch parts budget).answer.value ≡ 0 → (match_of table label scratch parts budget).parts ≡ parts
match_no table label scratch parts budget z = ⊎_elim (λ (n, v). absurd (omega arith)) (λ (v, p). p) (match_leaves table label scratch parts budget).yes_or_kept

-- the trials of a pattern within the limits keep to the bound, which fits 64 bits
pub trials_fit : (label : Bytes) (t : Syntax pattern) → length label ≤ label_limit → Limited t
    → (trials label t ≤ trial_bound (size t) (length label)) × (trial_bound (size t) (length label) < 2 ^ 64)
unfolding trial_bound
trials_fit label t l g =
    let n : ℕ = length label in
    let a : n + 1 ≤ label_limit + 1 = omega arith in
    let b : n + 2 ≤ label_limit + 2 = omega arith in
    let c : n + 3 ≤ label_limit + 3 = omega arith in
    let o : size t * (n + 1) * (n + 1) * (n + 2) * (n + 3) ≤ atom_limit * (label_limit + 1) * (label_limit + 1) * (label_limit + 2) * (label_limit + 3) = mul-le-mul (mul-le-mul (mul-le-mul (mul-le-mul g.atoms a) a) b) c in
    (bound label t, omega (arith, o))
