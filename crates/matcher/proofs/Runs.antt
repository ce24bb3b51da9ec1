-- A match where no refusal but 15 can come, in plain values. Assumes nothing.
use mathlib.Core.Path.{◌≡◌, refl, sym, ap, ◌∙◌}
use mathlib.Core.Bool.{Bool, true, false}
use mathlib.Core.List.{◌++◌}
use mathlib.Core.Option.{none, some}
use Prim.Native.Nat.{ℕ, ◌+◌, ◌*◌, ◌≤◌, ◌<◌}
use native.Mathlib.Omega.{arith}
use lib.ListN.{length, get_or, drop, replicate, length-drop}
use lib.Seq.{ext_get_or, get_or-drop}
use Rattle.std.specs.Prelude.{None, Some, Ok, Err}
use Rattle.pattern.specs.Bytes.{Bytes, zeroed}
use Rattle.pattern.specs.Syntax.{pattern, Syntax}
use Rattle.pattern.specs.Decision.{decide}
use Rattle.pattern.specs.Parts.{parts, verdict}
use Rattle.pattern.specs.Trials.{trials}
use Rattle.pattern.specs.Decode.{tree_of}
use Rattle.pattern.specs.Answers.{scratch_needed, ended}
use Rattle.pattern.proofs.Tests.{if_true, if_false}
use Rattle.pattern.proofs.Calls.{ending_within, ending_beyond}
use Rattle.pattern.proofs.RoundTrip.{some_pattern}
use Rattle.planes.specs.declared.budget.Budget.{Budget as Trialled}
use Rattle.planes.specs.Cells.{Kept, on}
use Rattle.matcher.specs.Settled.{StepPre}
use Rattle.matcher.specs.Steps.{NoPlane, SettleAllPost}
use Rattle.matcher.specs.WriteParts.{WritePartsPre, WritePartsPost}
use Rattle.pattern.specs.declared.refusal.Refusal.TheVariants.{Budget}
use Rattle.matcher.specs.Answered.{match_output}
use Rattle.matcher.specs.Run.{RunPre, unrefused}
use Rattle.planes.proofs.Planes.{plane_on}
use Rattle.matcher.proofs.Groups.{work_long}
use Rattle.atoms.proofs.Views.{node_first}

-- lists that agree from q on have one rest from q on
drop_same : (s s' : Bytes) (q : ℕ) → length s' ≡ length s → ((x : ℕ) → q ≤ x → get_or s' x 0 ≡ get_or s x 0) → drop q s' ≡ drop q s
drop_same s s' q e h =
    ext_get_or 0 (drop q s') (drop q s) (simp (length-drop, e)) (λ i l. get_or-drop q s' i 0 ∙ h (q + i) (omega arith) ∙ sym (get_or-drop q s i 0))

module _ (table label scratch lent : Bytes) (count : ℕ) (ok : RunPre table label scratch lent count) where
  abbrev t : Syntax pattern
  t = tree_of table

  abbrev w : ℕ
  w = length label + 1

  abbrev len : ℕ
  len = (2 * count + 4) * w * w

  len_is : len ≡ scratch_needed t (length label)
  len_is = ap (λ (k : ℕ). (2 * k + 4) * w * w) ok.counted

  pub run_work : StepPre table label scratch w
  run_work = record { good = ok.good; short = ok.short; wide = refl; room = ok.room }

  module _ (budget : ℕ) (b : Trialled) (limit : b.limit ≡ budget) (begun : b.spent ≡ 0) (s : Bytes) (long : length s ≡ length scratch) where
    -- the planes' bytes are zero, the others as they were
    cleared_is : Kept scratch s w (2 * count + 4) NoPlane → (s' : Bytes) → s' ≡ zeroed len s → s' ≡ zeroed (scratch_needed t (length label)) scratch
    cleared_is kept s' e = e ∙ ap (λ (l : Bytes). replicate len 0 ++ l) (drop_same scratch s len long kept.rest) ∙ ap (λ (k : ℕ). zeroed k scratch) len_is

    pub run_stop : SettleAllPost table label scratch s w (2 * count) b None → (s' : Bytes) → s' ≡ zeroed len s
        → match_output budget (Err Budget) s' lent ≡ ended (unrefused table label budget) scratch lent
    unfolding ended
    run_stop got s' c = let beyond : budget < trials label t = omega (arith, got.counted, limit, begun) in rw (ending_beyond _ _ budget _ beyond, cleared_is got.kept s' c)

    module _ (c : Trialled) (got : SettleAllPost table label scratch s w (2 * count) b (Some c)) where
      within : trials label t ≤ budget
      within = omega (arith, c.within, got.counted, limit)

      made : c.spent ≡ trials label t
      made = omega (arith, got.counted.1, begun)

      -- the cell of the whole label is the decision
      decided : on s w 1 0 (length label) ≡ decide label t 0 (length label)
      decided =
          plane_on (got.whole.rest 0 (omega arith) (omega (arith, some_pattern t))) 0 (length label) (omega arith) (omega arith)
          ∙ ap (λ (p : Syntax pattern). decide label p 0 (length label)) (node_first table)

      pub run_write_parts : WritePartsPre table label s w lent
      run_write_parts = record { work = work_long long run_work; settled = got.whole; fits = ok.fits }

      module _ (m : Bool) (is : m ≡ on s w 1 0 (length label)) where
        pub run_yes : m ≡ true → (parts' lent' : Bytes) → parts' ≡ lent' → WritePartsPost table label lent lent' → (s' : Bytes) → s' ≡ zeroed len s
            → match_output budget (Ok record { matches = m; trials = c.spent }) s' parts' ≡ ended (unrefused table label budget) scratch lent
        unfolding verdict ended
        run_yes h parts' lent' q p s' z₀ =
            let z : verdict label t ≡ some (parts label t 0) = if_true _ _ _ (sym decided ∙ sym is ∙ h) in
            rw (h, q, ending_within _ _ budget _ within, z, cleared_is got.kept s' z₀, p.written, made)

        pub run_no : m ≡ false → (parts' : Bytes) → parts' ≡ lent → (s' : Bytes) → s' ≡ zeroed len s
            → match_output budget (Ok record { matches = m; trials = c.spent }) s' parts' ≡ ended (unrefused table label budget) scratch lent
        unfolding verdict ended
        run_no h parts' q s' z₀ =
            let z : verdict label t ≡ none = if_false _ _ _ (sym decided ∙ sym is ∙ h) in
            rw (h, q, ending_within _ _ budget _ within, z, cleared_is got.kept s' z₀, made)
