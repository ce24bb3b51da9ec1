-- What a batch answers and leaves, sentence by sentence of the request. Assumes nothing.
use mathlib.Core.Path.{◌≡◌, refl, sym, ap, subst, ◌∙◌}
use mathlib.Core.Logic.{◌↔◌, inl, inr, ⊎_elim}
use mathlib.Core.Bool.{Bool, true, false}
use mathlib.Core.List.{List, []}
use mathlib.Core.Option.{Option, none, some}
use Prim.Native.Nat.{ℕ, ◌+◌, ◌*◌, ◌/◌, ◌≤◌, ◌<◌}
use native.Mathlib.Nat.{mul-le-mul_right, suc-mul, zero-mul}
use native.Mathlib.Omega.{arith}
use lib.ListN.{length, get_or, drop, length-drop}
use lib.Seq.{length-take-le}
use borrow.Author.Tests.{eq-eqb, ne_eqb}
use Rattle.pattern.specs.Numbers.{BATCH}
use Rattle.pattern.specs.Bytes.{Bytes, numbers_in, zeroed}
use Rattle.pattern.specs.Syntax.{pattern, Syntax, top_size}
use Rattle.pattern.specs.Meaning.{Satisfies}
use Rattle.pattern.specs.Parts.{verdict}
use Rattle.pattern.specs.Trials.{trials}
use Rattle.pattern.specs.Decode.{decode}
use Rattle.pattern.specs.Answers.{MatchOutput, scratch_needed, decided, ended, match_of}
use Rattle.pattern.proofs.Tests.{if_true, if_false}
use Rattle.pattern.proofs.Pairs.{numbers_length}
use Rattle.pattern.proofs.Calls.{fit_cases, match_leaves, match_number, match_tried, match_verdict}
use Rattle.batch.specs.Batch.{labels_from, unfit, answer_byte, BatchOutput, batch_output, in_turn, batch_of}
use Rattle.batch.specs.Labels.{label_at, BatchFits, part_at, LabelByte, most_used}
use Rattle.batch.proofs.Fitting.{fits_exactly}
use Rattle.batch.proofs.Cases.{unfit_refused, fit_in_turn}
use Rattle.batch.proofs.Labels.{labels_length, label_is}
use Rattle.batch.proofs.InTurn.{turns_number, turns_past, turns_scratch, Alone, turns_alone}

-- ---- a label's answer byte

-- the byte of a match with a good table and parts enough: which it may be, and parts as lent unless it is 1
module _ (table label scratch parts : Bytes) (budget : ℕ) (t : Syntax pattern) (good : decode table ≡ some t) (r : 2 * top_size t ≤ length parts) where
  abbrev m : MatchOutput
  m = match_of table label scratch parts budget

  byte_kept : ¬ (answer_byte m.answer ≡ 1) → m.parts ≡ parts
  unfolding answer_byte
  byte_kept h =
      ⊎_elim (λ (n, v). absurd (h (if_true _ _ _ (eq-eqb _ _ n) ∙ v))) (λ (v, p). p) (match_leaves table label scratch parts budget).yes_or_kept

  byte_is : LabelByte (answer_byte m.answer)
  unfolding match_of ended answer_byte
  byte_is =
      fit_cases (λ e. LabelByte (answer_byte (ended e scratch parts).answer)) table label scratch parts budget t good r
      (λ h. inr (inr (inl refl))) (λ h k. inr (inr (inr (inl refl)))) (λ f h. inr (inr (inr (inr refl)))) (λ f h. go (verdict label t))
    where
      go : (v : Option (List ℕ)) → LabelByte (answer_byte (ended (decided (scratch_needed t (length label)) (trials label t) v) scratch parts).answer)
      go none = unfold ended answer_byte in inl refl
      go (some ends) = unfold ended answer_byte in inr (inl refl)

  byte_verdict : answer_byte m.answer ≤ 1 → m.answer.number ≡ 0
  unfolding answer_byte
  byte_verdict h =
      ⊎_elim (λ z. z) (λ (l, u). let n : answer_byte m.answer ≡ m.answer.number = if_false _ _ _ (ne_eqb m.answer.number 0 (λ z. omega arith)) in absurd (omega arith))
      (match_number table label scratch parts budget)

  -- no or yes is a verdict, yes just when the label satisfies the pattern
  byte_right : answer_byte m.answer ≤ 1 → (answer_byte m.answer ≡ 1) ↔ Satisfies t label
  unfolding answer_byte
  byte_right h =
      let z = byte_verdict h in
      let v : answer_byte m.answer ≡ m.answer.value = if_true _ _ _ (eq-eqb _ _ z) in
      let (f, k) = match_tried table label scratch parts budget t good z in
      let s = match_verdict table label scratch parts t good f budget k in
      (λ e. s.0 (sym v ∙ e), λ x. v ∙ s.1 x)

-- ---- the whole batch, under a good table

module _ (table buffer ends scratch verdicts parts : Bytes) (budget : ℕ) (t : Syntax pattern) (good : decode table ≡ some t) where
  abbrev width : ℕ
  width = 2 * top_size t

  abbrev labels : List Bytes
  labels = labels_from 0 (numbers_in ends) buffer

  abbrev output : BatchOutput
  output = batch_of table buffer ends scratch verdicts parts budget

  -- "refuse the whole call with new number 16", which writes nothing, where what is lent does not fit
  pub unfit_untouched : ¬ BatchFits width buffer ends verdicts parts → output ≡ batch_output BATCH scratch verdicts parts
  unfit_untouched n = go (unfit width buffer ends verdicts parts) refl
    where
      go : (b : Bool) → unfit width buffer ends verdicts parts ≡ b → output ≡ batch_output BATCH scratch verdicts parts
      go true e = unfit_refused table buffer ends scratch verdicts parts budget t good (top_size t) refl e
      go false e = absurd (n ((fits_exactly width buffer ends verdicts parts).0 e))

  -- where it fits
  module _ (fits : BatchFits width buffer ends verdicts parts) where
    in_turns : output ≡ in_turn table width budget labels scratch verdicts parts
    in_turns = fit_in_turn table buffer ends scratch verdicts parts budget t good (top_size t) refl ((fits_exactly width buffer ends verdicts parts).1 fits)

    count : length labels ≡ length ends / 2
    count = labels_length 0 (numbers_in ends) buffer ∙ numbers_length ends

    room : length labels * width ≤ length parts
    room = subst (λ n. n * width ≤ length parts) (sym count) fits.parts_long

    pub fit_answers : output.number ≡ 0
    fit_answers = ap (λ (o : BatchOutput). o.number) in_turns ∙ turns_number table width budget labels scratch verdicts parts

    -- "the result, scratch included": as far as the label that used most of it, zeros, and then as lent
    pub batch_scratch : output.scratch ≡ zeroed (most_used t (length scratch) labels) scratch
    batch_scratch = ap (λ (o : BatchOutput). o.scratch) in_turns ∙ turns_scratch table t good budget labels scratch verdicts parts room

    -- the bytes past those of the last label stay
    pub past_kept : (drop (length ends / 2) output.verdicts ≡ drop (length ends / 2) verdicts) × (drop (length ends / 2 * width) output.parts ≡ drop (length ends / 2 * width) parts)
    past_kept =
        let (v, p) = turns_past table width budget labels scratch verdicts parts room in
        rw (in_turns, sym count) (v, p)

    -- of label k
    pub record LabelAnswered (other : Bytes) (k : ℕ) : Type 0 where
      -- its answer byte and its part bytes are those of a single call made alone, with any scratch of that length
      pub alone : Alone table width budget other (label_at buffer ends k) (part_at width parts k) k output
      -- "one answer byte each (0 no, 1 yes, else the refusal number)"
      pub byte : LabelByte (get_or output.verdicts k 0)
      -- a verdict is yes just when the label satisfies the pattern
      pub right : get_or output.verdicts k 0 ≤ 1 → (get_or output.verdicts k 0 ≡ 1) ↔ Satisfies t (label_at buffer ends k)
      -- "a label with no or a refusal keeps its part bytes"
      pub kept : ¬ (get_or output.verdicts k 0 ≡ 1) → part_at width output.parts k ≡ part_at width parts k

    pub label_answered : (other : Bytes) → length scratch ≡ length other → (k : ℕ) → k < length ends / 2 → LabelAnswered other k
    label_answered other e k h =
        let a : Alone table width budget other (label_at buffer ends k) (part_at width parts k) k output =
        subst (λ l. Alone table width budget other l (part_at width parts k) k output) (label_is buffer ends k h)
        (subst (Alone table width budget other (get_or labels k []) (part_at width parts k) k) (sym in_turns) (turns_alone table width budget other labels scratch verdicts parts e room k (omega (arith, count)))) in
        let n : k * width + width ≤ length parts = omega (arith, suc-mul k width, mul-le-mul_right width h, fits.parts_long) in
        let r : width ≤ length (part_at width parts k) = omega (arith, length-take-le width (drop (k * width) parts) (omega (arith, length-drop (k * width) parts))) in
        record {
          alone = a;
          byte = subst LabelByte (sym a.byte) (byte_is table (label_at buffer ends k) other (part_at width parts k) budget t good r);
          right = subst (λ b. b ≤ 1 → (b ≡ 1) ↔ Satisfies t (label_at buffer ends k)) (sym a.byte) (byte_right table (label_at buffer ends k) other (part_at width parts k) budget t good r);
          kept = λ n. a.own ∙ byte_kept table (label_at buffer ends k) other (part_at width parts k) budget t good r (λ x. n (a.byte ∙ x));
        }

-- with a good table, 16 exactly where what is lent does not fit
pub unfit_exactly : (table buffer ends scratch verdicts parts : Bytes) (budget : ℕ) (t : Syntax pattern) → decode table ≡ some t
    → ((batch_of table buffer ends scratch verdicts parts budget).number ≡ BATCH) ↔ (¬ BatchFits (2 * top_size t) buffer ends verdicts parts)
unfit_exactly table buffer ends scratch verdicts parts budget t good = (
  λ e f. let z = fit_answers table buffer ends scratch verdicts parts budget t good f in omega arith,
  λ n. ap (λ (o : BatchOutput). o.number) (unfit_untouched table buffer ends scratch verdicts parts budget t good n),
)

-- no label under a good table: the call is not refused and touches nothing
pub no_labels : (table buffer scratch verdicts parts : Bytes) (budget : ℕ) (t : Syntax pattern) → decode table ≡ some t → batch_of table buffer [] scratch verdicts parts budget ≡ batch_output 0 scratch verdicts parts
unfolding in_turn labels_from numbers_in
no_labels table buffer scratch verdicts parts budget t good = in_turns table buffer [] scratch verdicts parts budget t good fits
  where
    fits : BatchFits (2 * top_size t) buffer [] verdicts parts
    fits = record { whole = refl; few = omega arith; placed = λ k h. absurd (omega arith); verdicts_long = omega arith; parts_long = omega (arith, zero-mul (2 * top_size t)) }
