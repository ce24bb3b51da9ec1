-- The labels of a batch, one behind the other: what a loop over them keeps. Assumes nothing.
use mathlib.Core.Path.{◌≡◌, refl, sym, ap, ◌∙◌}
use mathlib.Core.Bool.{false}
use mathlib.Core.List.{List, [], ◌∷◌, ◌++◌, append_assoc}
use Prim.Native.Nat.{ℕ, ◌+◌, ◌-◌, ◌*◌, ◌/◌, ◌≤◌, ◌<◌}
use native.Mathlib.Nat.{mul-le-mul_right, suc-mul, zero-mul}
use native.Mathlib.Omega.{arith}
use native.Mathlib.Numerals.{add-one}
use lib.ListN.{length, set, take, drop, length-append, length-set, take-append-drop}
use lib.Seq.{slice, take-suc-set, drop-set-lt, take_at, drop-drop, length-take-le}
use borrow.Rule.Slice.PartMut.{mid_of, put_mid, mid_len, drop_put, same_len_mid}
use Rattle.pattern.specs.Bytes.{Bytes, numbers_in}
use Rattle.pattern.specs.Decode.{field}
use Rattle.pattern.specs.Answers.{MatchOutput, match_of}
use Rattle.pattern.proofs.Pairs.{numbers_none}
use Rattle.pattern.proofs.Stretch.{slice_take}
use Rattle.std.specs.Prelude.{Result}
use Rattle.pattern.specs.declared.refusal.Refusal.{Refusal}
use Rattle.matcher.specs.declared.Verdict.{Verdict}
use Rattle.matcher.specs.Answered.{answer_of, match_output, MatchPost}
use Rattle.batch.specs.Batch.{labels_from, misplaced, answer_byte, BatchOutput, batch_output, prepend, in_turn}
use Rattle.batch.specs.Labels.{BatchFits}
use Rattle.batch.proofs.Labels.{numbers_next}
use Rattle.batch.proofs.Placing.{not_fallen, not_past, later_placed, placed_exactly}

-- what later labels give, behind bytes that are written
abbrev behind : (verdicts parts : Bytes) → BatchOutput → BatchOutput
behind verdicts parts o = batch_output o.number o.scratch (verdicts ++ o.verdicts) (parts ++ o.parts)

behind_prepend : (verdicts parts : Bytes) (m : MatchOutput) (o : BatchOutput)
    → behind verdicts parts (prepend m o) ≡ behind (verdicts ++ answer_byte m.answer ∷ []) (parts ++ m.parts) o
behind_prepend verdicts parts m o =
    λ i. batch_output o.number o.scratch (sym (append_assoc verdicts (answer_byte m.answer ∷ []) o.verdicts) i) (sym (append_assoc parts m.parts o.parts) i)

-- a part that is put back ends the bytes before the place behind it
take_put_next : (at width : ℕ) (parts mine : Bytes) → at ≤ length parts → length mine ≡ width → take (at + width) (put_mid at (at + width - at) parts mine) ≡ take at parts ++ mine
take_put_next at width parts mine h e =
    let n = length-take-le at parts h in
    ap (take (at + width)) (sym (append_assoc (take at parts) mine _)) ∙ take_at (take at parts ++ mine) _ (at + width) (omega (arith, length-append (take at parts) mine))

-- slices lent to a batch that fit it
module _ (table buffer ends : Bytes) (width budget : ℕ) (scratch₀ verdicts₀ parts₀ : Bytes) where
  -- the labels from k on, the first of them from `from` on
  abbrev labels_on : (k from : ℕ) → List Bytes
  labels_on k from = labels_from from (numbers_in (drop (2 * k) ends)) buffer

  -- what they give, behind the answer bytes and the part bytes that are written
  abbrev result_from : (k from : ℕ) (scratch verdicts parts : Bytes) → BatchOutput
  result_from k from scratch verdicts parts =
      behind (take k verdicts) (take (k * width) parts) (in_turn table width budget (labels_on k from) scratch (drop k verdicts) (drop (k * width) parts))

  -- k labels are matched, and those left complete the whole
  pub record Turns (k from : ℕ) (scratch verdicts parts : Bytes) : Type 0 where
    pub fits : BatchFits width buffer ends verdicts₀ parts₀
    pub placed : misplaced from (numbers_in (drop (2 * k) ends)) (length buffer) ≡ false
    pub same_scratch : length scratch ≡ length scratch₀
    pub same_verdicts : length verdicts ≡ length verdicts₀
    pub same_parts : length parts ≡ length parts₀
    pub completes : result_from k from scratch verdicts parts ≡ in_turn table width budget (labels_from 0 (numbers_in ends) buffer) scratch₀ verdicts₀ parts₀

  -- all are left
  pub first_turn : BatchFits width buffer ends verdicts₀ parts₀ → Turns 0 0 scratch₀ verdicts₀ parts₀
  first_turn f = record { fits = f; placed = (placed_exactly ends (length buffer)).1 f.placed; same_scratch = refl; same_verdicts = refl; same_parts = refl; completes = rw zero-mul refl }

module _ {table buffer ends : Bytes} {width budget : ℕ} {scratch₀ verdicts₀ parts₀ : Bytes} {k from : ℕ} {scratch verdicts parts : Bytes}
    (t : Turns table buffer ends width budget scratch₀ verdicts₀ parts₀ k from scratch verdicts parts) where
  abbrev result_from' : (k from : ℕ) (scratch verdicts parts : Bytes) → BatchOutput
  result_from' = result_from table buffer ends width budget scratch₀ verdicts₀ parts₀

  abbrev at : ℕ
  at = k * width

  -- none is left
  pub all_turns : length ends / 2 ≤ k → batch_output 0 scratch verdicts parts ≡ in_turn table width budget (labels_from 0 (numbers_in ends) buffer) scratch₀ verdicts₀ parts₀
  unfolding in_turn labels_from
  all_turns h =
      let n = numbers_none ends (2 * k) (omega (arith, h)) in
      (λ i. batch_output 0 scratch (sym (take-append-drop k verdicts) i) (sym (take-append-drop at parts) i))
      ∙ ap (λ es. behind (take k verdicts) (take at parts) (in_turn table width budget (labels_from from es buffer) scratch (drop k verdicts) (drop at parts))) (sym n)
      ∙ t.completes

  module _ (h : k < length ends / 2) where
    pub own_room : at + width ≤ length parts
    own_room = let m = mul-le-mul_right width h in omega (arith, suc-mul k width, t.fits.parts_long, t.same_parts)

    pub verdict_room : k < length verdicts
    verdict_room = omega (arith, t.fits.verdicts_long, t.same_verdicts)

    -- the next label, and its end
    module _ (end : ℕ) (e : end ≡ field ends (2 * k)) where
      abbrev others : List ℕ
      others = numbers_in (drop (2 * (k + 1)) ends)

      numbers_here : numbers_in (drop (2 * k) ends) ≡ end ∷ others
      numbers_here =
          numbers_next ends k h ∙ ap (λ x. x ∷ others) (sym e)

      placed_here : misplaced from (end ∷ others) (length buffer) ≡ false
      placed_here = ap (λ es. misplaced from es (length buffer)) (sym numbers_here) ∙ t.placed

      pub label_rises : from ≤ end
      label_rises = not_fallen from end (length buffer) others placed_here

      pub label_within : end ≤ length buffer
      label_within = not_past from end (length buffer) others placed_here

      -- its match, and the byte of its answer
      module _ (r : Result Verdict Refusal) (scratch' mine : Bytes) (b : ℕ)
          (post : MatchPost table (mid_of from (end - from) buffer) scratch (mid_of at (at + width - at) parts) budget r scratch' mine)
          (kept_scratch : length scratch' ≡ length scratch) (kept : length mine ≡ length (mid_of at (at + width - at) parts)) (is : b ≡ answer_byte (answer_of budget r)) where
        pub next_turn : Turns table buffer ends width budget scratch₀ verdicts₀ parts₀ (k + 1) end scratch' (set verdicts k b) (put_mid at (at + width - at) parts mine)
        next_turn = record {
          fits = t.fits;
          placed = later_placed from end (length buffer) others placed_here;
          same_scratch = kept_scratch ∙ t.same_scratch;
          same_verdicts = length-set verdicts k b ∙ t.same_verdicts;
          same_parts = same_len_mid at (at + width - at) parts mine kept ∙ t.same_parts;
          completes = sym completed ∙ t.completes;
        }
          where
            wide : at + width - at ≡ width
            wide = omega arith

            next_place : at + width ≡ (k + 1) * width
            next_place = omega (arith, suc-mul k width)

            after : Bytes
            after = put_mid at (at + width - at) parts mine

            long : length mine ≡ width
            long = kept ∙ mid_len at (at + width) parts own_room ∙ wide

            m : MatchOutput
            m = match_of table (slice from end buffer) scratch (take width (drop at parts)) budget

            single : m ≡ match_output budget r scratch' mine
            single = (λ i. match_of table (slice_take buffer from end i) scratch (take (sym wide i) (drop at parts)) budget) ∙ sym post

            later : (scratch verdicts parts : Bytes) → BatchOutput
            later = in_turn table width budget (labels_from end others buffer)

            first : in_turn table width budget (labels_from from (end ∷ others) buffer) scratch (drop k verdicts) (drop at parts)
                ≡ prepend m (later m.scratch (drop 1 (drop k verdicts)) (drop width (drop at parts)))
            first = unfold in_turn labels_from in refl

            completed : result_from' k from scratch verdicts parts ≡ result_from' (k + 1) end scratch' (set verdicts k b) (put_mid at (at + width - at) parts mine)
            completed =
                let v : take k verdicts ++ answer_byte (answer_of budget r) ∷ [] ≡ take (k + 1) (set verdicts k b) = rw (add-one, sym is) (sym (take-suc-set verdicts k b verdict_room)) in
                let p : take at parts ++ mine ≡ take (at + width) (put_mid at (at + width - at) parts mine) = sym (take_put_next at width parts mine (omega (arith, own_room)) long) in
                let v' : drop 1 (drop k verdicts) ≡ drop (k + 1) (set verdicts k b) = drop-drop 1 k verdicts ∙ sym (drop-set-lt (k + 1) verdicts k b (omega arith)) in
                let p' : drop width (drop at parts) ≡ drop (at + width) (put_mid at (at + width - at) parts mine) = drop-drop width at parts ∙ sym (drop_put at (at + width) parts mine (omega arith) own_room (long ∙ sym wide)) in
                ap (λ es. behind (take k verdicts) (take at parts) (in_turn table width budget (labels_from from es buffer) scratch (drop k verdicts) (drop at parts))) numbers_here
                ∙ ap (behind (take k verdicts) (take at parts)) first
                ∙ behind_prepend (take k verdicts) (take at parts) m (later m.scratch (drop 1 (drop k verdicts)) (drop width (drop at parts)))
                ∙ ap (λ (x : MatchOutput). behind (take k verdicts ++ answer_byte x.answer ∷ []) (take at parts ++ x.parts) (later x.scratch (drop 1 (drop k verdicts)) (drop width (drop at parts)))) single
                ∙ (λ i. behind (v i) (p i) (later scratch' (v' i) (p' i)))
                ∙ ap (λ n. behind (take (k + 1) (set verdicts k b)) (take n after) (later scratch' (drop (k + 1) (set verdicts k b)) (drop n after))) next_place
