-- Labels in turn: what each gets, what scratch comes to, and what stays. Assumes nothing.
use mathlib.Core.Path.{◌≡◌, refl, sym, ap, ◌∙◌}
use mathlib.Core.Logic.{⊎_elim}
use mathlib.Core.Bool.{◌||◌, or-true}
use mathlib.Core.List.{List, [], ◌∷◌, ◌++◌}
use mathlib.Core.Option.{some}
use Prim.Native.Nat.{ℕ, zero, suc, ◌+◌, ◌*◌, ◌≤◌, ◌<◌}
use native.Mathlib.Nat.{suc-mul, max_comm}
use native.Mathlib.Omega.{arith}
use lib.Dec.{ltb}
use lib.ListN.{length, get_or, take, drop, length-drop}
use lib.Seq.{take_at, drop_at, drop-drop, length-take-le}
use borrow.Author.Tests.{lt-ltb, le-ltb}
use Rattle.pattern.specs.Numbers.{label_limit}
use Rattle.pattern.specs.Bytes.{Bytes, zeroed}
use Rattle.pattern.specs.Syntax.{pattern, Syntax, top_size}
use Rattle.pattern.specs.Parts.{verdict}
use Rattle.pattern.specs.Decode.{decode}
use Rattle.pattern.specs.Answers.{Answer, MatchOutput, scratch_needed, ended, match_of}
use Rattle.pattern.proofs.Tests.{le_or_lt, if_true, if_false}
use Rattle.pattern.proofs.Stores.{zeroed_twice}
use Rattle.pattern.proofs.Calls.{fit_cases, decided_zeroed, scratch_ignored, match_leaves}
use Rattle.batch.specs.Batch.{answer_byte, BatchOutput, in_turn}
use Rattle.batch.specs.Labels.{part_at, used_by, most_used}
use Rattle.batch.proofs.Labels.{part_first, part_next}

-- a label keeps as many part bytes as it was lent
own_length : (table label scratch parts : Bytes) (width budget : ℕ) → width ≤ length parts → length (match_of table label scratch (take width parts) budget).parts ≡ width
own_length table label scratch parts width budget r = (match_leaves table label scratch (take width parts) budget).same_parts ∙ length-take-le width parts r

module _ (table : Bytes) (width budget : ℕ) where
  pub turns_number : (labels : List Bytes) (scratch verdicts parts : Bytes) → (in_turn table width budget labels scratch verdicts parts).number ≡ 0
  unfolding in_turn
  turns_number [] scratch verdicts parts = refl
  turns_number (label ∷ labels) scratch verdicts parts = turns_number labels _ _ _

  -- the bytes past those of the last label
  pub turns_past : (labels : List Bytes) (scratch verdicts parts : Bytes) → length labels * width ≤ length parts
      → let o : BatchOutput = in_turn table width budget labels scratch verdicts parts in
      (drop (length labels) o.verdicts ≡ drop (length labels) verdicts) × (drop (length labels * width) o.parts ≡ drop (length labels * width) parts)
  unfolding in_turn
  turns_past [] scratch verdicts parts r = (refl, refl)
  turns_past (label ∷ labels) scratch verdicts parts r =
      let m : MatchOutput = match_of table label scratch (take width parts) budget in
      let k : ℕ = length labels in
      let e : suc k * width ≡ width + k * width = omega (arith, suc-mul k width) in
      let n = own_length table label scratch parts width budget (omega arith) in
      let (v, p) = turns_past labels m.scratch (drop 1 verdicts) (drop width parts) (omega (arith, length-drop width parts)) in
      let s : 1 + k ≡ suc k = omega arith in
      let later : BatchOutput = in_turn table width budget labels m.scratch (drop 1 verdicts) (drop width parts) in (
        v ∙ drop-drop k 1 verdicts ∙ ap (λ i. drop i verdicts) s,
        ap (λ i. drop i (m.parts ++ later.parts)) e ∙ sym (drop-drop (k * width) width _) ∙ ap (drop (k * width)) (drop_at m.parts later.parts width n) ∙ p ∙ drop-drop (k * width) width parts ∙ ap (λ i. drop i parts) (sym e),
      )

-- ---- scratch

module _ (t : Syntax pattern) (room : ℕ) (label : Bytes) where
  used_long : label_limit < length label → used_by t room label ≡ 0
  unfolding used_by
  used_long h = if_true _ _ _ (ap (λ b. b || ltb room (scratch_needed t (length label))) (lt-ltb _ _ h))

  used_narrow : room < scratch_needed t (length label) → used_by t room label ≡ 0
  unfolding used_by
  used_narrow h = if_true _ _ _ (ap (λ b. ltb label_limit (length label) || b) (lt-ltb _ _ h) ∙ or-true (ltb label_limit (length label)))

  used_all : length label ≤ label_limit → scratch_needed t (length label) ≤ room → used_by t room label ≡ scratch_needed t (length label)
  unfolding used_by
  used_all h k = if_false _ _ _ (λ i. le-ltb _ _ h i || le-ltb _ _ k i)

  used_le : used_by t room label ≤ room
  used_le =
      ⊎_elim (λ h. ⊎_elim (λ k. omega (arith, used_all h k)) (λ k. omega (arith, used_narrow k)) (le_or_lt (scratch_needed t (length label)) room)) (λ h. omega (arith, used_long h))
      (le_or_lt (length label) label_limit)

module _ (table : Bytes) (t : Syntax pattern) (good : decode table ≡ some t) (budget : ℕ) where
  match_used : (label scratch parts : Bytes) → 2 * top_size t ≤ length parts → (match_of table label scratch parts budget).scratch ≡ zeroed (used_by t (length scratch) label) scratch
  unfolding match_of ended
  match_used label scratch parts r =
      fit_cases (λ e. (ended e scratch parts).scratch ≡ zeroed (used_by t (length scratch) label) scratch) table label scratch parts budget t good r
      (λ h. zeros (sym (used_long t (length scratch) label h)))
      (λ h k. zeros (sym (used_narrow t (length scratch) label k)))
      (λ f h. zeros (sym (used_all t (length scratch) label f.label_short f.scratch_long)))
      (λ f h. decided_zeroed (scratch_needed t (length label)) _ (verdict label t) scratch parts ∙ zeros (sym (used_all t (length scratch) label f.label_short f.scratch_long)))
    where
      zeros : {n k : ℕ} → n ≡ k → zeroed n scratch ≡ zeroed k scratch
      zeros = ap (λ n. zeroed n scratch)

  pub turns_scratch : (labels : List Bytes) (scratch verdicts parts : Bytes) → length labels * (2 * top_size t) ≤ length parts
      → (in_turn table (2 * top_size t) budget labels scratch verdicts parts).scratch ≡ zeroed (most_used t (length scratch) labels) scratch
  unfolding in_turn most_used
  turns_scratch [] scratch verdicts parts r = refl
  turns_scratch (label ∷ labels) scratch verdicts parts r =
      let width : ℕ = 2 * top_size t in
      let mine : Bytes = take width parts in
      let s : Bytes = (match_of table label scratch mine budget).scratch in
      let u : ℕ = used_by t (length scratch) label in
      let w : ℕ = most_used t (length scratch) labels in
      let e = suc-mul (length labels) width in
      let i = turns_scratch labels s (drop 1 verdicts) (drop width parts) (omega (arith, length-drop width parts)) in
      i
      ∙ ap (λ n. zeroed (most_used t n labels) s) (match_leaves table label scratch mine budget).same_scratch
      ∙ ap (zeroed w) (match_used label scratch mine (omega (arith, length-take-le width parts (omega arith))))
      ∙ zeroed_twice w u scratch (used_le t (length scratch) label)
      ∙ ap (λ n. zeroed n scratch) (max_comm w u)

-- ---- each as if it were alone

module _ (table : Bytes) (width budget : ℕ) (other : Bytes) where
  -- the answer byte and the part bytes of label k are those of a single call
  pub record Alone (label mine : Bytes) (k : ℕ) (o : BatchOutput) : Type 0 where
    pub byte : get_or o.verdicts k 0 ≡ answer_byte (match_of table label other mine budget).answer
    pub own : part_at width o.parts k ≡ (match_of table label other mine budget).parts

  pub turns_alone : (labels : List Bytes) (scratch verdicts parts : Bytes) → length scratch ≡ length other → length labels * width ≤ length parts → (k : ℕ) → k < length labels
      → Alone (get_or labels k []) (part_at width parts k) k (in_turn table width budget labels scratch verdicts parts)
  unfolding in_turn
  turns_alone [] scratch verdicts parts e r k h = absurd (omega arith)
  turns_alone (label ∷ labels) scratch verdicts parts e r zero h =
      let m : MatchOutput = match_of table label scratch (take width parts) budget in
      let n = own_length table label scratch parts width budget (omega (arith, r, suc-mul (length labels) width)) in
      let s = scratch_ignored table label scratch other (take width parts) budget e in
      let p = ap (λ v. match_of table label other v budget) (sym (part_first width parts)) in
      record {
        byte = ap (λ (x : Answer × Bytes). answer_byte x.0) s ∙ ap (λ (x : MatchOutput). answer_byte x.answer) p;
        own = part_first width _ ∙ take_at m.parts _ width n ∙ ap (λ (x : Answer × Bytes). x.1) s ∙ ap (λ (x : MatchOutput). x.parts) p;
      }
  turns_alone (label ∷ labels) scratch verdicts parts e r (suc k) h =
      let m : MatchOutput = match_of table label scratch (take width parts) budget in
      let n = own_length table label scratch parts width budget (omega (arith, r, suc-mul (length labels) width)) in
      let i = turns_alone labels m.scratch (drop 1 verdicts) (drop width parts) ((match_leaves table label scratch (take width parts) budget).same_scratch ∙ e) (omega (arith, r, suc-mul (length labels) width, length-drop width parts)) k (omega arith) in
      let p = ap (λ v. match_of table (get_or labels k []) other v budget) (sym (part_next width parts k)) in
      record {
        byte = i.byte ∙ ap (λ (x : MatchOutput). answer_byte x.answer) p;
        own = part_next width _ k ∙ ap (λ v. part_at width v k) (drop_at m.parts _ width n) ∙ i.own ∙ ap (λ (x : MatchOutput). x.parts) p;
      }
