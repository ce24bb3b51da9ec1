-- The reply to a match, by how it ends. Assumes nothing.
use mathlib.Core.Path.{◌≡◌, refl, sym, ap, subst, ◌∙◌}
use mathlib.Core.Bool.{true, false}
use mathlib.Core.List.{List, [], ◌∷◌}
use mathlib.Core.Option.{Option, none, some}
use Prim.Native.Nat.{ℕ, ◌+◌, ◌*◌, ◌≤◌, ◌<◌}
use native.Mathlib.Omega.{arith}
use lib.ListN.{length, take, replicate}
use lib.Seq.{length-take-le}
use Rattle.pattern.specs.Numbers.{zero_byte, TABLE, parts_room}
use Rattle.pattern.specs.Bytes.{Bytes, numbers_in, zeroed, bytes}
use Rattle.pattern.specs.Syntax.{pattern, Syntax, top_size}
use Rattle.pattern.specs.Parts.{verdict}
use Rattle.pattern.specs.Decode.{tree_of, decode}
use Rattle.pattern.specs.Answers.{MatchOutput, untried, exhausted, decided, ended, match_ending, match_of}
use Rattle.pattern.proofs.Longest.{verdict_length}
use Rattle.pattern.proofs.Calls.{match_cases}
use Rattle.table.specs.declared.Sizes.{Sizes}
use Rattle.std.specs.Prelude.{None, Some}
use Rattle.table.specs.Tested.{tested}
use Rattle.atoms.proofs.Goods.{tested_good, tested_bad}
use Rattle.replies.specs.Sizes.{reply_room, budget}
use Rattle.replies.specs.Text.{unmatched_text, matched_text, ending_text}
use Rattle.replies.specs.Reply.{Reply, ending_reply, label_reply}
use Rattle.std.specs.Prelude.{Result, Ok, Err}
use Rattle.pattern.specs.Refusals.{number_of}
use Rattle.pattern.specs.declared.refusal.Refusal.{Refusal}
use Rattle.matcher.specs.declared.Verdict.{Verdict}
use Rattle.matcher.specs.Answered.{match_output}
use Rattle.pattern.proofs.Refusals.{numbered}
use Rattle.replies.proofs.Ends.{parts_read}
use Rattle.matcher.proofs.Refusals.{few_tops}

-- a reply with these scratch bytes
abbrev reply_with : Bytes → Bytes → Reply
reply_with s v = record { text = v; scratch = s }

-- what is written for a match, by its numbers and T ends in its parts, is the reply
pub record MatchReply (T : ℕ) (m : MatchOutput) (reply : Reply) : Type 0 where
  pub refused_is : 0 < m.answer.number → reply_with m.scratch (unmatched_text m.answer.number) ≡ reply
  pub no_is : m.answer.number ≤ 0 → m.answer.value ≡ 0 → reply_with m.scratch (zero_byte ∷ []) ≡ reply
  pub yes_is : m.answer.number ≤ 0 → ¬ (m.answer.value ≡ 0) → reply_with m.scratch (matched_text (numbers_in (take (2 * T) m.parts))) ≡ reply

module _ (scratch parts : Bytes) (T : ℕ) where
  untried_reply : (number : ℕ) → 0 < number → MatchReply T (ended (untried number) scratch parts) (ending_reply (untried number) scratch parts)
  unfolding ended ending_reply ending_text
  untried_reply number p = record { refused_is = λ h. refl; no_is = λ h k. absurd (omega arith); yes_is = λ h k. absurd (omega arith) }

  exhausted_reply : (used budget : ℕ) → MatchReply T (ended (exhausted used budget) scratch parts) (ending_reply (exhausted used budget) scratch parts)
  unfolding ended ending_reply ending_text
  exhausted_reply used budget = record { refused_is = λ h. refl; no_is = λ h k. absurd (omega arith); yes_is = λ h k. absurd (omega arith) }

  decided_reply : (used trials : ℕ) (v : Option (List ℕ)) → ((ends : List ℕ) → v ≡ some ends → length ends ≡ T)
      → MatchReply T (ended (decided used trials v) scratch parts) (ending_reply (decided used trials v) scratch parts)
  unfolding ended ending_reply ending_text bytes
  decided_reply used trials none l = record { refused_is = λ h. absurd (omega arith); no_is = λ h k. refl; yes_is = λ h k. absurd (k refl) }
  decided_reply used trials (some ends) l = record {
    refused_is = λ h. absurd (omega arith);
    no_is = λ h k. absurd (omega arith);
    yes_is = λ h k. ap (λ es. reply_with (zeroed used scratch) (matched_text es)) (parts_read ends T parts (l ends refl));
  }

-- the sizes that the test answers have the T of the table's tree
top_is : (table : Bytes) (sizes : Sizes) → Some sizes ≡ tested (decode table) → (t : Syntax pattern) → decode table ≡ some t → sizes.top ≡ top_size t
top_is table sizes g t d =
    let k = tested_good table sizes g in
    let x : some (tree_of table) ≡ some t = sym k.good.decoded ∙ d in
    let e : tree_of table ≡ t = cc in
    k.top_is ∙ ap top_size e

-- the first T parts of every table fit in the parts that are lent, and their text in a reply
pub record PartsInRoom (T : ℕ) (parts : Bytes) : Type 0 where
  pub within : 2 * T ≤ length parts
  pub size : length (take (2 * T) parts) ≡ 2 * T
  pub text : 1 + 3 * length (take (2 * T) parts) ≤ reply_room

pub parts_in_room : (table : Bytes) (sizes : Sizes) (parts : Bytes) → Some sizes ≡ tested (decode table) → length parts ≡ parts_room → PartsInRoom sizes.top parts
parts_in_room table sizes parts g l =
    let f : 2 * sizes.top ≤ length parts = omega (arith, few_tops table sizes g) in
    let e : length (take (2 * sizes.top) parts) ≡ 2 * sizes.top = length-take-le (2 * sizes.top) parts f in
    record { within = f; size = e; text = omega arith }

-- a bad table
pub bad_reply : (table label scratch : Bytes) → None ≡ tested (decode table) → reply_with scratch (unmatched_text TABLE) ≡ label_reply table label scratch
unfolding label_reply match_ending ending_reply ending_text ended
bad_reply table label scratch e = sym (rw (tested_bad table e))

-- what the matching call answers, and the scratch and parts that it leaves
module _ (table label scratch : Bytes) (sizes : Sizes) (g : Some sizes ≡ tested (decode table)) (r : Result Verdict Refusal) (s p : Bytes)
    (e : match_output budget r s p ≡ match_of table label scratch (replicate parts_room 0) budget) where
  match_reply : MatchReply sizes.top (match_output budget r s p) (label_reply table label scratch)
  unfolding label_reply match_of
  match_reply =
      let parts : Bytes = replicate parts_room 0 in
      let T : ℕ = sizes.top in
      subst (λ m. MatchReply T m (label_reply table label scratch)) (sym e)
      (match_cases (λ y. MatchReply T (ended y scratch parts) (ending_reply y scratch parts)) (decode table) label scratch parts budget
      (λ f l h. untried_reply scratch parts T f (omega arith))
      (λ t d f h. exhausted_reply scratch parts T _ _)
      (λ t d f h. decided_reply scratch parts T _ _ (verdict label t) (λ ends v. verdict_length label t ends v ∙ sym (top_is table sizes g t d))))

  match_reply_of : (q : Result Verdict Refusal) → r ≡ q → MatchReply sizes.top (match_output budget q s p) (label_reply table label scratch)
  match_reply_of q f = subst (λ m. MatchReply sizes.top (match_output budget m s p) (label_reply table label scratch)) f match_reply

  pub unmatched_reply : (x : Refusal) → r ≡ Err x → reply_with s (unmatched_text (number_of x)) ≡ label_reply table label scratch
  unmatched_reply x f = let n = numbered x in (match_reply_of (Err x) f).refused_is (omega arith)

  pub no_reply : (v : Verdict) → r ≡ Ok v → v.matches ≡ false → reply_with s (zero_byte ∷ []) ≡ label_reply table label scratch
  no_reply v f h = (match_reply_of (Ok v) f).no_is (omega arith) (rw h refl)

  pub yes_reply : (v : Verdict) → r ≡ Ok v → v.matches ≡ true → reply_with s (matched_text (numbers_in (take (2 * sizes.top) p))) ≡ label_reply table label scratch
  yes_reply v f h = (match_reply_of (Ok v) f).yes_is (omega arith) (λ z. let one = rw h at z in absurd (omega arith))
