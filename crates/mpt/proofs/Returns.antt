-- The number returned and the area afterwards, from what the called function answers. Assumes nothing.
use mathlib.Core.Path.{◌≡◌, refl, sym, ap, ◌∙◌}
use Prim.Native.Nat.{ℕ, ◌≤◌, ◌<◌}
use lib.ListN.{length}
use borrow.Author.Tests.{le-leb, lt-leb}
use Rattle.pattern.specs.Numbers.{ANSWER}
use Rattle.pattern.specs.Bytes.{Bytes, overwrite}
use Rattle.std.specs.Prelude.{Result}
use Rattle.pattern.specs.Answers.{Answer, refusal, MatchOutput}
use Rattle.pattern.specs.declared.refusal.Refusal.{Refusal}
use Rattle.matcher.specs.declared.Verdict.{Verdict}
use Rattle.matcher.specs.Answered.{answer_of, match_output}
use Rattle.register.specs.Maps.{Changed}
use Rattle.search.specs.Search.{SearchOutput, search_of}
use Rattle.mpt.specs.Area.{area_size, four_numbers, area, search_area}
use Rattle.mpt.specs.Calls.{MatchLent, called_if, called, change_call, search_call}

pub short_area : {Lent : Type 0} (a : Answer) (after before : Lent) (answer : Bytes) → length answer < area_size → record { number = ANSWER; lent = before; answer = answer } ≡ called a after before answer
unfolding called called_if
short_area a after before answer h = sym (ap (λ b. called_if b a.number (area a) after before answer) (lt-leb area_size (length answer) h))

-- o is what the call should answer and leave, o' what it does
pub long_area : {O Lent : Type 0} (answer_in : O → Answer) (lent_in : O → Lent) {o o' : O} (before : Lent) (answer : Bytes) (a : Answer) {area' : Bytes}
    → area_size ≤ length answer → o' ≡ o → answer_in o' ≡ a → area' ≡ overwrite (area a) answer
    → record { number = a.number; lent = lent_in o'; answer = area' } ≡ called (answer_in o) (lent_in o) before answer
unfolding called called_if
long_area answer_in lent_in {o} {o'} before answer a h e f w =
    (λ i. record { number = (sym f i).number; lent = lent_in o'; answer = (w ∙ ap (λ x. overwrite (area x) answer) (sym f)) i })
    ∙ (λ i. record { number = (answer_in (e i)).number; lent = lent_in (e i); answer = overwrite (area (answer_in (e i))) answer })
    ∙ sym (ap (λ b. called_if b (answer_in o).number (area (answer_in o)) (lent_in o) before answer) (le-leb area_size (length answer) h))

-- of a match: o is what it should answer and leave
pub long_match : (o : MatchOutput) (scratch parts answer : Bytes) (budget : ℕ) (r : Result Verdict Refusal) (scratch' parts' area' : Bytes) {number : ℕ}
    → area_size ≤ length answer → match_output budget r scratch' parts' ≡ o → number ≡ (answer_of budget r).number → area' ≡ overwrite (area (answer_of budget r)) answer
    → record { number = number; lent = record { scratch = scratch'; parts = parts' }; answer = area' } ≡ called {Lent = MatchLent} o.answer (record { scratch = o.scratch; parts = o.parts }) (record { scratch = scratch; parts = parts }) answer
long_match o scratch parts answer budget r scratch' parts' area' h e n w =
    ap (λ (k : ℕ). record { number = k; lent = record { scratch = scratch'; parts = parts' }; answer = area' }) n
    ∙ long_area (λ (o : MatchOutput). o.answer) (λ (o : MatchOutput). record { scratch = o.scratch; parts = o.parts }) _ _ (answer_of budget r) h e refl w

-- of a call that changes a register: c is what it should answer and leave, o what it does
pub short_change : (c : Changed Bytes) (lent answer : Bytes) → length answer < area_size → record { number = ANSWER; lent = lent; answer = answer } ≡ change_call c lent answer
unfolding change_call
short_change c lent answer h = short_area (refusal c.number 0) c.after lent answer h

pub long_change : (c o : Changed Bytes) (lent answer area' : Bytes) → area_size ≤ length answer → o ≡ c → area' ≡ overwrite (area (refusal o.number 0)) answer
    → record { number = o.number; lent = o.after; answer = area' } ≡ change_call c lent answer
unfolding change_call
long_change c o lent answer area' h e w = long_area (λ (x : Changed Bytes). refusal x.number 0) (λ (x : Changed Bytes). x.after) lent answer (refusal o.number 0) h e refl w

-- of a search: o is what it does
module _ (lent label scratch parts answer : Bytes) where
  pub short_search : length answer < area_size → record { number = ANSWER; lent = record { scratch = scratch; parts = parts }; answer = answer } ≡ search_call lent label scratch parts answer
  unfolding search_call called_if
  short_search h = sym (rw (lt-leb area_size (length answer) h))

  pub long_search : {o : SearchOutput} {area' : Bytes} → area_size ≤ length answer → o ≡ search_of lent label scratch parts → area' ≡ overwrite (four_numbers 0 o.verdict o.at o.skipped) answer
      → record { number = o.number; lent = record { scratch = o.scratch; parts = o.parts }; answer = area' } ≡ search_call lent label scratch parts answer
  unfolding search_call called_if search_area
  long_search {o} h e w =
      (λ i. record { number = o.number; lent = record { scratch = o.scratch; parts = o.parts }; answer = w i })
      ∙ ap (λ (x : SearchOutput). record { number = x.number; lent = record { scratch = x.scratch; parts = x.parts }; answer = overwrite (search_area x) answer }) e
      ∙ sym (rw (le-leb area_size (length answer) h))
