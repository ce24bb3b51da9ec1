-- A search is ordinary calls by number in turn. Assumes nothing.
use mathlib.Core.Path.{◌≡◌, refl, sym, ap, ◌∙◌}
use mathlib.Core.Logic.{⊎_elim}
use mathlib.Core.Bool.{Bool, true, false, cond}
use mathlib.Core.List.{[], ◌∷◌}
use mathlib.Core.Option.{some}
use Prim.Native.Nat.{ℕ, suc, ◌+◌, ◌≤◌}
use native.Mathlib.Omega.{arith}
use lib.Dec.{eqb}
use lib.ListN.{length}
use borrow.Author.Tests.{eq-eqb, ne_eqb}
use Rattle.pattern.specs.Numbers.{label_limit, MISSING}
use Rattle.pattern.specs.Bytes.{Bytes}
use Rattle.pattern.specs.Answers.{MatchOutput, untried, ended, match_of}
use Rattle.pattern.proofs.Tests.{if_true, if_false}
use Rattle.pattern.proofs.Calls.{match_number}
use Rattle.register.specs.Maps.{numbers, Map, match_in}
use Rattle.register.specs.Layout.{register_of}
use Rattle.register.specs.Register.{match_number_of}
use Rattle.register.proofs.Meaning.{meant}
use Rattle.search.specs.Search.{unlimited, search_refused, is_ruled_out, search_from, search_of}
use Rattle.search.specs.Found.{turns_of, calls_from}
use Rattle.search.proofs.Steps.{search_goes}

module _ (label : Bytes) where
  -- calls that answer as a plain map does from number k on
  abbrev Answering : (ℕ → Bytes → Bytes → MatchOutput) → ℕ → Map → Type 0
  Answering call k m = (j : ℕ) (scratch parts : Bytes) → call (k + j) scratch parts ≡ match_in m j label scratch parts unlimited

  answering_later : (call : ℕ → Bytes → Bytes → MatchOutput) (k : ℕ) (t : Bytes) (m : Map) → Answering call k (t ∷ m) → Answering call (suc k) m
  unfolding match_in
  answering_later call k t m h j scratch parts = let e : suc k + j ≡ k + suc j = omega arith in ap (λ n. call n scratch parts) e ∙ h (suc j) scratch parts

  -- one call, and a step of the search
  module _ (call : ℕ → Bytes → Bytes → MatchOutput) (c k : ℕ) (t : Bytes) (m : Map) (skipped : ℕ) (scratch parts : Bytes)
      (same : call k scratch parts ≡ match_in (t ∷ m) 0 label scratch parts unlimited)
      (later : (n : ℕ) (s p : Bytes) → calls_from call c (suc k) s p ≡ turns_of (search_from (suc k) m label n s p)) where
    abbrev o : MatchOutput
    o = match_of t label scratch parts unlimited

    abbrev Goal : Type 0
    Goal = calls_from call (suc c) k scratch parts ≡ turns_of (search_from k (t ∷ m) label skipped scratch parts)

    turn_missing : eqb (length t) 0 ≡ true → Goal
    unfolding calls_from search_from ended match_in
    turn_missing e =
        let x : call k scratch parts ≡ ended (untried MISSING) scratch parts = same ∙ if_true _ _ _ e in
        if_true _ _ _ (eq-eqb _ _ (ap (λ (y : MatchOutput). y.answer.number) x))
        ∙ ap (λ (y : MatchOutput). calls_from call c (suc k) y.scratch y.parts) x
        ∙ later skipped scratch parts
        ∙ ap turns_of (sym (if_true _ _ _ e))

    module _ (e : eqb (length t) 0 ≡ false) where
      called : call k scratch parts ≡ o
      unfolding match_in
      called = same ∙ if_false _ _ _ e

      number_called : (call k scratch parts).answer.number ≡ o.answer.number
      number_called = ap (λ (y : MatchOutput). y.answer.number) called

      not_missing : eqb (call k scratch parts).answer.number MISSING ≡ false
      not_missing =
          ne_eqb (call k scratch parts).answer.number MISSING
          (λ z. ⊎_elim (λ n. omega (arith, n, z, number_called)) (λ (l, u). omega (arith, u, z, number_called)) (match_number t label scratch parts unlimited))

      turn_refused : eqb o.answer.number 0 ≡ false → Goal
      unfolding calls_from search_from search_refused
      turn_refused n =
          if_false _ _ _ not_missing
          ∙ if_false _ _ _ (ap (λ x. eqb x 0) number_called ∙ n)
          ∙ ap (λ (y : MatchOutput). record { number = y.answer.number; verdict = 0; at = k; scratch = y.scratch; parts = y.parts }) called
          ∙ ap turns_of (sym (if_false _ _ _ e ∙ if_false _ _ _ n))

      module _ (n : eqb o.answer.number 0 ≡ true) where
        value_called : eqb (call k scratch parts).answer.value 1 ≡ eqb o.answer.value 1
        value_called = ap (λ (y : MatchOutput). eqb y.answer.value 1) called

        turn_yes : eqb o.answer.value 1 ≡ true → Goal
        unfolding calls_from search_from
        turn_yes v =
            if_false _ _ _ not_missing
            ∙ if_true _ _ _ (ap (λ x. eqb x 0) number_called ∙ n)
            ∙ if_true _ _ _ (value_called ∙ v)
            ∙ ap (λ (y : MatchOutput). record { number = 0; verdict = 1; at = k; scratch = y.scratch; parts = y.parts }) called
            ∙ ap turns_of (sym (if_false _ _ _ e ∙ if_true _ _ _ n ∙ if_true _ _ _ v))

        turn_no : eqb o.answer.value 1 ≡ false → Goal
        unfolding calls_from search_from
        turn_no v =
            if_false _ _ _ not_missing
            ∙ if_true _ _ _ (ap (λ x. eqb x 0) number_called ∙ n)
            ∙ if_false _ _ _ (value_called ∙ v)
            ∙ ap (λ (y : MatchOutput). calls_from call c (suc k) y.scratch y.parts) called
            ∙ later (skipped + cond (is_ruled_out t label) 1 0) o.scratch o.parts
            ∙ ap turns_of (sym (if_false _ _ _ e ∙ if_true _ _ _ n ∙ if_false _ _ _ v))

    turn : Goal
    turn = go (eqb (length t) 0) refl
      where
        verdict_is : eqb (length t) 0 ≡ false → eqb o.answer.number 0 ≡ true → (b : Bool) → eqb o.answer.value 1 ≡ b → Goal
        verdict_is e n true v = turn_yes e n v
        verdict_is e n false v = turn_no e n v

        number_is : eqb (length t) 0 ≡ false → (b : Bool) → eqb o.answer.number 0 ≡ b → Goal
        number_is e true n = verdict_is e n (eqb o.answer.value 1) refl
        number_is e false n = turn_refused e n

        go : (b : Bool) → eqb (length t) 0 ≡ b → Goal
        go true e = turn_missing e
        go false e = number_is e (eqb o.answer.number 0) refl

  -- all of them, whatever the tables are
  pub from_turns : (call : ℕ → Bytes → Bytes → MatchOutput) (m : Map) (k : ℕ) → Answering call k m → (skipped : ℕ) (scratch parts : Bytes)
      → calls_from call (length m) k scratch parts ≡ turns_of (search_from k m label skipped scratch parts)
  from_turns call [] k h skipped scratch parts = unfold calls_from search_from in refl
  from_turns call (t ∷ m) k h skipped scratch parts =
      let e : k ≡ k + 0 = omega arith in
      turn call (length m) k t m skipped scratch parts (ap (λ n. call n scratch parts) e ∙ h 0 scratch parts) (λ n s p. from_turns call m (suc k) (answering_later call k t m h) n s p)

-- "Answer, parts and scratch equal those of ordinary calls in turn with unlimited budget": of the register's own calls by number
pub search_in_turn : (lent label scratch parts : Bytes) (m : Map) → register_of lent ≡ some m → length label ≤ label_limit
    → turns_of (search_of lent label scratch parts) ≡ calls_from (λ k s p. match_number_of lent k label s p unlimited) numbers 0 scratch parts
unfolding match_number_of
search_in_turn lent label scratch parts m good short =
    let call : ℕ → Bytes → Bytes → MatchOutput = λ k s p. match_number_of lent k label s p unlimited in
    let z : (j : ℕ) → 0 + j ≡ j = λ j. omega arith in
    let h : Answering label call 0 m = λ j s p. ap (λ n. call n s p) (z j) ∙ rw (match_number_of, good) in
    ap turns_of (search_goes lent label scratch parts m good short)
    ∙ sym (from_turns label call m 0 h 0 scratch parts)
    ∙ ap (λ c. calls_from call c 0 scratch parts) (meant lent m good).proper.count
