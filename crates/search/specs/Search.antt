-- What a search of a register answers, and every lent byte afterwards. To be believed.
use Rattle.std.specs.Prelude.{Bool, true, false, cond, [], ◌∷◌, ℕ, suc, ◌+◌, ◌-◌, ◌^◌, eqb, ltb, length}
use Rattle.std.proofs.Math.Option.{none, some}
use Rattle.pattern.specs.Numbers.{label_limit, LABEL, REGISTER}
use Rattle.pattern.specs.Bytes.{Bytes}
use Rattle.pattern.specs.Decode.{decode}
use Rattle.pattern.specs.Answers.{MatchOutput, match_of}
use Rattle.summary.specs.Summary.{rules_out, summary_of}
use Rattle.register.specs.Maps.{Map}
use Rattle.register.specs.Layout.{register_of}

-- "unlimited budget": the largest that can be given, which no match exceeds
abbrev pub unlimited : ℕ
unlimited = 2 ^ 64 - 1

-- the refusal number, 0 for none; the verdict, 1 for yes; at which number it ended, 0 if at none; how many it skipped; scratch and parts afterwards
pub record SearchOutput : Type 0 where
  pub number : ℕ
  pub verdict : ℕ
  pub at : ℕ
  pub skipped : ℕ
  pub scratch : Bytes
  pub parts : Bytes

-- a refusal, which reports none skipped
unfoldable pub search_refused : (number at : ℕ) → (scratch parts : Bytes) → SearchOutput
search_refused number at scratch parts = record { number = number; verdict = 0; at = at; skipped = 0; scratch = scratch; parts = parts }

-- the summary of the table's pattern rules the label out
unfoldable pub is_ruled_out : (table label : Bytes) → Bool
is_ruled_out table label = elim (decode table) [ none ↦ false | some t ↦ rules_out (summary_of t) label ]

-- "ordinary calls in turn with unlimited budget": "the numbers are looked at upwards, none after the first that matches, and one whose pattern gets
-- 13 or 14 ends the search with that refusal and number"; skipped are "exactly those looked at whose summary rules out" the label
unfoldable pub search_from : (k : ℕ) → Map → (label : Bytes) → (skipped : ℕ) → (scratch parts : Bytes) → SearchOutput
search_from k [] label skipped scratch parts = record { number = 0; verdict = 0; at = 0; skipped = skipped; scratch = scratch; parts = parts }
search_from k (t ∷ m) label skipped scratch parts =
    let o : MatchOutput = match_of t label scratch parts unlimited in
    let skipped' : ℕ = skipped + cond (is_ruled_out t label) 1 0 in
    elim (eqb (length t) 0) [
      | true ↦ search_from (suc k) m label skipped scratch parts
      | false ↦ elim (eqb o.answer.number 0) [
        | false ↦ search_refused o.answer.number k o.scratch o.parts
        | true ↦ elim (eqb o.answer.value 1) [
          | true ↦ record { number = 0; verdict = 1; at = k; skipped = skipped'; scratch = o.scratch; parts = o.parts }
          | false ↦ search_from (suc k) m label skipped' o.scratch o.parts
        ]
      ]
    ]

-- "After 18 and 12"
unfoldable pub search_of : (lent label scratch parts : Bytes) → SearchOutput
search_of lent label scratch parts =
    elim (register_of lent) [
      | none ↦ search_refused REGISTER 0 scratch parts
      | some m ↦ elim (ltb label_limit (length label)) [
        | true ↦ search_refused LABEL 0 scratch parts
        | false ↦ search_from 0 m label 0 scratch parts
      ]
    ]
