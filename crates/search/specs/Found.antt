-- What the theorems say of a search: what it finds, what it skips, what it leaves, and the ordinary calls that it equals. To be believed.
use Rattle.std.specs.Prelude.{◌≡◌, ◌↔◌, ◌⊎◌, true, false, cond, List, [], ◌∷◌, ℕ, zero, suc, ◌+◌, max, ◌≤◌, ◌<◌, eqb, length, take}
use Rattle.std.proofs.Math.Option.{none, some}
use Rattle.pattern.specs.Numbers.{label_limit, LABEL, WORK, PARTS, REGISTER, MISSING}
use Rattle.pattern.specs.Bytes.{Bytes, overwrite, zeroed}
use Rattle.pattern.specs.Syntax.{pattern, Syntax}
use Rattle.pattern.specs.Meaning.{Satisfies}
use Rattle.pattern.specs.Parts.{IsVerdict}
use Rattle.pattern.specs.Decode.{decode}
use Rattle.pattern.specs.Answers.{MatchOutput, scratch_needed, part_bytes, lent_fault}
use Rattle.register.specs.Maps.{numbers, Map, table_of}
use Rattle.register.specs.Layout.{register_of}
use Rattle.search.specs.Search.{SearchOutput, search_refused, is_ruled_out}

-- ---- over the tables that are looked at

-- "exactly those looked at whose summary rules out" the label
unfoldable pub ruled_out_count : Map → (label : Bytes) → ℕ
ruled_out_count [] label = 0
ruled_out_count (t ∷ m) label = cond (is_ruled_out t label) 1 0 + ruled_out_count m label

-- the scratch bytes that a match of a table uses, none where there is no table
unfoldable pub scratch_of : (table label : Bytes) → ℕ
scratch_of table label = elim (decode table) [ none ↦ 0 | some p ↦ scratch_needed p (length label) ]

-- the most that one of them uses
unfoldable pub most_scratch : Map → (label : Bytes) → ℕ
most_scratch [] label = 0
most_scratch (t ∷ m) label = max (scratch_of t label) (most_scratch m label)

-- ---- how a search ends

-- a table does not end it: if there is one, what is lent suffices and the label does not satisfy its pattern
pub record Passed (label scratch parts table : Bytes) : Type 0 where
  pub fits : (p : Syntax pattern) → decode table ≡ some p → lent_fault p label scratch parts ≡ none
  pub unsatisfied : (p : Syntax pattern) → decode table ≡ some p → ¬ Satisfies p label

module _ (m : Map) (label scratch parts : Bytes) where
  -- "the lowest number whose pattern matches a label"; "none after the first that matches"
  pub record FoundAt (k : ℕ) (p : Syntax pattern) : Type 0 where
    pub kept : decode (table_of m k) ≡ some p
    pub fits : lent_fault p label scratch parts ≡ none
    pub satisfied : Satisfies p label
    pub lowest : (j : ℕ) → j < k → Passed label scratch parts (table_of m j)

  -- "one whose pattern gets 13 or 14", "even where the summary would skip it"
  pub record RefusedAt (number k : ℕ) (p : Syntax pattern) : Type 0 where
    pub kept : decode (table_of m k) ≡ some p
    pub fault : lent_fault p label scratch parts ≡ some number
    pub lowest : (j : ℕ) → j < k → Passed label scratch parts (table_of m j)

  -- "if none does"
  abbrev pub NoneFound : Type 0
  NoneFound = (j : ℕ) → Passed label scratch parts (table_of m j)

  -- ---- all that it answers and leaves: scratch has zeros as far as the calls reached that were made

  -- yes at number k, "with its parts"
  abbrev pub found_output : (k : ℕ) → (ends : List ℕ) → SearchOutput
  found_output k ends = record {
    number = 0;
    verdict = 1;
    at = k;
    skipped = ruled_out_count (take (suc k) m) label;
    scratch = zeroed (most_scratch (take (suc k) m) label) scratch;
    parts = overwrite (part_bytes ends) parts;
  }

  -- "it answers no, number 0, and writes no parts"
  abbrev pub none_output : SearchOutput
  none_output = record { number = 0; verdict = 0; at = 0; skipped = ruled_out_count m label; scratch = zeroed (most_scratch m label) scratch; parts = parts }

  -- "a search ended by 13 or 14 keeps the zeros of the calls before"
  abbrev pub refused_output : (number k : ℕ) → SearchOutput
  refused_output number k = search_refused number k (zeroed (most_scratch (take k m) label) scratch) parts

  -- there is one of these endings, and each has its whole output
  pub record Ends (o : SearchOutput) : Type 0 where
    pub one : ((k : ℕ) × (p : Syntax pattern) × FoundAt k p) ⊎ NoneFound ⊎ ((number : ℕ) × (k : ℕ) × (p : Syntax pattern) × RefusedAt number k p)
    pub found : (k : ℕ) (p : Syntax pattern) → FoundAt k p → (ends : List ℕ) × IsVerdict label p (some ends) × (o ≡ found_output k ends)
    pub not_found : NoneFound → o ≡ none_output
    pub refused : (number k : ℕ) (p : Syntax pattern) → RefusedAt number k p → o ≡ refused_output number k

  -- each answer exactly where its ending is
  pub record Answers (o : SearchOutput) : Type 0 where
    pub yes : (k : ℕ) → ((o.number ≡ 0) × (o.verdict ≡ 1) × (o.at ≡ k)) ↔ ((p : Syntax pattern) × FoundAt k p)
    pub not_found : ((o.number ≡ 0) × (o.verdict ≡ 0)) ↔ NoneFound
    pub refused : (number k : ℕ) → ((o.number ≡ number) × ¬ (number ≡ 0) × (o.at ≡ k)) ↔ ((p : Syntax pattern) × RefusedAt number k p)

-- ---- where what is lent suffices for every pattern

module _ (m : Map) (label : Bytes) where
  -- the label satisfies no pattern that is kept under this number
  abbrev pub Unsatisfied : (k : ℕ) → Type 0
  Unsatisfied k = (p : Syntax pattern) → decode (table_of m k) ≡ some p → ¬ Satisfies p label

  -- "the lowest number whose pattern matches a label"
  pub record Lowest (k : ℕ) (p : Syntax pattern) : Type 0 where
    pub kept : decode (table_of m k) ≡ some p
    pub satisfied : Satisfies p label
    pub below : (j : ℕ) → j < k → Unsatisfied j

  -- what is answered then
  pub record Finds (o : SearchOutput) : Type 0 where
    pub number : o.number ≡ 0
    pub yes : (k : ℕ) → ((o.verdict ≡ 1) × (o.at ≡ k)) ↔ ((p : Syntax pattern) × Lowest k p)
    pub not_found : (o.verdict ≡ 0) ↔ ((j : ℕ) → Unsatisfied j)

-- ---- the numbers of a search

-- "After 18 and 12": each exactly where it applies, with every lent byte as it was
pub record Refuses (lent label scratch parts : Bytes) (o : SearchOutput) : Type 0 where
  pub register : (o.number ≡ REGISTER) ↔ (register_of lent ≡ none)
  pub long : (o.number ≡ LABEL) ↔ ((m : Map) × (register_of lent ≡ some m) × (label_limit < length label))
  pub untouched : (o.number ≡ REGISTER) ⊎ (o.number ≡ LABEL) → o ≡ search_refused o.number 0 scratch parts

-- which numbers there may be, and lengths as lent
pub record Bounded (scratch parts : Bytes) (o : SearchOutput) : Type 0 where
  pub number : (o.number ≡ 0) ⊎ (o.number ≡ LABEL) ⊎ (o.number ≡ WORK) ⊎ (o.number ≡ PARTS) ⊎ (o.number ≡ REGISTER)
  pub verdict : o.verdict ≤ 1
  pub at : o.at < numbers
  pub skipped : o.skipped ≤ numbers
  pub same_scratch : length o.scratch ≡ length scratch
  pub same_parts : length o.parts ≡ length parts

-- ---- "Answer, parts and scratch equal those of ordinary calls in turn with unlimited budget"

-- what calls in turn answer and leave: a search's output but for how many it skipped
pub record TurnsOutput : Type 0 where
  pub number : ℕ
  pub verdict : ℕ
  pub at : ℕ
  pub scratch : Bytes
  pub parts : Bytes

abbrev pub turns_of : SearchOutput → TurnsOutput
turns_of o = record { number = o.number; verdict = o.verdict; at = o.at; scratch = o.scratch; parts = o.parts }

-- calls for c numbers in turn from k on: after 19 or no comes the next, a yes or any other refusal is the last
unfoldable pub calls_from : (call : (number : ℕ) → (scratch parts : Bytes) → MatchOutput) → (c k : ℕ) → (scratch parts : Bytes) → TurnsOutput
calls_from call zero k scratch parts = record { number = 0; verdict = 0; at = 0; scratch = scratch; parts = parts }
calls_from call (suc c) k scratch parts =
    let o : MatchOutput = call k scratch parts in
    let later : TurnsOutput = calls_from call c (suc k) o.scratch o.parts in
    elim (eqb o.answer.number MISSING) [
      | true ↦ later
      | false ↦ elim (eqb o.answer.number 0) [
        | false ↦ record { number = o.answer.number; verdict = 0; at = k; scratch = o.scratch; parts = o.parts }
        | true ↦ elim (eqb o.answer.value 1) [
          | true ↦ record { number = 0; verdict = 1; at = k; scratch = o.scratch; parts = o.parts }
          | false ↦ later
        ]
      ]
    ]
