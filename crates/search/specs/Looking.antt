-- What comes of one number of a search. Private: a model for contracts inside the library.
use Rattle.std.specs.Prelude.{◌≡◌, Bool, cond, is_some, unwrap_or, Result, Ok, Err, ⊤, ◌∷◌, ℕ, suc, ◌+◌, ◌≤◌, length, take, replicate}
use Rattle.std.proofs.Math.Option.{none, some}
use Rattle.pattern.specs.Numbers.{label_limit}
use Rattle.pattern.specs.Bytes.{Bytes}
use Rattle.pattern.specs.declared.refusal.Refusal.{Refusal}
use Rattle.pattern.specs.declared.refusal.Fault.{Fault}
use Rattle.pattern.specs.Refusals.{number_of}
use Rattle.pattern.specs.Syntax.{pattern, Syntax, size, top_size}
use Rattle.pattern.specs.Decode.{decode}
use Rattle.pattern.specs.Answers.{lent_fault, match_of}
use Rattle.summary.specs.Summary.{summary_of, summary_bytes}
use Rattle.register.specs.Maps.{Map}
use Rattle.register.specs.Layout.{register_of}
use Rattle.register.specs.declared.slot.Kept.{Kept}
use Rattle.search.specs.declared.Searched.{Searched}
use Rattle.search.specs.declared.look.Look.{Look}
use Rattle.search.specs.declared.look.Look.TheVariants.{Match, NoMatch, RuledOut}
use Rattle.search.specs.Search.{unlimited, SearchOutput, search_refused, search_from}

-- the numbers of the code's answer, with scratch and parts afterwards
abbrev pub search_output : Result Searched Fault → (scratch parts : Bytes) → SearchOutput
search_output (Err fault) scratch parts = search_refused (number_of fault.refusal) fault.position scratch parts
search_output (Ok r) scratch parts = record { number = 0; verdict = cond (is_some r.found) 1 0; at = unwrap_or r.found 0; skipped = r.skipped; scratch = scratch; parts = parts }

-- the first n bytes are there and zero
pub record Zeros (n : ℕ) (s : Bytes) : Type 0 where
  pub inside : n ≤ length s
  pub zeros : take n s ≡ replicate n 0

-- no refusal can come of a match
pub record MatchPre (table label scratch parts : Bytes) : Type 0 where
  pub tree : Syntax pattern
  pub good : decode table ≡ some tree
  pub short : length label ≤ label_limit
  pub fits : lent_fault tree label scratch parts ≡ none

pub record IsMatchPost (table label scratch parts : Bytes) (r : Bool) (scratch' parts' : Bytes) : Type 0 where
  pub number : (match_of table label scratch parts unlimited).answer.number ≡ 0
  pub value : (match_of table label scratch parts unlimited).answer.value ≡ cond r 1 0
  pub scratch_is : scratch' ≡ (match_of table label scratch parts unlimited).scratch
  pub parts_is : parts' ≡ (match_of table label scratch parts unlimited).parts

-- a good table with its summary and sizes, and scratch that was cleared so far
pub record LookAtPre (summary table : Bytes) (kept : Kept) (label scratch : Bytes) (cleared : ℕ) : Type 0 where
  pub tree : Syntax pattern
  pub good : decode table ≡ some tree
  pub short : length label ≤ label_limit
  pub atoms_is : kept.atoms ≡ size tree
  pub top_is : kept.top ≡ top_size tree
  pub summary_is : summary ≡ summary_bytes (summary_of tree)
  pub zeros : Zeros cleared scratch

-- how the search goes on
unfoldable pub looked : Result Look Refusal → (k : ℕ) → Map → (label : Bytes) → (skipped : ℕ) → (scratch parts : Bytes) → SearchOutput
looked (Err refusal) k m label skipped scratch parts = search_refused (number_of refusal) k scratch parts
looked (Ok Match) k m label skipped scratch parts = record { number = 0; verdict = 1; at = k; skipped = skipped; scratch = scratch; parts = parts }
looked (Ok (NoMatch reach)) k m label skipped scratch parts = search_from (suc k) m label skipped scratch parts
looked (Ok (RuledOut reach)) k m label skipped scratch parts = search_from (suc k) m label (skipped + 1) scratch parts

-- after no match scratch is zero so far
abbrev pub Reached : Result Look Refusal → (scratch : Bytes) → Type 0
Reached (Err refusal) scratch = ⊤
Reached (Ok Match) scratch = ⊤
Reached (Ok (NoMatch reach)) scratch = Zeros reach scratch
Reached (Ok (RuledOut reach)) scratch = Zeros reach scratch

-- the search goes on so, whatever the number and those after it
pub record LookAtPost (table label scratch parts : Bytes) (r : Result Look Refusal) (scratch' parts' : Bytes) : Type 0 where
  pub goes : (k : ℕ) (m : Map) (skipped : ℕ) → search_from k (table ∷ m) label skipped scratch parts ≡ looked r k m label skipped scratch' parts'
  pub zeros : Reached r scratch'

-- the lent bytes are a register, and the label is within the limit
pub record LookPre (lent label : Bytes) : Type 0 where
  pub map : Map
  pub means : register_of lent ≡ some map
  pub short : length label ≤ label_limit
