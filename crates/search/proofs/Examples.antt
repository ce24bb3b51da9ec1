-- Searches of a map of three patterns by computation: found, not found, 13 and 14. Assumes nothing.
use mathlib.Core.Path.{◌≡◌, refl}
use mathlib.Core.List.{List, [], ◌∷◌, ◌++◌, map}
use Prim.Native.Nat.{ℕ}
use lib.ListN.{take, replicate}
use Rattle.pattern.specs.Numbers.{WORK, PARTS}
use Rattle.pattern.specs.Bytes.{Bytes, bytes}
use Rattle.pattern.specs.Answers.{Output, compile_of}
use Rattle.pattern.proofs.Computed.{computed}
use Rattle.summary.specs.Summary.{possible, of_class, of_literal, of_both, of_either, often, once, of_repeat, summary_of, length_out, first_out, rules_out}
use Rattle.register.specs.Maps.{Map}
use Rattle.search.specs.Search.{SearchOutput, search_refused, is_ruled_out, search_from}

-- the table of a source
unfoldable pub table_for : Bytes → Bytes
table_for source = let c : Output = compile_of source (replicate 64 0) in take c.answer.value c.bytes

-- none under number 1; a match uses 6, 8 and 6 bytes of scratch for an empty label, and four times as many for one byte
unfoldable pub three : Map
three = table_for (bytes "2N") ∷ [] ∷ table_for (bytes ".N1A") ∷ table_for (bytes "1N") ∷ []

-- a label, how many bytes of scratch and parts are lent, and what is answered and left of them
pub record Example : Type 0 where
  pub label : Bytes
  pub scratch : ℕ
  pub parts : ℕ
  pub output : SearchOutput

abbrev pub answered : (number verdict at skipped : ℕ) → (scratch parts : Bytes) → SearchOutput
answered number verdict at skipped scratch parts = record { number = number; verdict = verdict; at = at; skipped = skipped; scratch = scratch; parts = parts }

-- found at 3 with one skipped by its length and one that was tried; at 2; not found, all skipped, one by its length and two by their first byte; an empty
-- label; three digits: one tried, two skipped by their longest; too few part bytes for a pattern that would be skipped; too little scratch for it, and for the first
unfoldable pub examples : List Example
examples =
    record { label = bytes "7"; scratch = 40; parts = 5; output = answered 0 1 3 1 (replicate 32 0 ++ replicate 8 9) (1 ∷ 0 ∷ 9 ∷ 9 ∷ 9 ∷ []) }
    ∷ record { label = bytes "a"; scratch = 40; parts = 5; output = answered 0 1 2 1 (replicate 32 0 ++ replicate 8 9) (0 ∷ 0 ∷ 1 ∷ 0 ∷ 9 ∷ []) }
    ∷ record { label = bytes "?"; scratch = 40; parts = 5; output = answered 0 0 0 3 (replicate 32 0 ++ replicate 8 9) (replicate 5 9) }
    ∷ record { label = []; scratch = 40; parts = 5; output = answered 0 0 0 3 (replicate 8 0 ++ replicate 32 9) (replicate 5 9) }
    ∷ record { label = bytes "777"; scratch = 136; parts = 5; output = answered 0 0 0 2 (replicate 128 0 ++ replicate 8 9) (replicate 5 9) }
    ∷ record { label = bytes "?"; scratch = 40; parts = 3; output = answered PARTS 0 2 0 (replicate 24 0 ++ replicate 16 9) (replicate 3 9) }
    ∷ record { label = bytes "?"; scratch = 31; parts = 3; output = answered WORK 0 2 0 (replicate 24 0 ++ replicate 7 9) (replicate 3 9) }
    ∷ record { label = bytes "?"; scratch = 23; parts = 1; output = answered WORK 0 0 0 (replicate 23 9) (replicate 1 9) }
    ∷ []

pub examples_hold : map (λ (x : Example). search_from 0 three x.label 0 (replicate x.scratch 9) (replicate x.parts 9)) examples ≡ map (λ (x : Example). x.output) examples
unfolding computed possible of_class of_literal of_both of_either often once of_repeat summary_of length_out first_out rules_out search_refused is_ruled_out search_from table_for three examples
examples_hold = refl
