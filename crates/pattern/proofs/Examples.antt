-- The examples P1 to P14 and the easy errors, from their source texts, by computation. Assumes nothing.
use mathlib.Core.Path.{◌≡◌, refl}
use mathlib.Core.List.{List, [], ◌∷◌, ◌++◌, map}
use mathlib.Core.Option.{Option, none, some}
use Prim.Native.Nat.{ℕ}
use lib.ListN.{take, replicate}
use Rattle.pattern.specs.Numbers.{BUDGET}
use Rattle.pattern.specs.Bytes.{Bytes, overwrite, bytes}
use Rattle.pattern.specs.Answers.{Output, compile_of, MatchOutput, part_bytes, match_of}
use Rattle.pattern.proofs.Computed.{computed}

-- what a source and a label give under a budget: compiled into 128 bytes, then matched with 1,024 bytes of scratch and 8 of parts
unfoldable pub run_example : Bytes → Bytes → ℕ → MatchOutput
run_example source label budget =
    let c : Output = compile_of source (replicate 128 7) in
    match_of (take c.answer.value c.bytes) label (replicate 1024 7) (replicate 8 7) budget

-- an example: what is run, and the number, verdict, parts and, where the paper says them, trials that it must answer
pub record Example : Type 0 where
  pub source : Bytes
  pub label : Bytes
  pub budget : ℕ
  pub number : ℕ
  pub value : ℕ
  pub ends : List ℕ
  pub count : Option ℕ

-- under the line tool's budget: a match with these parts, and none
abbrev matches : Bytes → Bytes → List ℕ → Option ℕ → Example
matches source label ends count =
    record { source = source; label = label; budget = 10_000_000; number = 0; value = 1; ends = ends; count = count }

abbrev fails : Bytes → Bytes → Option ℕ → Example
fails source label count = record { source = source; label = label; budget = 10_000_000; number = 0; value = 0; ends = []; count = count }

-- P1 to P14, P13 as 02 has it; P9 also under budget 2
unfoldable pub examples : List Example
examples =
    matches (bytes "3N1\".\"2N.U") (bytes "123.45") (3 ∷ 4 ∷ 6 ∷ 6 ∷ []) none
    ∷ fails (bytes "3N1\".\"2N.U") (bytes "123.45a") none
    ∷ matches (bytes "1.6N1.2N") (bytes "1234567") (6 ∷ 7 ∷ []) none
    ∷ matches (bytes ".N.N") (bytes "12") (2 ∷ 2 ∷ []) none
    ∷ matches (bytes "2(1N,1A)") (bytes "a1") (2 ∷ []) none
    ∷ matches (bytes "9000(.N)") (bytes "12") (2 ∷ []) none
    ∷ record { source = bytes "300\"\""; label = []; budget = 0; number = 0; value = 1; ends = 0 ∷ []; count = some 0 }
    ∷ fails (bytes "300N") (bytes "12") none
    ∷ record { source = bytes "1N"; label = bytes "7"; budget = 3; number = 0; value = 1; ends = 1 ∷ []; count = some 3 }
    ∷ record { source = bytes "1N"; label = bytes "7"; budget = 2; number = BUDGET; value = 0; ends = []; count = some 2 }
    ∷ fails (bytes "1N") (bytes "x") (some 4)
    ∷ fails (bytes "1N1A") [] (some 1)
    ∷ matches (bytes "0N") [] (0 ∷ []) (some 0)
    ∷ matches (bytes "1E") (200 ∷ []) (1 ∷ []) none
    ∷ matches (bytes "1\"a\"\"b\"") (bytes "a\"b") (3 ∷ []) none
    ∷ []

-- the easy errors that P1 to P14 leave out, and letters in union
unfoldable pub easy_errors : List Example
easy_errors =
    matches (bytes ".N1N") (bytes "12") (1 ∷ 2 ∷ []) none
    ∷ matches (bytes ".(.N,1A)") (bytes "a") (1 ∷ []) none
    ∷ matches (bytes ".(.N)") [] (0 ∷ []) none
    ∷ fails (bytes ".5N") (bytes "123456") none
    ∷ matches (bytes ".5N") [] (0 ∷ []) none
    ∷ matches (bytes "2NA") (bytes "a1") (2 ∷ []) none
    ∷ fails (bytes "1NA") (bytes "-") none
    ∷ []

-- counts worked out by hand, with more bodies and followers than P1 to P14 have
unfoldable pub counts : List Example
counts =
    matches (bytes "2N") (bytes "12") (2 ∷ []) (some 17)
    ∷ matches (bytes ".N1N") (bytes "12") (1 ∷ 2 ∷ []) (some 34)
    ∷ matches (bytes "1N.N") (bytes "12") (1 ∷ 2 ∷ []) (some 32)
    ∷ matches (bytes "2(1N,1A)") (bytes "a1") (2 ∷ []) (some 35)
    ∷ matches (bytes "1(1N1A,1A1N)1N") (bytes "a12") (2 ∷ 3 ∷ []) (some 167)
    ∷ matches (bytes "1.6N1.2N") (bytes "1234567") (6 ∷ 7 ∷ []) (some 984)
    ∷ fails (bytes "300N") (bytes "12") (some 17)
    ∷ []

-- what an example is found to answer, its trials only where the example says them
unfoldable pub answered : Example → ℕ × ℕ × Bytes × Option ℕ
answered e =
    let m : MatchOutput = run_example e.source e.label e.budget in
    (m.answer.number, m.answer.value, m.parts, elim e.count [ none ↦ none | some c ↦ some m.answer.trials ])

-- what it must answer; parts are written on yes only
unfoldable pub due : Example → ℕ × ℕ × Bytes × Option ℕ
due e = (e.number, e.value, overwrite (part_bytes e.ends) (replicate 8 7), e.count)

-- P1 to P14 together, the easy errors together, the counts together
pub examples_hold : (map answered examples ≡ map due examples) × (map answered easy_errors ≡ map due easy_errors) × (map answered counts ≡ map due counts)
unfolding computed run_example examples easy_errors counts answered due
examples_hold = (refl, refl, refl)

-- ---- whole calls, with bare numbers: 4 atoms, of which 2 are top-level, 2 bytes of label, so 108 bytes of scratch and 4 of parts

unfoldable pub compiled_table : Bytes → Bytes
compiled_table source = let c : Output = compile_of source (replicate 128 7) in take c.answer.value c.bytes

abbrev table_4 : Bytes
table_4 = compiled_table (bytes "1(1N,1A)1N")

abbrev left_alone : ℕ → (scratch parts : ℕ) → MatchOutput
left_alone number scratch parts =
    record { answer = record { number = number; position = 0; value = 0; trials = 0 }; scratch = replicate scratch 7; parts = replicate parts 7 }

-- yes, no, and the budget one short; what is lent beyond the need stays
pub verdicts_hold : (match_of table_4 (bytes "a1") (replicate 110 7) (replicate 5 7) 44
    ≡ record { answer = record { number = 0; position = 0; value = 1; trials = 44 }; scratch = replicate 108 0 ++ 7 ∷ 7 ∷ []; parts = 1 ∷ 0 ∷ 2 ∷ 0 ∷ 7 ∷ [] })
    × (match_of table_4 (bytes "aa") (replicate 110 7) (replicate 5 7) 1000
    ≡ record { answer = record { number = 0; position = 0; value = 0; trials = 46 }; scratch = replicate 108 0 ++ 7 ∷ 7 ∷ []; parts = replicate 5 7 })
    × (match_of table_4 (bytes "a1") (replicate 110 7) (replicate 5 7) 43
    ≡ record { answer = record { number = 15; position = 0; value = 0; trials = 43 }; scratch = replicate 108 0 ++ 7 ∷ 7 ∷ []; parts = replicate 5 7 })
unfolding computed compiled_table
verdicts_hold = (refl, refl, refl)

-- 11 to 14, each with all that come after it; the limits themselves are taken
pub refusals_hold : (match_of (77 ∷ 80 ∷ 84 ∷ []) (replicate 256 65) (7 ∷ []) (7 ∷ []) 0 ≡ left_alone 11 1 1)
    × (match_of table_4 (replicate 256 65) (7 ∷ []) (7 ∷ []) 0 ≡ left_alone 12 1 1)
    × (match_of table_4 (replicate 255 65) (7 ∷ []) (7 ∷ []) 0 ≡ left_alone 13 1 1)
    × (match_of table_4 (bytes "a1") (replicate 107 7) (replicate 3 7) 0 ≡ left_alone 13 107 3)
    × (match_of table_4 (bytes "a1") (replicate 108 7) (replicate 3 7) 0 ≡ left_alone 14 108 3)
    × ((match_of table_4 (bytes "a1") (replicate 108 7) (replicate 4 7) 44).answer.number ≡ 0)
unfolding computed compiled_table
refusals_hold = (refl, refl, refl, refl, refl, refl)
