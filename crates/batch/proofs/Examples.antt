-- Batches by computation: a label of every answer, and each reason for a refusal. Assumes nothing.
use mathlib.Core.Path.{◌≡◌, refl}
use mathlib.Core.List.{List, [], ◌∷◌, ◌++◌, map}
use Prim.Native.Nat.{ℕ}
use lib.ListN.{take, replicate}
use Rattle.pattern.specs.Numbers.{TABLE, LABEL, WORK, BUDGET, BATCH}
use Rattle.pattern.specs.Bytes.{Bytes, bytes, numbers_in}
use Rattle.pattern.specs.Answers.{Output, compile_of, part_bytes}
use Rattle.pattern.proofs.Computed.{computed}
use Rattle.batch.specs.Batch.{labels_from, misplaced, unfit, answer_byte, BatchOutput, batch_output, in_turn, batched, batch_of}

-- the table of 1N
unfoldable pub digit_table : Bytes
digit_table = let c : Output = compile_of (bytes "1N") (replicate 64 0) in take c.answer.value c.bytes

-- under a budget of 3
abbrev pub run : (table buffer ends scratch verdicts parts : Bytes) → BatchOutput
run table buffer ends scratch verdicts parts = batch_of table buffer ends scratch verdicts parts 3

-- an empty label, which is no; yes; 256 bytes; out of budget; two bytes, too long for 30 bytes of scratch; yes; an empty one. A byte of the buffer and of each output is left
pub each_answer : run digit_table (bytes "7" ++ replicate 256 55 ++ bytes "x128?") (part_bytes (0 ∷ 1 ∷ 257 ∷ 258 ∷ 260 ∷ 261 ∷ 261 ∷ [])) (replicate 30 9) (replicate 8 9) (replicate 15 9)
    ≡ batch_output 0 (replicate 24 0 ++ replicate 6 9) (0 ∷ 1 ∷ LABEL ∷ BUDGET ∷ WORK ∷ 1 ∷ 0 ∷ 9 ∷ []) (9 ∷ 9 ∷ 1 ∷ 0 ∷ replicate 6 9 ++ 1 ∷ 0 ∷ replicate 3 9)
unfolding computed numbers_in labels_from misplaced unfit answer_byte in_turn batched batch_of digit_table
each_answer = refl

-- two labels of one byte, with ends and outputs of these lengths, and the number that it must answer
pub record Limit : Type 0 where
  pub ends : Bytes
  pub verdicts : ℕ
  pub parts : ℕ
  pub number : ℕ

abbrev pub limit : (ends : Bytes) (verdicts parts number : ℕ) → Limit
limit ends verdicts parts number = record { ends = ends; verdicts = verdicts; parts = parts; number = number }

-- exact lengths; half an end, an end that falls, one past the buffer; each output one byte short; 96 and 97 empty labels
unfoldable pub limits : List Limit
limits =
    limit (1 ∷ 0 ∷ 2 ∷ 0 ∷ []) 2 4 0
    ∷ limit (1 ∷ 0 ∷ 2 ∷ []) 2 4 BATCH
    ∷ limit (1 ∷ 0 ∷ 0 ∷ 0 ∷ []) 2 4 BATCH
    ∷ limit (1 ∷ 0 ∷ 3 ∷ 0 ∷ []) 2 4 BATCH
    ∷ limit (1 ∷ 0 ∷ 2 ∷ 0 ∷ []) 1 4 BATCH
    ∷ limit (1 ∷ 0 ∷ 2 ∷ 0 ∷ []) 2 3 BATCH
    ∷ limit (replicate 192 0) 96 192 0
    ∷ limit (replicate 194 0) 97 194 BATCH
    ∷ []

pub limits_hold : map (λ (l : Limit). (run digit_table (bytes "78") l.ends (replicate 24 9) (replicate l.verdicts 9) (replicate l.parts 9)).number) limits ≡ map (λ (l : Limit). l.number) limits
unfolding computed numbers_in labels_from misplaced unfit answer_byte in_turn batched batch_of digit_table limits
limits_hold = refl

-- a bad table before half an end
pub table_first : run [] (bytes "78") (1 ∷ []) [] [] [] ≡ batch_output TABLE [] [] []
unfolding computed batched batch_of
table_first = refl
