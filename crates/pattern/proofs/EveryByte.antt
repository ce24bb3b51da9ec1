-- E is every byte: each label satisfies `.E`, and a match with its table finds one part, the whole label. Assumes nothing.
use mathlib.Core.Path.{◌≡◌, refl, ap}
use mathlib.Core.List.{List, [], ◌∷◌}
use mathlib.Core.Option.{Option, none, some}
use Prim.Native.Nat.{ℕ, suc, ◌<◌}
use native.Mathlib.Omega.{arith}
use lib.Dec.{T}
use lib.ListN.{length, get_or, replicate}
use Rattle.pattern.specs.Bytes.{Bytes, between, bytes}
use Rattle.pattern.specs.Codes.{all_codes, in_ranges, in_codes, in_set}
use Rattle.pattern.specs.Syntax.{Syntax, pattern, last, repeat, codes}
use Rattle.pattern.specs.Meaning.{Cut, Power, UpTo, Satisfies}
use Rattle.pattern.specs.Parts.{Partition, IsVerdict}
use Rattle.pattern.specs.Trials.{trials}
use Rattle.pattern.specs.Decode.{decode}
use Rattle.pattern.specs.Answers.{result, compile_of, scratch_needed, lent_fault, ended, ending, match_ending, match_of}
use Rattle.pattern.proofs.Tests.{all, all_at}
use Rattle.pattern.proofs.Calls.{verdict_right}
use Rattle.pattern.proofs.Computed.{computed}
use Rattle.pattern.proofs.Sources.{header_1, header_2}

-- what `.E` spells
abbrev e_pattern : Syntax pattern
e_pattern = last (repeat 0 none (codes 4))

-- its record, in the tables of both versions
abbrev e_record : Bytes
e_record = 1 ∷ 1 ∷ 0 ∷ 0 ∷ 255 ∷ 255 ∷ 4 ∷ 0 ∷ 0 ∷ 0 ∷ []

pub e_compiled : compile_of (bytes ".E") (replicate 19 7) ≡ record { answer = result 19 0; bytes = header_2 1 0 e_record }
unfolding computed
e_compiled = refl

pub e_decoded : (decode (header_1 1 0 e_record) ≡ some e_pattern) × (decode (header_2 1 0 e_record) ≡ some e_pattern)
unfolding computed
e_decoded = (refl, refl)

-- "E becomes 0 to 255"
every_byte : (b : ℕ) → b < 256 → T (in_set 4 b)
unfolding all between all_codes in_ranges in_codes in_set
every_byte = all_at 256 (in_set 4) tt

-- a body for each byte
one_each : (s : Bytes) → ((k : ℕ) → get_or s k 0 < 256) → Power (Satisfies (codes 4)) (length s) s
unfolding Power Cut Satisfies
one_each [] h = refl
one_each (b ∷ s) h = (b ∷ [], s, refl, (b, refl, every_byte b (h 0)), one_each s (λ k. h (suc k)))

module _ (label : Bytes) (is_bytes : (k : ℕ) → get_or label k 0 < 256) where
  -- each label satisfies `.E`
  pub every_label : Satisfies e_pattern label
  unfolding Satisfies UpTo
  every_label = (length label, omega arith, tt, one_each label is_bytes)

  one_part : (v : Option (List ℕ)) → IsVerdict label e_pattern v → v ≡ some (length label ∷ [])
  unfolding IsVerdict Partition
  one_part none m = absurd (m every_label)
  one_part (some ends) m = ap some m.0.0

  -- names with umlauts pass `.E`: the whole call with either table, refused for what is lent, out of budget, or yes
  pub every_match : (table scratch parts : Bytes) (budget : ℕ) → decode table ≡ some e_pattern
      → let whole : Option (List ℕ) = some (length label ∷ []) in
      let e = ending (lent_fault e_pattern label scratch parts) (scratch_needed e_pattern (length label)) (trials label e_pattern) budget whole in
      match_of table label scratch parts budget ≡ ended e scratch parts
  unfolding match_of match_ending
  every_match table scratch parts budget d = rw (d, one_part _ (verdict_right table e_pattern d label))
