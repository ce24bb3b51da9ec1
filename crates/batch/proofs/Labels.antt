-- The labels of a batch and their part bytes, by their index. Assumes nothing.
use mathlib.Core.Path.{◌≡◌, refl, sym, ap, ◌∙◌}
use mathlib.Core.List.{List, [], ◌∷◌}
use Prim.Native.Nat.{ℕ, zero, suc, ◌+◌, ◌*◌, ◌/◌, ◌<◌}
use native.Mathlib.Nat.{suc-mul, zero-mul}
use native.Mathlib.Omega.{arith}
use lib.ListN.{length, get_or, take, drop}
use lib.Seq.{slice, drop-drop}
use Rattle.pattern.specs.Bytes.{Bytes, numbers_in}
use Rattle.pattern.specs.Decode.{field}
use Rattle.pattern.proofs.Pairs.{numbers_more, numbers_length, numbers_at}
use Rattle.batch.specs.Batch.{labels_from}
use Rattle.batch.specs.Labels.{label_start, label_at, part_at}

-- the ends from k on: end k, and those after it
pub numbers_next : (ends : Bytes) (k : ℕ) → k < length ends / 2 → numbers_in (drop (2 * k) ends) ≡ field ends (2 * k) ∷ numbers_in (drop (2 * (k + 1)) ends)
numbers_next ends k h = let n : 2 * k + 2 ≡ 2 * (k + 1) = omega arith in numbers_more ends (2 * k) (omega arith) ∙ ap (λ i. field ends (2 * k) ∷ numbers_in (drop i ends)) n

pub labels_length : (from : ℕ) (ends : List ℕ) (buffer : Bytes) → length (labels_from from ends buffer) ≡ length ends
unfolding labels_from
labels_length from [] buffer = refl
labels_length from (end ∷ ends) buffer = ap suc (labels_length end ends buffer)

-- where the label of each end begins
unfoldable pub begin : (from : ℕ) → List ℕ → ℕ → ℕ
begin from ends zero = from
begin from ends (suc k) = get_or ends k 0

pub begins : (ends : Bytes) (k : ℕ) → k < length ends / 2 → begin 0 (numbers_in ends) k ≡ label_start ends k
unfolding label_start begin
begins ends zero h = refl
begins ends (suc k) h = numbers_at ends k (omega arith)

labels_at : (from : ℕ) (ends : List ℕ) (buffer : Bytes) (k : ℕ) → k < length ends → get_or (labels_from from ends buffer) k [] ≡ slice (begin from ends k) (get_or ends k 0) buffer
unfolding labels_from begin
labels_at from [] buffer k h = absurd (omega arith)
labels_at from (end ∷ ends) buffer zero h = refl
labels_at from (end ∷ ends) buffer (suc zero) h = labels_at end ends buffer zero (omega arith)
labels_at from (end ∷ ends) buffer (suc (suc k)) h = labels_at end ends buffer (suc k) (omega arith)

pub label_is : (buffer ends : Bytes) (k : ℕ) → k < length ends / 2 → get_or (labels_from 0 (numbers_in ends) buffer) k [] ≡ label_at buffer ends k
label_is buffer ends k h = labels_at 0 (numbers_in ends) buffer k (omega (arith, numbers_length ends)) ∙ (λ i. slice (begins ends k h i) (numbers_at ends k h i) buffer)

-- ---- their part bytes

pub part_first : (width : ℕ) (parts : Bytes) → part_at width parts 0 ≡ take width parts
part_first width parts = ap (λ n. take width (drop n parts)) (zero-mul width)

pub part_next : (width : ℕ) (parts : Bytes) (k : ℕ) → part_at width parts (suc k) ≡ part_at width (drop width parts) k
part_next width parts k = let e : suc k * width ≡ width + k * width = omega (arith, suc-mul k width) in ap (λ n. take width (drop n parts)) e ∙ ap (take width) (sym (drop-drop (k * width) width parts))
