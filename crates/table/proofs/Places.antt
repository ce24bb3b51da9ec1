-- The bytes of records and of the pool, from a place of a table on. Assumes nothing.
use mathlib.Core.Path.{◌≡◌, refl, sym, ap, ap₂, ◌∙◌}
use mathlib.Core.List.{[], ◌∷◌}
use Prim.Native.Nat.{ℕ, suc, ◌+◌, ◌*◌, ◌/◌, ◌%◌, ◌<◌, ◌≤◌}
use native.Mathlib.Omega.{arith}
use lib.ListN.{length, get_or, drop}
use lib.Seq.{drop-cons}
use Rattle.pattern.specs.Numbers.{record_size}
use Rattle.pattern.specs.Bytes.{Bytes, le16}
use Rattle.pattern.specs.Table.{record_bytes}
use Rattle.pattern.specs.Decode.{field, rec_at}
use Rattle.stores.proofs.Little.{Octets}

module _ (s : Bytes) where
  pub step : (j k : ℕ) {ys : Bytes} → k ≡ suc j → j < length s → drop k s ≡ ys → drop j s ≡ get_or s j 0 ∷ ys
  step j k n h e = drop-cons s j 0 h ∙ ap (λ y. get_or s j 0 ∷ y) (ap (λ m. drop m s) (sym n) ∙ e)

  module _ (bytes : Octets s) where
    halves : (x y : ℕ) → x < 256 → ((x + 256 * y) % 256 ≡ x) × ((x + 256 * y) / 256 ≡ y)
    halves x y h = (omega arith, omega arith)

    pub pair : (j k : ℕ) {ys : Bytes} → k ≡ j + 2 → k ≤ length s → drop k s ≡ ys → drop j s ≡ le16 (field s j) ys
    pair j k {ys} n h e =
        let (lo, hi) = halves (get_or s j 0) (get_or s (j + 1) 0) (bytes j) in
        step j (j + 1) (omega arith) (omega arith) (step (j + 1) k (omega arith) (omega arith) e)
        ∙ ap₂ (λ x y. x ∷ y ∷ ys) (sym lo) (sym hi)

    -- a record's bytes
    pub one_record : (j k : ℕ) → k ≡ j + record_size → k ≤ length s → drop j s ≡ record_bytes (rec_at s j ∷ []) (drop k s)
    unfolding record_bytes
    one_record j k n h =
        step j (j + 1) (omega arith) (omega arith)
        (step (j + 1) (j + 2) (omega arith) (omega arith)
        (pair (j + 2) (j + 4) (omega arith) (omega arith)
        (pair (j + 4) (j + 6) (omega arith) (omega arith)
        (pair (j + 6) (j + 8) (omega arith) (omega arith)
        (pair (j + 8) k (omega arith) (omega arith) refl)))))
