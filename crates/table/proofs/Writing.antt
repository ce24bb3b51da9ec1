-- Records stored one after the other, and the stores of a table. Assumes nothing.
use mathlib.Core.Path.{◌≡◌, refl, sym, ap, ap₂, ◌∙◌}
use mathlib.Core.List.{List, [], ◌∷◌, ◌++◌, append_assoc}
use Prim.Native.Nat.{ℕ, ◌+◌, ◌*◌, ◌/◌, ◌%◌, ◌<◌, ◌≤◌}
use native.Mathlib.Omega.{arith}
use lib.ListN.{length, take, length-append}
use lib.Seq.{length-take-le}
use Rattle.std.specs.Prelude.{Some, None}
use Rattle.pattern.specs.Numbers.{atoms_place, record_size}
use Rattle.pattern.specs.Versions.{written_version, length_place, header_size}
use Rattle.pattern.specs.Bytes.{Bytes, le16, little}
use Rattle.pattern.specs.Stores.{store_at, Puts}
use Rattle.pattern.specs.Syntax.{pattern, Syntax, size}
use Rattle.pattern.specs.Table.{pool, Rec, records, record_bytes, header, encode_in, encode}
use Rattle.pattern.specs.Answers.{put}
use Rattle.pattern.proofs.Records.{record_bytes_append, length_record_bytes, count_records}
use Rattle.pattern.proofs.Calls.{put_fits, put_short}
use Rattle.pattern.proofs.Stores.{store_at_then, store_at_before, store_at_overwrite, take_overwrite, puts_then}
use Rattle.table.specs.Headers.{first_bytes}
use Rattle.table.specs.Write.{put_records, WriteTablePre, table_of, table_output}

-- records before other bytes
record_bytes_over : (xs : List Rec) (s : Bytes) → record_bytes xs s ≡ record_bytes xs [] ++ s
unfolding record_bytes
record_bytes_over [] s = refl
record_bytes_over (r ∷ xs) s = ap (λ l. r.kind ∷ r.ends ∷ le16 r.low (le16 r.high (le16 r.a (le16 r.b l)))) (record_bytes_over xs s)

-- records after others that are stored
pub records_then : (recs : Bytes) (i j : ℕ) (xs ys : List Rec) → j ≡ i + length xs → put_records (put_records recs i xs) j ys ≡ put_records recs i (xs ++ ys)
records_then recs i j xs ys e =
    store_at_then recs (record_size * i) (record_size * j) (record_bytes xs []) (record_bytes ys []) (omega (arith, length_record_bytes xs []))
    ∙ ap (store_at recs (record_size * i)) (sym (record_bytes_append xs ys [] ∙ record_bytes_over xs (record_bytes ys [])))

-- and before them
pub records_before : (recs : Bytes) (i j : ℕ) (xs ys : List Rec) → j ≡ i + length xs → put_records (put_records recs j ys) i xs ≡ put_records recs i (xs ++ ys)
records_before recs i j xs ys e =
    store_at_before recs (record_size * i) (record_size * j) (record_bytes xs []) (record_bytes ys []) (omega (arith, length_record_bytes xs []))
    ∙ ap (store_at recs (record_size * i)) (sym (record_bytes_append xs ys [] ∙ record_bytes_over xs (record_bytes ys [])))

-- ---- the table

take_store_at : (l v : Bytes) (n : ℕ) → n ≡ length v → n ≤ length l → take n (store_at l 0 v) ≡ v
take_store_at l v n e h = rw (e, store_at_overwrite l v (omega arith)) (take_overwrite v l)

-- the records and the text of a tree, at the start of their buffers, make its table
pub table_is : (recs text : Bytes) (t : Syntax pattern) → record_size * size t ≤ length recs → length (pool t) ≤ length text
    → table_of (size t) (length (pool t)) (put_records recs 0 (records 1 t 0 0)) (store_at text 0 (pool t)) ≡ encode t
unfolding table_of encode_in
table_is recs text t h k =
    let xs : List Rec = records 1 t 0 0 in
    let r = take_store_at recs (record_bytes xs []) (record_size * size t) (omega (arith, length_record_bytes xs [], count_records 1 t 0 0)) h in
    ap (header written_version (size t) (length (pool t))) (ap₂ (λ r v. r ++ v) r (take_store_at text (pool t) (length (pool t)) refl k) ∙ sym (record_bytes_over xs (pool t)))

module _ (position n m : ℕ) (recs text table : Bytes) (pre : WriteTablePre n m recs text) where
  table_size : length (table_of n m recs text) ≡ header_size written_version + record_size * n + m
  unfolding table_of header little
  table_size =
      omega (arith, length-append (take (record_size * n) recs) (take m text), length-take-le (record_size * n) recs pre.recs_there, length-take-le m text pre.text_there)

  pub no_room : length table < header_size written_version + record_size * n + m → table_output position None table ≡ put position (table_of n m recs text) table
  no_room h = sym (put_short position (table_of n m recs text) table (omega (arith, table_size)))

  -- the stores one after the other
  pub writes_table : (mark t₁ t₂ t₃ t₄ t₅ : Bytes) → header_size written_version + record_size * n + m ≤ length table → mark ≡ first_bytes written_version → t₁ ≡ store_at table 0 mark
      → t₂ ≡ store_at t₁ atoms_place (le16 n []) → t₃ ≡ store_at t₂ (length_place written_version) (le16 m []) → t₄ ≡ store_at t₃ (header_size written_version) (take (record_size * n) recs)
      → t₅ ≡ store_at t₄ (header_size written_version + record_size * n) (take m text)
      → table_output position (Some (header_size written_version + record_size * n + m)) t₅ ≡ put position (table_of n m recs text) table
  writes_table mark t₁ t₂ t₃ t₄ t₅ h e e₁ e₂ e₃ e₄ e₅ =
      let size : ℕ = header_size written_version in
      let r : Bytes = take (record_size * n) recs in
      let v : Bytes = take m text in
      let a : Puts table 0 (first_bytes written_version) t₁ atoms_place = record { bytes = e₁ ∙ rw e; next = refl } in
      let b : Puts table 0 (first_bytes written_version ++ le16 n []) t₂ (length_place written_version) = puts_then a (record { bytes = e₂; next = refl }) in
      let c : Puts table 0 nine t₃ size = puts_then b (record { bytes = e₃; next = refl }) in
      let d : Puts table 0 (nine ++ r) t₄ (size + record_size * n) = puts_then c (record { bytes = e₄; next = ap (λ k. size + k) (sym (length-take-le (record_size * n) recs pre.recs_there)) }) in
      let f : Puts table 0 ((nine ++ r) ++ v) t₅ (size + record_size * n + m) = puts_then d (record { bytes = e₅; next = ap (λ k. size + record_size * n + k) (sym (length-take-le m text pre.text_there)) }) in
      let z = table_size in
      ap₂ (λ k l. table_output position (Some k) l) (sym z) (f.bytes ∙ ap (store_at table 0) (append_assoc nine r v ∙ whole) ∙ store_at_overwrite table (table_of n m recs text) (omega arith))
      ∙ sym (put_fits position (table_of n m recs text) table (omega arith))
    where
      nine : Bytes
      nine = (first_bytes written_version ++ le16 n []) ++ le16 m []

      -- the number of atoms has no third byte
      top : n / 256 % 256 ≡ n / 256
      top = omega (arith, pre.atoms)

      whole : nine ++ (take (record_size * n) recs ++ take m text) ≡ table_of n m recs text
      whole = unfold table_of header little in ap (λ (b : ℕ). first_bytes written_version ++ n % 256 ∷ b ∷ le16 m (take (record_size * n) recs ++ take m text)) (sym top)
