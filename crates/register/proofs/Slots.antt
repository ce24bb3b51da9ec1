-- The slots of a directory: that of no table, and that of a good one as it is written. Assumes nothing.
use mathlib.Core.Path.{◌≡◌, refl, sym, ap, ap₂, ◌∙◌}
use mathlib.Core.Bool.{Bool, true, false, ◌&&◌}
use mathlib.Core.List.{[], ◌∷◌, ◌++◌, append-nil}
use Prim.Native.Nat.{ℕ, ◌≤◌, ◌+◌, ◌*◌, ◌<◌}
use native.Mathlib.Omega.{arith}
use borrow.Author.Tests.{eqb-true}
use lib.Dec.{eqb}
use borrow.Rule.Slice.PartMut.{put_mid}
use lib.ListN.{length, take, drop, replicate, drop_of_length-le, length-drop}
use lib.Seq.{length-take-le, take_at, take_all, drop_at, take-add}
use Rattle.std.proofs.lemmas.Bool.Decides.{nat_tests}
use Rattle.std.specs.Cmp.Lexicographic.{pointwise}
use Rattle.pattern.specs.Bytes.{Bytes, equal, le16, little, overwrite, number_in}
use Rattle.pattern.specs.Stores.{store_at}
use Rattle.pattern.specs.Decode.{tree_of}
use Rattle.pattern.proofs.Stores.{store_at_then, store_at_overwrite}
use Rattle.pattern.proofs.Agree.{equal_decides}
use Rattle.pattern.proofs.Tests.{true-T, passed}
use Rattle.stores.proofs.Little.{Octets, octets_take, octets_drop, little_number}
use Rattle.table.specs.declared.Sizes.{Sizes}
use Rattle.summary.specs.Summary.{summary_of, summary_bytes, summary_size}
use Rattle.summary.proofs.SummaryBytes.{length_summary_bytes}
use Rattle.atoms.proofs.Goods.{GoodSizes}
use Rattle.std.proofs.lemmas.List.{nil_from_length}
use Rattle.register.specs.Maps.{is_table}
use Rattle.register.specs.Layout.{length_size, entry, slot_size, slot, allowed}
use Rattle.register.proofs.Maps.{table_allowed}
use Rattle.register.proofs.Sections.{slot_none}

-- ---- two slots

-- their bytes before a place are the same, four at a time
pub record SameTo (a b : Bytes) (at : ℕ) : Type 0 where
  pub count : ℕ
  pub place : at ≡ length_size * count
  pub within : at ≤ slot_size
  pub same : take at a ≡ take at b

pub same_start : (a b : Bytes) → SameTo a b 0
same_start a b = record { count = 0; place = refl; within = omega arith; same = refl }

module _ {a b : Bytes} {at : ℕ} (w : SameTo a b at) where
  pub same_room : at < slot_size → at + length_size ≤ slot_size
  same_room h = omega (arith, w.place)

  pub same_next : at < slot_size → Octets a → Octets b → (length a ≡ slot_size) × (length b ≡ slot_size) → number_in (take length_size (drop at a)) ≡ number_in (take length_size (drop at b)) → SameTo a b (at + length_size)
  same_next h f g (l, k) e =
      let u : Bytes = take length_size (drop at a) in
      let v : Bytes = take length_size (drop at b) in
      let m : length u ≡ length_size = length-take-le length_size (drop at a) (omega (arith, same_room h, length-drop at a)) in
      let n : length v ≡ length_size = length-take-le length_size (drop at b) (omega (arith, same_room h, length-drop at b)) in
      let z : u ≡ v =
      sym (little_number u (octets_take length_size (drop at a) (octets_drop at a f))) ∙ ap (λ j. little j (number_in u)) (m ∙ sym n) ∙ ap (little (length v)) e ∙ little_number v (octets_take length_size (drop at b) (octets_drop at b g)) in
      record {
        count = w.count + 1;
        place = omega (arith, w.place);
        within = same_room h;
        same = take-add at length_size a ∙ ap (λ (x : Bytes). x ++ u) w.same ∙ ap (λ (x : Bytes). take at b ++ x) z ∙ sym (take-add at length_size b);
      }

  pub same_all : slot_size ≤ at → (length a ≡ slot_size) × (length b ≡ slot_size) → true ≡ equal a b
  same_all h (l, k) =
      let e : a ≡ b = sym (take_all at a (omega arith)) ∙ w.same ∙ take_all at b (omega arith) in
      sym (passed _ ((equal_decides a b).complete e))

pub not_same : (a b : Bytes) (at : ℕ) → (number_in (take length_size (drop at a)) ≡ number_in (take length_size (drop at b)) → ⊥) → false ≡ equal a b
not_same a b at n = go (equal a b) refl
  where
    go : (r : Bool) → equal a b ≡ r → false ≡ r
    go false e = refl
    go true e = absurd (n (ap (λ (x : Bytes). number_in (take length_size (drop at x))) ((equal_decides a b).sound (true-T _ e))))

-- ---- whether a slot is a table's own

eqb_turned : (a b : ℕ) → eqb a b ≡ eqb b a
eqb_turned a b = grind (arith, nat_tests)

-- the comparison of slices, turned
pub equal_turned : (s t : Bytes) → pointwise eqb s t ≡ equal t s
unfolding equal
equal_turned [] [] = refl
equal_turned [] (b ∷ t) = refl
equal_turned (a ∷ s) [] = refl
equal_turned (a ∷ s) (b ∷ t) = ap₂ ◌&&◌ (eqb_turned a b) (equal_turned s t)

module _ (bytes table : Bytes) where
  pub intact_none : eqb (length table) 0 ≡ true → equal bytes (replicate slot_size 0) ≡ (allowed table && equal bytes (slot table))
  unfolding allowed
  intact_none h = rw (nil_from_length table (eqb-true (length table) 0 h), slot_none)

  pub intact_bad : eqb (length table) 0 ≡ false → is_table table ≡ false → false ≡ (allowed table && equal bytes (slot table))
  unfolding allowed
  intact_bad n g = rw (n, g)

  pub intact_good : (r : Bool) (own : Bytes) → own ≡ slot table → is_table table ≡ true → r ≡ equal bytes own → r ≡ (allowed table && equal bytes (slot table))
  intact_good r own o g e = e ∙ rw (o, table_allowed table g)

-- ---- the slot of a good table

pub summary_room : (l : Bytes) → length l ≡ slot_size → summary_size ≤ length (take summary_size (drop 8 l))
summary_room l h = omega (arith, length-take-le summary_size (drop 8 l) (omega (arith, length-drop 8 l)))

-- bytes after others are filled
mid_filled : (v r w l x : Bytes) (k n : ℕ) → k ≡ length v → length r ≡ n → length w ≡ n → l ≡ v ++ r → x ≡ overwrite w (take n (drop k l)) → put_mid k n l x ≡ v ++ w
unfolding overwrite
mid_filled v r w l x k n a b c o e =
    let d : drop k l ≡ r = ap (drop k) o ∙ drop_at v r k (sym a) in
    let t : take k l ≡ v = ap (take k) o ∙ take_at v r k (sym a) in
    let y : take n (drop k l) ≡ r = ap (take n) d ∙ take_all n r (omega arith) in
    let z : drop n (drop k l) ≡ [] = ap (drop n) d ∙ drop_of_length-le r {i = n} (omega arith) in
    let u : x ≡ w = e ∙ ap (λ (b : Bytes). w ++ drop (length w) b) y ∙ ap (λ (b : Bytes). w ++ b) (drop_of_length-le r {i = length w} (omega arith)) ∙ append-nil w in
    ap (λ (b : Bytes). b ++ (x ++ drop n (drop k l))) t ∙ ap (λ (b : Bytes). v ++ (x ++ b)) z ∙ ap (λ (b : Bytes). v ++ b) (append-nil x ∙ u)

-- its numbers one after the other, and the summary in the rest
pub slot_written : {table : Bytes} {s : Sizes} → GoodSizes table s → (l l₁ l₂ l₃ x : Bytes) → length l ≡ slot_size
    → l₁ ≡ store_at l 0 (little length_size (length table)) → l₂ ≡ store_at l₁ 4 (le16 s.atoms []) → l₃ ≡ store_at l₂ 6 (le16 s.top [])
    → x ≡ overwrite (summary_bytes (summary_of (tree_of table))) (take summary_size (drop 8 l₃))
    → put_mid 8 summary_size l₃ x ≡ slot table
unfolding overwrite slot entry little
slot_written {table} {s} g l l₁ l₂ l₃ x h a b c e =
    let n : Bytes = little length_size (length table) in
    let u : Bytes = n ++ le16 s.atoms [] in
    let v : Bytes = u ++ le16 s.top [] in
    let y : l₂ ≡ store_at l 0 u = b ∙ ap (λ (z : Bytes). store_at z 4 (le16 s.atoms [])) a ∙ store_at_then l 0 4 n (le16 s.atoms []) refl in
    let z : l₃ ≡ store_at l 0 v = c ∙ ap (λ (z : Bytes). store_at z 6 (le16 s.top [])) y ∙ store_at_then l 0 6 u (le16 s.top []) refl in
    mid_filled v (drop 8 l) (summary_bytes (summary_of (tree_of table))) l₃ x 8 summary_size refl (omega (arith, length-drop 8 l)) (length_summary_bytes (summary_of (tree_of table))) (z ∙ store_at_overwrite l v (omega arith)) e
    ∙ rw (g.atoms_is, g.top_is, g.good.decoded)
