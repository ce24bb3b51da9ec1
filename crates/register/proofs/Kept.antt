-- What lies in a register under a number: its slot and its table. Assumes nothing.
use mathlib.Core.Path.{◌≡◌, refl, sym, ap, subst, ◌∙◌}
use mathlib.Core.Logic.{◌↔◌}
use mathlib.Core.Bool.{Bool, true, false, cond}
use mathlib.Core.List.{[], ◌++◌, append_assoc}
use mathlib.Core.Option.{Option, none, some}
use Prim.Native.Nat.{ℕ, suc, ◌+◌, ◌*◌, ◌-◌, ◌/◌, ◌%◌, ◌^◌, ◌≤◌, ◌<◌}
use native.Mathlib.Omega.{arith}
use lib.ListN.{length, get_or, take, drop, length-drop}
use lib.Seq.{take_at, drop_at, drop-drop, get_or-drop}
use Rattle.pattern.specs.Bytes.{Bytes, le16, little, number_in}
use Rattle.pattern.specs.Syntax.{pattern, Syntax, size, top_size}
use Rattle.pattern.specs.Meaning.{Satisfies}
use Rattle.pattern.specs.Decode.{field, decode}
use Rattle.pattern.proofs.Tests.{Decides}
use Rattle.pattern.proofs.Rooms.{top_le}
use Rattle.pattern.proofs.Calls.{good_ordered, good_limited}
use Rattle.stores.proofs.Little.{length_little, number_field, number_little}
use Rattle.summary.specs.Summary.{Summary, IsShortest, IsLongest, Exact, summary_of, summary_bytes, summary_size}
use Rattle.summary.proofs.Exactness.{first_decides}
use Rattle.summary.proofs.Summaries.{exact_bytes}
use Rattle.summary.proofs.RulingOut.{table_exact}
use Rattle.summary.proofs.SummaryBytes.{length_summary_bytes}
use Rattle.summary.proofs.SummaryRead.{shortest_is, longest_is, bit_is}
use Rattle.register.specs.Maps.{numbers, Map, table_of, tables, total, Changed}
use Rattle.register.specs.Layout.{preamble_size, length_size, entry, slot_size, slot, directory_size, directory, overhead, capacity, register_of, slot_start, KeptExact}
use Rattle.register.specs.Register.{store_of, remove_of}
use Rattle.register.specs.Slots.{atoms_place, top_place, summary_place, kept_at}
use Rattle.register.proofs.Maps.{allowed_short, others_stay, total_suc, total_split}
use Rattle.register.proofs.Sections.{length_slot}
use Rattle.register.proofs.Cases.{store_cases, remove_cases}
use Rattle.register.proofs.Registers.{store_refused, remove_refused, store_follows, remove_follows}
use Rattle.register.proofs.Meaning.{SectionIs, section_meant, found_split, read, found_read, found_is}
use Rattle.register.proofs.Putting.{directory_split, slot_place, old_is}

by_directory : (u x w y : Bytes) → (u ++ (x ++ w)) ++ y ≡ u ++ (x ++ (w ++ y))
by_directory u x w y = simp append_assoc

field_drop : (s : Bytes) (n i j : ℕ) → n + i ≡ j → field (drop n s) i ≡ field s j
field_drop s n i j e =
    let f : n + (i + 1) ≡ j + 1 = omega arith in
    omega (arith, get_or-drop n s i 0 ∙ ap (λ k. get_or s k 0) e, get_or-drop n s (i + 1) 0 ∙ ap (λ k. get_or s k 0) f)

one_exactly : {X : Type 0} (x : Bool) (n : ℕ) → n ≡ cond x 1 0 → Decides x X → (n ≡ 1) ↔ X
one_exactly true n e d = (λ f. d.sound tt, λ h. e)
one_exactly false n e d = (λ f. absurd (omega arith), λ h. absurd (d.complete h))

module _ (lent : Bytes) (m : Map) (e : register_of lent ≡ some m) where
  abbrev rest : Bytes
  rest = drop preamble_size lent

  whole : SectionIs rest m
  whole = section_meant rest m (found_split lent m (found_is lent ∙ e)).1

  module _ (k : ℕ) (small : k < numbers) where
    there : k < length m
    there = omega (arith, whole.proper.count)

    -- the slot, and what follows it
    slot_from : (after : Bytes) × (drop (slot_start k) lent ≡ slot (table_of m k) ++ after)
    slot_from =
        let behind : Bytes = tables m ++ drop (directory_size + total m) rest in
        let after : Bytes = directory (drop (suc k) m) ++ behind in
        let s : rest ≡ directory (take k m) ++ (slot (table_of m k) ++ after) =
        whole.bytes ∙ ap (λ (x : Bytes). x ++ behind) (directory_split m k there) ∙ by_directory (directory (take k m)) (slot (table_of m k)) (directory (drop (suc k) m)) behind in
        (after, sym (drop-drop (slot_size * k) preamble_size lent) ∙ ap (drop (slot_size * k)) s ∙ drop_at (directory (take k m)) (slot (table_of m k) ++ after) (slot_size * k) (slot_place m k there))

    pub slot_is : take slot_size (drop (slot_start k) lent) ≡ slot (table_of m k)
    slot_is = let (after, f) = slot_from in ap (take slot_size) f ∙ take_at (slot (table_of m k)) after slot_size (length_slot (table_of m k))

    -- its numbers
    pub kept_length : (kept_at lent (slot_start k)).length ≡ length (table_of m k)
    unfolding kept_at slot
    kept_length =
        let (after, f) = slot_from in
        ap (λ (x : Bytes). number_in (take length_size x)) (f ∙ append_assoc (little length_size (length (table_of m k))) (entry (decode (table_of m k))) after)
        ∙ ap number_in (take_at (little length_size (length (table_of m k))) _ length_size (length_little length_size (length (table_of m k))))
        ∙ number_little (length (table_of m k)) (omega (arith, allowed_short (table_of m k) (whole.proper.each k)))

    module _ (p : Syntax pattern) (d : decode (table_of m k) ≡ some p) where
      entry_from : (after : Bytes) × (drop (slot_start k) lent ≡ little length_size (length (table_of m k)) ++ (le16 (size p) (le16 (top_size p) (summary_bytes (summary_of p) ++ after))))
      unfolding slot entry
      entry_from = let (after, f) = slot_from in (after, f ∙ append_assoc (little length_size (length (table_of m k))) (entry (decode (table_of m k))) after ∙ rw d)

      pub kept_atoms : (kept_at lent (slot_start k)).atoms ≡ size p
      unfolding kept_at little number_in
      kept_atoms =
          let (after, f) = entry_from in
          let g = (good_limited (table_of m k) p d).atoms in
          sym (number_field lent (slot_start k + atoms_place)) ∙ ap (λ (x : Bytes). number_in (take 2 x)) (sym (drop-drop atoms_place (slot_start k) lent) ∙ ap (drop atoms_place) f) ∙ omega (arith, g)

      pub kept_top : (kept_at lent (slot_start k)).top ≡ top_size p
      unfolding kept_at little number_in
      kept_top =
          let (after, f) = entry_from in
          let g = (good_limited (table_of m k) p d).atoms in
          sym (number_field lent (slot_start k + top_place)) ∙ ap (λ (x : Bytes). number_in (take 2 x)) (sym (drop-drop top_place (slot_start k) lent) ∙ ap (drop top_place) f) ∙ omega (arith, g, top_le p)

      pub summary_is : take summary_size (drop (slot_start k + summary_place) lent) ≡ summary_bytes (summary_of p)
      unfolding little
      summary_is =
          let (after, f) = entry_from in
          ap (take summary_size) (sym (drop-drop summary_place (slot_start k) lent) ∙ ap (drop summary_place) f) ∙ take_at (summary_bytes (summary_of p)) after summary_size (length_summary_bytes (summary_of p))

      pub kept_exact : KeptExact lent k p
      kept_exact =
          let at : ℕ = slot_start k + summary_place in
          let s : Bytes = drop at lent in
          let u : Summary = summary_of p in
          let x : Exact (Satisfies p) u = table_exact (table_of m k) p d in
          let place : (b : ℕ) → at + (4 + b / 8) ≡ slot_start k + 12 + b / 8 = λ b. omega arith in
          let byte : (b : ℕ) → get_or lent (slot_start k + 12 + b / 8) 0 ≡ get_or s (4 + b / 8) 0 = λ b. sym (get_or-drop at lent (4 + b / 8) 0 ∙ ap (λ i. get_or lent i 0) (place b)) in
          record {
            shortest = subst (IsShortest (Satisfies p)) (sym (shortest_is s u summary_is) ∙ field_drop lent at 0 (slot_start k + 8) (omega arith)) x.shortest;
            longest = subst (IsLongest (Satisfies p)) (sym (longest_is s u summary_is) ∙ field_drop lent at 2 (slot_start k + 10) (omega arith)) x.longest;
            first = λ b h. one_exactly (u.first b) _ (ap (λ y. y / 2 ^ (b % 8) % 2) (byte b) ∙ bit_is s u summary_is b h) (first_decides x b);
          }

    -- its table
    pub table_is : take (length (table_of m k)) (drop (overhead + total (take k m)) lent) ≡ table_of m k
    table_is =
        let a : overhead + total (take k m) ≡ preamble_size + (directory_size + total (take k m)) = omega arith in
        let n : length (table_of m k) ≡ directory_size + total (take k m) + length (table_of m k) - (directory_size + total (take k m)) = omega arith in
        ap (λ x. take (length (table_of m k)) (drop x lent)) a ∙ ap (take (length (table_of m k))) (sym (drop-drop (directory_size + total (take k m)) preamble_size lent)) ∙ ap (λ x. take x (drop (directory_size + total (take k m)) rest)) n ∙ old_is rest m whole k small

    pub table_within : overhead + total (take (suc k) m) ≤ length lent
    table_within = omega (arith, total_suc m k there, total_split m k there, whole.within, length-drop preamble_size lent)

-- "A wrong summary ... is 18": a register has the bytes of the one summary that is exact
pub summary_exact : (lent : Bytes) (m : Map) → register_of lent ≡ some m → (k : ℕ) → k < numbers → (p : Syntax pattern) → decode (table_of m k) ≡ some p → (u : Summary) → Exact (Satisfies p) u
    → take summary_size (drop (slot_start k + summary_place) lent) ≡ summary_bytes u
summary_exact lent m e k small p d u x =
    summary_is lent m e k small p d ∙ sym (exact_bytes p (good_ordered 0 p (good_limited (table_of m k) p d).tree) u x)

-- and a buffer with a slot other than that of the table which it tells of is refused
pub wrong_slot_none : (lent : Bytes) (k : ℕ) → k < numbers → ¬ (take slot_size (drop (slot_start k) lent) ≡ slot (table_of (read lent) k)) → register_of lent ≡ none
wrong_slot_none lent k small n = go (register_of lent) refl
  where
    go : (o : Option Map) → register_of lent ≡ o → register_of lent ≡ none
    go none e = e
    go (some m) e = absurd (n (slot_is lent m e k small ∙ ap (λ (x : Map). slot (table_of x k)) (sym (found_read lent m (found_is lent ∙ e)))))

-- ---- "Changing one pattern keeps all other summaries"

-- where a number's table is the same, its slot is
slots_same : (lent after : Bytes) (m n : Map) (j : ℕ) → register_of lent ≡ some m → register_of after ≡ some n → j < numbers → table_of n j ≡ table_of m j
    → take slot_size (drop (slot_start j) after) ≡ take slot_size (drop (slot_start j) lent)
slots_same lent after m n j e f small h = slot_is after n f j small ∙ ap slot h ∙ sym (slot_is lent m e j small)

-- whatever the lent bytes are, and refused or not
module _ (lent : Bytes) (k j : ℕ) (small : j < numbers) (other : j ≡ k → ⊥) where
  pub store_keeps : (t : Bytes) → take slot_size (drop (slot_start j) (store_of lent k t).after) ≡ take slot_size (drop (slot_start j) lent)
  store_keeps t = go (register_of lent) refl
    where
      go : (o : Option Map) → register_of lent ≡ o → take slot_size (drop (slot_start j) (store_of lent k t).after) ≡ take slot_size (drop (slot_start j) lent)
      go none e = ap (λ (c : Changed Bytes). take slot_size (drop (slot_start j) c.after)) (store_refused lent e k t)
      go (some m) e =
          slots_same lent (store_of lent k t).after m _ j e (store_follows lent m e k t).means small
          (store_cases (capacity lent) m k t (λ c. table_of c.after j ≡ table_of m j) (λ g. refl) (λ g r. refl) (λ g r. others_stay m k j t other))

  pub remove_keeps : take slot_size (drop (slot_start j) (remove_of lent k).after) ≡ take slot_size (drop (slot_start j) lent)
  remove_keeps = go (register_of lent) refl
    where
      go : (o : Option Map) → register_of lent ≡ o → take slot_size (drop (slot_start j) (remove_of lent k).after) ≡ take slot_size (drop (slot_start j) lent)
      go none e = ap (λ (c : Changed Bytes). take slot_size (drop (slot_start j) c.after)) (remove_refused lent e k)
      go (some m) e =
          slots_same lent (remove_of lent k).after m _ j e (remove_follows lent m e k).means small
          (remove_cases m k (λ c. table_of c.after j ≡ table_of m j) (λ n. refl) (λ n. others_stay m k j [] other))
