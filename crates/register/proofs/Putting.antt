-- A section after a table was put in a number's place. Assumes nothing.
use mathlib.Core.Path.{◌≡◌, refl, sym, ap, ◌∙◌}
use mathlib.Core.List.{[], ◌∷◌, ◌++◌, append_assoc}
use mathlib.Core.Option.{Option, none, some}
use Prim.Native.Nat.{ℕ, suc, ◌+◌, ◌*◌, ◌-◌, ◌≤◌, ◌<◌}
use native.Mathlib.Omega.{arith}
use lib.ListN.{length, take, drop, set, length-set, length-append}
use lib.Seq.{sets-eq, length-take-le, take_at, drop_at, drop-drop, split_at, set_split}
use Rattle.std.specs.Prelude.{Some}
use Rattle.pattern.specs.Bytes.{Bytes, overwrite}
use Rattle.pattern.specs.Stores.{store_at}
use Rattle.pattern.proofs.Stores.{store_at_before}
use Rattle.register.specs.declared.locate.Location.{Location}
use Rattle.register.specs.Maps.{numbers, Map, table_of, tables, total}
use Rattle.register.specs.Layout.{slot_size, slot, directory_size, directory, section}
use Rattle.register.specs.Sections.{section_of, location_in, located, placed, PutTablePre}
use Rattle.register.proofs.Maps.{tables_split, tables_set, total_split}
use Rattle.register.proofs.Sections.{length_slot, length_directory}
use Rattle.register.proofs.Meaning.{SectionIs, section_meant, directory_whole}

directory_append : (m n : Map) → directory (m ++ n) ≡ directory m ++ directory n
unfolding directory
directory_append [] n = refl
directory_append (t ∷ m) n = rw (directory_append m n, append_assoc)

-- the slots before a number's, its own, and those after it
module _ (m : Map) (k : ℕ) (there : k < length m) where
  pub directory_split : directory m ≡ directory (take k m) ++ (slot (table_of m k) ++ directory (drop (suc k) m))
  unfolding directory
  directory_split = ap directory (split_at m k [] there) ∙ directory_append (take k m) (table_of m k ∷ drop (suc k) m)

  directory_set : (t : Bytes) → directory (set m k t) ≡ directory (take k m) ++ (slot t ++ directory (drop (suc k) m))
  unfolding directory
  directory_set t = ap directory (set_split m k t there) ∙ directory_append (take k m) (t ∷ drop (suc k) m)

  pub slot_place : length (directory (take k m)) ≡ slot_size * k
  slot_place = length_directory (take k m) ∙ ap (λ n. slot_size * n) (length-take-le k m (omega (arith, there)))

-- a store in the middle
store_between : (p x q v : Bytes) (i : ℕ) → length p ≡ i → length x ≡ length v → store_at (p ++ (x ++ q)) i v ≡ p ++ (v ++ q)
unfolding store_at
store_between p x q v i h k =
    let l : i + length v ≤ length (p ++ (x ++ q)) = omega (arith, length-append p (x ++ q), length-append x q) in
    let a : take i (p ++ (x ++ q)) ≡ p = take_at p (x ++ q) i h in
    let b : drop (i + length v) (p ++ (x ++ q)) ≡ q = ap (drop (i + length v)) (sym (append_assoc p x q)) ∙ drop_at (p ++ x) q (i + length v) (omega (arith, length-append p x)) in
    sets-eq v (p ++ (x ++ q)) i l ∙ rw (a, b) (append_assoc p v q)

-- the same bytes in other groups
by_table : (d a t z r : Bytes) → d ++ ((a ++ (t ++ z)) ++ r) ≡ (d ++ a) ++ (t ++ (z ++ r))
by_table d a t z r = simp append_assoc

by_slot : (u x w a y : Bytes) → ((u ++ (x ++ w)) ++ a) ++ y ≡ u ++ (x ++ (w ++ (a ++ y)))
by_slot u x w a y = simp append_assoc

by_section : (u x w a t z r : Bytes) → u ++ (x ++ (w ++ (a ++ ((t ++ z) ++ r)))) ≡ ((u ++ (x ++ w)) ++ (a ++ (t ++ z))) ++ r
by_section u x w a t z r = simp append_assoc

module _ (s : Bytes) (m : Map) (h : SectionIs s m) (k : ℕ) (small : k < numbers) where
  -- the table of number k, what lies before it and after it, and the bytes after the last table
  abbrev old : Bytes
  old = table_of m k

  abbrev front : Bytes
  front = tables (take k m)

  abbrev tail : Bytes
  tail = tables (drop (suc k) m)

  abbrev rest : Bytes
  rest = drop (directory_size + total m) s

  abbrev at : Location
  at = location_in m k

  there : k < length m
  there = omega (arith, h.proper.count)

  whole : s ≡ (directory m ++ front) ++ (old ++ (tail ++ rest))
  whole = h.bytes ∙ ap (λ (x : Bytes). directory m ++ (x ++ rest)) (tables_split m k there) ∙ by_table (directory m) front old tail rest

  upto_start : length (directory m ++ front) ≡ at.start
  upto_start = omega (arith, length-append (directory m) front, directory_whole m h.proper)

  from_start : drop at.start s ≡ old ++ (tail ++ rest)
  from_start = ap (drop at.start) whole ∙ drop_at (directory m ++ front) (old ++ (tail ++ rest)) at.start upto_start

  tail_is : take (at.used - at.end) (drop at.end s) ≡ tail
  tail_is =
      ap (λ (x : Bytes). take (at.used - at.end) x) (sym (drop-drop (length old) at.start s) ∙ ap (drop (length old)) from_start ∙ drop_at old (tail ++ rest) (length old) refl)
      ∙ take_at tail rest (at.used - at.end) (omega (arith, total_split m k there))

  pub old_is : take (at.end - at.start) (drop at.start s) ≡ old
  old_is =
      let n : length old ≡ at.end - at.start = omega arith in
      ap (take (at.end - at.start)) from_start ∙ take_at old (tail ++ rest) (at.end - at.start) n

  pub in_order : (at.start ≤ at.end) × (at.end ≤ at.used) × (at.used ≤ length s)
  in_order = (omega arith, omega (arith, total_split m k there), h.within)

  module _ (t : Bytes) where
    new_size : at.start + length (t ++ tail) ≡ length (section (set m k t))
    unfolding section
    new_size =
        let d : length (directory (set m k t)) ≡ directory_size = length_directory (set m k t) ∙ ap (λ n. slot_size * n) (length-set m k t ∙ h.proper.count) in
        omega (arith, length-append (directory (set m k t)) (tables (set m k t)), d, ap length (tables_set m k there t), length-append front (t ++ tail))

    module _ (room : at.used + length t ≤ length s + (at.end - at.start)) where
      -- the bytes from the table on
      tables_put : store_at s at.start (t ++ tail) ≡ (directory m ++ front) ++ ((t ++ tail) ++ drop (length (section (set m k t))) s)
      unfolding store_at
      tables_put =
          let a : take at.start s ≡ directory m ++ front = ap (take at.start) whole ∙ take_at (directory m ++ front) (old ++ (tail ++ rest)) at.start upto_start in
          let l : at.start + length (t ++ tail) ≤ length s = omega (arith, room, total_split m k there, length-append t tail) in
          sets-eq (t ++ tail) s at.start l ∙ append_assoc (take at.start s) (t ++ tail) (drop (at.start + length (t ++ tail)) s)
          ∙ ap (λ (x : Bytes). x ++ ((t ++ tail) ++ drop (at.start + length (t ++ tail)) s)) a ∙ ap (λ n. (directory m ++ front) ++ ((t ++ tail) ++ drop n s)) new_size

      put_is : store_at (store_at (store_at s (at.start + length t) (take (at.used - at.end) (drop at.end s))) at.start t) (slot_size * k) (slot t) ≡ overwrite (section (set m k t)) s
      unfolding overwrite section
      put_is =
          let r : Bytes = drop (length (section (set m k t))) s in
          let u : Bytes = directory (take k m) in
          let w : Bytes = directory (drop (suc k) m) in
          let y : Bytes = (t ++ tail) ++ r in
          let e : length (slot old) ≡ length (slot t) = length_slot old ∙ sym (length_slot t) in
          ap (λ (x : Bytes). store_at (store_at (store_at s (at.start + length t) x) at.start t) (slot_size * k) (slot t)) tail_is
          ∙ ap (λ (x : Bytes). store_at x (slot_size * k) (slot t)) (store_at_before s at.start (at.start + length t) t tail refl ∙ tables_put)
          ∙ ap (λ (x : Bytes). store_at ((x ++ front) ++ y) (slot_size * k) (slot t)) (directory_split m k there)
          ∙ ap (λ (x : Bytes). store_at x (slot_size * k) (slot t)) (by_slot u (slot old) w front y)
          ∙ store_between u (slot old) (w ++ (front ++ y)) (slot t) (slot_size * k) (slot_place m k there) e
          ∙ by_section u (slot t) w front t tail r
          ∙ ap (λ (x : Bytes). (x ++ (front ++ (t ++ tail))) ++ r) (sym (directory_set m k there t))
          ∙ ap (λ (x : Bytes). (directory (set m k t) ++ x) ++ r) (sym (tables_set m k there t))

-- ---- by where the table lies

-- the map in which the table of number k lies there
pub record LocatedIn (o : Option Map) (k : ℕ) (at : Location) (m : Map) : Type 0 where
  pub holds : o ≡ some m
  pub place : at ≡ location_in m k

pub located_in : (o : Option Map) (k : ℕ) (at : Location) → Some at ≡ located k o → (m : Map) × LocatedIn o k at m
unfolding located
located_in none k at e = absurd (let z : ◌≡◌ {A = ℕ} 0 1 = cc in omega arith)
located_in (some m) k at e = (m, record { holds = refl; place = cc })

-- the places are in order, and a table of n bytes has room
pub record Places (s : Bytes) (k : ℕ) (at : Location) (n : ℕ) : Type 0 where
  pub begins : at.start ≤ at.end
  pub ends : at.end ≤ at.used
  pub within : at.used ≤ length s
  pub room : at.start + n + (at.used - at.end) ≤ length s
  pub slotted : slot_size * k + slot_size ≤ length s

module _ {s : Bytes} {k : ℕ} {at : Location} {t own : Bytes} (p : PutTablePre s k at t own) where
  in_map : (m : Map) × LocatedIn (section_of s) k at m
  in_map = located_in (section_of s) k at p.lies

  pub put_places : Places s k at (length t)
  put_places =
      let (m, l) = in_map in
      let (a, b, c) = in_order s m (section_meant s m l.holds) k p.small in
      let there : Places s k (location_in m k) (length t) = record { begins = a; ends = b; within = c; room = omega (arith, a, b, c, rw l.place at p.room); slotted = omega (arith, c, p.small) } in
      rw l.place there

put_lies : (s : Bytes) (k : ℕ) (at : Location) (t : Bytes) (m : Map) → LocatedIn (section_of s) k at m → SectionIs s m → k < numbers → at.used + length t ≤ length s + (at.end - at.start)
    → store_at (store_at (store_at s (at.start + length t) (take (at.used - at.end) (drop at.end s))) at.start t) (slot_size * k) (slot t) ≡ placed (section_of s) s k t
unfolding placed
put_lies s k at t m l h small room = rw (l.holds, l.place) (put_is s m h k small t (rw l.place at room))

pub put_placed : {s : Bytes} {k : ℕ} {at : Location} {t own : Bytes} → PutTablePre s k at t own
    → store_at (store_at (store_at s (at.start + length t) (take (at.used - at.end) (drop at.end s))) at.start t) (slot_size * k) own ≡ placed (section_of s) s k t
put_placed {s} {k} {at} {t} p = let (m, l) = in_map p in rw p.slotted (put_lies s k at t m l (section_meant s m l.holds) p.small p.room)
