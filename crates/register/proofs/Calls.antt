-- The calls on a register, from where the table of a number lies. Assumes nothing.
use mathlib.Core.Path.{◌≡◌, refl, sym, ap, subst, ◌∙◌}
use mathlib.Core.Bool.{true, false}
use mathlib.Core.List.{[], ◌++◌, append-nil}
use mathlib.Core.Option.{Option, none, some}
use Prim.Native.Nat.{ℕ, zero, suc, ◌+◌, ◌*◌, ◌-◌, ◌≤◌, ◌<◌}
use native.Mathlib.Omega.{arith}
use borrow.Author.Tests.{le-ltb, eq-eqb, ne_eqb}
use lib.Dec.{T}
use borrow.Rule.Slice.PartMut.{put_mid}
use lib.ListN.{length, take, drop, set, replicate, length-drop, length-replicate, replicate-append-replicate, drop_of_length-le}
use lib.Seq.{take_all, drop-drop}
use Rattle.std.specs.Prelude.{Some, None, is_some, IfSome}
use Rattle.std.specs.declared.option.Option.{Option as Optional}
use Rattle.pattern.specs.Numbers.{TABLE, FULL, REGISTER, MISSING}
use Rattle.pattern.specs.Bytes.{Bytes, equal, overwrite, zeroed}
use Rattle.pattern.specs.Scan.{refuse}
use Rattle.pattern.specs.Answers.{untried, ended, match_of}
use Rattle.register.specs.declared.locate.Location.{Location}
use Rattle.register.specs.Maps.{numbers, Map, table_of, empty, tables, total, is_table, missing, Changed, change}
use Rattle.register.specs.Layout.{preamble, preamble_size, slot_size, slot, directory_size, directory, section, laid_out, overhead, capacity, allowed, register_of}
use Rattle.register.specs.Register.{init_of, in_register, store_of, remove_of, match_number_of}
use Rattle.register.specs.Sections.{only_if, section_of, found, is_register, location_in, located, IsWithin, placed, PutTablePre}
use Rattle.register.proofs.Maps.{tables_empty, total_set}
use Rattle.register.proofs.Sections.{slot_none}
use Rattle.register.proofs.Cases.{store_bad, store_full, store_done, remove_missing, remove_done}
use Rattle.register.proofs.Meaning.{section_meant, found_split, meant, found_is}
use Rattle.register.proofs.Registers.{short_means_none, store_refused, remove_refused, match_refused, match_missing, match_means}
use Rattle.register.proofs.Putting.{old_is, in_order, LocatedIn, located_in}

-- ---- where a number's table lies

none_located : (k : ℕ) (o : Option Map) → None ≡ located k o → o ≡ none
unfolding located
none_located k none e = refl
none_located k (some m) e = absurd (let z : ◌≡◌ {A = ℕ} 0 1 = cc in omega arith)

-- whether there is a map
pub some_located : (k : ℕ) (o : Option Map) → is_some (located k o) ≡ is_register o
unfolding located is_register
some_located k none = refl
some_located k (some m) = refl

pub is_map : (o : Option Map) → true ≡ is_register o → (m : Map) × (o ≡ some m)
unfolding is_register
is_map none e = absurd (subst T e tt)
is_map (some m) e = (m, refl)

pub no_map : (o : Option Map) → false ≡ is_register o → o ≡ none
unfolding is_register
no_map none e = refl
no_map (some m) e = absurd (subst T (sym e) tt)

-- the part of lent bytes that is the section
abbrev section_part : Bytes → Bytes
section_part lent = take (length lent - preamble_size) (drop preamble_size lent)

section_part_is : (lent : Bytes) → section_part lent ≡ drop preamble_size lent
section_part_is lent = take_all (length lent - preamble_size) (drop preamble_size lent) (omega (arith, length-drop preamble_size lent))

module _ (lent : Bytes) (k : ℕ) where
  pub find_short : length lent < overhead → None ≡ located k (register_of lent)
  unfolding located
  find_short h = sym (ap (located k) (short_means_none lent h))

  pub find_off : false ≡ equal (take preamble_size lent) preamble → None ≡ located k (register_of lent)
  unfolding found only_if located
  find_off e = sym (ap (located k) (sym (found_is lent) ∙ ap (λ b. only_if b (section_of (drop preamble_size lent))) (sym e)))

  pub find_on : (r : Optional Location) → true ≡ equal (take preamble_size lent) preamble → r ≡ located k (section_of (section_part lent)) → r ≡ located k (register_of lent)
  unfolding found only_if
  find_on r e f =
      f ∙ ap (λ (s : Bytes). located k (section_of s)) (section_part_is lent) ∙ ap (located k) (ap (λ b. only_if b (section_of (drop preamble_size lent))) e ∙ found_is lent)

-- ---- an empty register

directory_empty : (c : ℕ) → directory (replicate c []) ≡ replicate (slot_size * c) 0
unfolding directory
directory_empty zero = refl
directory_empty (suc c) =
    let e : slot_size + slot_size * c ≡ slot_size * suc c = omega arith in
    ap (λ (x : Bytes). x ++ directory (replicate c [])) slot_none ∙ ap (λ (x : Bytes). replicate slot_size 0 ++ x) (directory_empty c) ∙ replicate-append-replicate slot_size (slot_size * c) 0 ∙ ap (λ n. replicate n 0) e

-- zeros with the first bytes over them are an empty map laid out, of any count
empty_laid : (lent : Bytes) (c n : ℕ) → n ≡ slot_size * c
    → preamble ++ drop preamble_size (zeroed (preamble_size + n) lent) ≡ overwrite (preamble ++ (directory (replicate c []) ++ tables (replicate c []))) lent
unfolding overwrite
empty_laid lent c n e =
    let v : Bytes = directory (replicate c []) ++ tables (replicate c []) in
    let z : v ≡ replicate n 0 = ap (λ (x : Bytes). directory (replicate c []) ++ x) (tables_empty c) ∙ append-nil _ ∙ directory_empty c ∙ ap (λ j. replicate j 0) (sym e) in
    let l : replicate (preamble_size + n) 0 ++ drop (preamble_size + n) lent ≡ replicate preamble_size 0 ++ (replicate n 0 ++ drop (preamble_size + n) lent) =
    ap (λ (x : Bytes). x ++ drop (preamble_size + n) lent) (sym (replicate-append-replicate {A = ℕ} preamble_size n 0)) in
    let r : preamble_size + n ≡ length (preamble ++ v) = omega (arith, ap length z, length-replicate {A = ℕ} n 0) in
    ap (λ (x : Bytes). preamble ++ drop preamble_size x) l
    ∙ ap (λ (x : Bytes). preamble ++ (x ++ drop (preamble_size + n) lent)) (sym z)
    ∙ ap (λ j. preamble ++ (v ++ drop j lent)) r

pub init_done : (lent first y : Bytes) → overhead ≤ length lent → first ≡ preamble → y ≡ zeroed overhead lent → record { number = 0; after = first ++ drop preamble_size y } ≡ init_of lent
unfolding init_of change refuse laid_out section empty
init_done lent first y h f g =
    let z : first ++ drop preamble_size y ≡ preamble ++ drop preamble_size (zeroed overhead lent) = rw (f, g) in
    sym (rw (le-ltb (length lent) overhead h) (ap (λ (v : Bytes). record { number = 0; after = v }) (sym (z ∙ empty_laid lent numbers directory_size refl))))

-- ---- changes

-- a call that a plain map refuses, and one that changes it
module _ (lent : Bytes) (m : Map) (e : register_of lent ≡ some m) (call : Map → Changed Map) where
  answers : in_register (register_of lent) call lent ≡ record { number = (call m).number; after = overwrite (laid_out (call m).after) lent }
  unfolding in_register
  answers = ap (λ (o : Option Map). in_register o call lent) e

  pub call_refused : (n : ℕ) → call m ≡ record { number = n; after = m } → record { number = n; after = lent } ≡ in_register (register_of lent) call lent
  call_refused n f =
      sym (answers ∙ ap (λ (c : Changed Map). record { number = c.number; after = overwrite (laid_out c.after) lent }) f ∙ ap (λ (x : Bytes). record { number = n; after = x }) (sym (meant lent m e).bytes))

  pub call_done : (m' : Map) (x : Bytes) → call m ≡ record { number = 0; after = m' } → x ≡ overwrite (laid_out m') lent → record { number = 0; after = x } ≡ in_register (register_of lent) call lent
  call_done m' x f g =
      ap (λ (y : Bytes). record { number = 0; after = y }) g
      ∙ sym (answers ∙ ap (λ (c : Changed Map). record { number = c.number; after = overwrite (laid_out c.after) lent }) f)

-- the section comes back with another map in it
back : (lent : Bytes) (m : Map) → preamble_size ≤ length lent → take preamble_size lent ≡ preamble → put_mid preamble_size (length lent - preamble_size) lent (overwrite (section m) (drop preamble_size lent)) ≡ overwrite (laid_out m) lent
unfolding overwrite laid_out
back lent m h o =
    let b : drop (length lent - preamble_size) (drop preamble_size lent) ≡ [] = drop_of_length-le (drop preamble_size lent) {i = length lent - preamble_size} (omega (arith, length-drop preamble_size lent)) in
    let c : preamble_size + length (section m) ≡ length (preamble ++ section m) = omega arith in
    let d : drop (length (section m)) (drop preamble_size lent) ≡ drop (length (preamble ++ section m)) lent = drop-drop (length (section m)) preamble_size lent ∙ ap (λ n. drop n lent) c in
    let y : Bytes = section m ++ drop (length (section m)) (drop preamble_size lent) in
    ap (λ (x : Bytes). take preamble_size lent ++ (y ++ x)) b ∙ ap (λ (x : Bytes). take preamble_size lent ++ x) (append-nil y) ∙ ap (λ (x : Bytes). x ++ y) o ∙ ap (λ (x : Bytes). preamble ++ (section m ++ x)) d

-- the table of number k lies there
pub record TableAt (lent : Bytes) (k : ℕ) (at : Location) : Type 0 where
  pub lies : Some at ≡ located k (register_of lent)
  pub small : k < numbers

-- what `find` said
pub table_found : {lent : Bytes} {k : ℕ} {at : Location} → Some at ≡ located k (register_of lent) → k < numbers → TableAt lent k at
table_found e s = record { lies = e; small = s }

module _ {lent : Bytes} {k : ℕ} {at : Location} (w : TableAt lent k at) where
  in_map : (m : Map) × LocatedIn (register_of lent) k at m
  in_map = located_in (register_of lent) k at w.lies

  lent_split : (m : Map) → register_of lent ≡ some m → (take preamble_size lent ≡ preamble) × (section_of (drop preamble_size lent) ≡ some m)
  lent_split m e = found_split lent m (found_is lent ∙ e)

  -- the places are in order
  lent_places : (at.start ≤ at.end) × (at.end ≤ at.used) × (at.used + preamble_size ≤ length lent) × (directory_size ≤ at.used)
  lent_places =
      let (m, l) = in_map in
      let s : Bytes = drop preamble_size lent in
      let (a, b, c) = in_order s m (section_meant s m (lent_split m l.holds).1) k w.small in
      let there : ((location_in m k).start ≤ (location_in m k).end) × ((location_in m k).end ≤ (location_in m k).used) × ((location_in m k).used + preamble_size ≤ length lent) × (directory_size ≤ (location_in m k).used) =
      (a, b, omega (arith, a, b, c, length-drop preamble_size lent), omega arith) in
      rw l.place there

  pub table_within : IsWithin at lent
  table_within = let (a, b, c, d) = lent_places in record { begins = a; ends = b; within = omega (arith, c) }

  pub lent_put : (t own : Bytes) → allowed t ≡ true → own ≡ slot t → length t ≤ length lent - preamble_size - at.used + (at.end - at.start) → PutTablePre (section_part lent) k at t own
  lent_put t own kt ks r =
      let (m, l) = in_map in
      let (a, b, c, d) = lent_places in
      let same : register_of lent ≡ section_of (section_part lent) = l.holds ∙ sym (ap section_of (section_part_is lent) ∙ (lent_split m l.holds).1) in
      record { small = w.small; lies = w.lies ∙ ap (located k) same; allows = kt; room = omega (arith, a, b, c, r, ap length (section_part_is lent), length-drop preamble_size lent); slotted = ks }

  -- the lent bytes after the table t took the place
  replaced : (m : Map) → register_of lent ≡ some m → (t x : Bytes) → x ≡ placed (section_of (section_part lent)) (section_part lent) k t
      → put_mid preamble_size (length lent - preamble_size) lent x ≡ overwrite (laid_out (set m k t)) lent
  unfolding placed
  replaced m e t x f =
      let (o, r) = lent_split m e in
      let (a, b, c, d) = lent_places in
      let g : placed (section_of (section_part lent)) (section_part lent) k t ≡ overwrite (section (set m k t)) (drop preamble_size lent) = rw (section_part_is lent, r) in
      ap (put_mid preamble_size (length lent - preamble_size) lent) (f ∙ g) ∙ back lent (set m k t) (omega (arith, c)) o

  sizes : (m : Map) → LocatedIn (register_of lent) k at m → (t : Bytes) → total (set m k t) + (at.end - at.start) ≡ at.used - directory_size + length t
  sizes m l t =
      let n : k < length m = omega (arith, w.small, (meant lent m l.holds).proper.count) in
      let there : total (set m k t) + ((location_in m k).end - (location_in m k).start) ≡ (location_in m k).used - directory_size + length t = omega (arith, total_set m k n t) in
      rw l.place there

  -- store: 11, 17, and the table
  module _ (t : Bytes) where
    pub stored_bad : is_table t ≡ false → record { number = TABLE; after = lent } ≡ store_of lent k t
    unfolding store_of
    stored_bad g = let (m, l) = in_map in call_refused lent m l.holds _ TABLE (store_bad (capacity lent) m k t g)

    module _ (g : is_table t ≡ true) where
      pub stored_full : length lent - preamble_size - at.used + (at.end - at.start) < length t → record { number = FULL; after = lent } ≡ store_of lent k t
      unfolding store_of
      stored_full h =
          let (m, l) = in_map in
          let (a, b, c, d) = lent_places in
          call_refused lent m l.holds _ FULL (store_full (capacity lent) m k t g (omega (arith, sizes m l t, a, b, c, d, h)))

      pub stored_done : length t ≤ length lent - preamble_size - at.used + (at.end - at.start) → (x : Bytes) → x ≡ placed (section_of (section_part lent)) (section_part lent) k t
          → record { number = 0; after = put_mid preamble_size (length lent - preamble_size) lent x } ≡ store_of lent k t
      unfolding store_of
      stored_done h x e =
          let (m, l) = in_map in
          let (a, b, c, d) = lent_places in
          call_done lent m l.holds _ (set m k t) _ (store_done (capacity lent) m k t g (omega (arith, sizes m l t, a, b, c, d, h))) (replaced m l.holds t x e)

  -- remove: 19, and no table
  is_missing : (m : Map) → LocatedIn (register_of lent) k at m → at.start ≡ at.end → missing m k ≡ true
  is_missing m l e = eq-eqb (length (table_of m k)) 0 (let z : (location_in m k).start ≡ (location_in m k).end = rw l.place at e in omega (arith, z))

  not_missing : (m : Map) → LocatedIn (register_of lent) k at m → (at.start ≡ at.end → ⊥) → missing m k ≡ false
  not_missing m l n = ne_eqb (length (table_of m k)) 0 (λ e. n (let z : (location_in m k).start ≡ (location_in m k).end = omega (arith, e) in rw l.place z))

  pub removed_missing : at.start ≡ at.end → record { number = MISSING; after = lent } ≡ remove_of lent k
  unfolding remove_of
  removed_missing e = let (m, l) = in_map in call_refused lent m l.holds _ MISSING (remove_missing m k (is_missing m l e))

  pub removed_done : (at.start ≡ at.end → ⊥) → (x : Bytes) → x ≡ placed (section_of (section_part lent)) (section_part lent) k []
      → record { number = 0; after = put_mid preamble_size (length lent - preamble_size) lent x } ≡ remove_of lent k
  unfolding remove_of
  removed_done n x e = let (m, l) = in_map in call_done lent m l.holds _ (set m k []) _ (remove_done m k (not_missing m l n)) (replaced m l.holds [] x e)

  -- match: 19, and the bytes of the table
  table_there : (m : Map) → LocatedIn (register_of lent) k at m → take (preamble_size + at.end - (preamble_size + at.start)) (drop (preamble_size + at.start) lent) ≡ table_of m k
  table_there m l =
      let s : Bytes = drop preamble_size lent in
      let n : preamble_size + at.end - (preamble_size + at.start) ≡ at.end - at.start = omega arith in
      let there : take ((location_in m k).end - (location_in m k).start) (drop (location_in m k).start s) ≡ table_of m k = old_is s m (section_meant s m (lent_split m l.holds).1) k w.small in
      ap (λ x. take x (drop (preamble_size + at.start) lent)) n ∙ ap (take (at.end - at.start)) (sym (drop-drop at.start preamble_size lent)) ∙ ap (λ (x : Location). take (x.end - x.start) (drop x.start s)) l.place ∙ there

  module _ (label scratch parts : Bytes) (budget : ℕ) where
    pub matched_missing : at.start ≡ at.end → ended (untried MISSING) scratch parts ≡ match_number_of lent k label scratch parts budget
    matched_missing e = let (m, l) = in_map in sym (match_missing lent m l.holds k (is_missing m l e) label scratch parts budget)

    pub matched_there : (at.start ≡ at.end → ⊥) → match_of (take (preamble_size + at.end - (preamble_size + at.start)) (drop (preamble_size + at.start) lent)) label scratch parts budget ≡ match_number_of lent k label scratch parts budget
    matched_there n =
        let (m, l) = in_map in
        ap (λ (t : Bytes). match_of t label scratch parts budget) (table_there m l) ∙ sym (match_means lent m l.holds k (not_missing m l n) label scratch parts budget)

-- wherever it lies
pub found_within : (lent : Bytes) (k : ℕ) (r : Optional Location) → k < numbers → r ≡ located k (register_of lent) → IfSome r (λ at. IsWithin at lent)
found_within lent k None s e = tt
found_within lent k (Some at) s e = table_within (table_found e s)

-- ---- no register

module _ (lent : Bytes) (k : ℕ) (e : None ≡ located k (register_of lent)) where
  pub stored_none : (t : Bytes) → record { number = REGISTER; after = lent } ≡ store_of lent k t
  stored_none t = sym (store_refused lent (none_located k (register_of lent) e) k t)

  pub removed_none : record { number = REGISTER; after = lent } ≡ remove_of lent k
  removed_none = sym (remove_refused lent (none_located k (register_of lent) e) k)

  pub matched_none : (label scratch parts : Bytes) (budget : ℕ) → ended (untried REGISTER) scratch parts ≡ match_number_of lent k label scratch parts budget
  matched_none label scratch parts budget = sym (match_refused lent (none_located k (register_of lent) e) k label scratch parts budget)
