-- A good buffer means exactly one map. Assumes nothing.
use mathlib.Core.Path.{◌≡◌, refl, sym, ap, ap₂, ◌∙◌}
use mathlib.Core.Logic.{◌↔◌}
use mathlib.Core.Bool.{Bool, true, false, ◌&&◌}
use mathlib.Core.List.{[], ◌∷◌, ◌++◌, append_assoc}
use mathlib.Core.Option.{Option, none, some}
use Prim.Native.Nat.{ℕ, zero, suc, ◌+◌, ◌*◌, ◌≤◌}
use native.Mathlib.Omega.{arith}
use borrow.Author.Tests.{le-leb, leb-true}
use lib.Dec.{T, leb}
use lib.ListN.{length, take, drop, length-append, length-drop, take-append-drop}
use lib.Seq.{drop-drop, drop_at}
use Rattle.pattern.specs.Bytes.{Bytes, equal, le16, overwrite}
use Rattle.pattern.proofs.Agree.{equal_decides}
use Rattle.pattern.proofs.Tests.{true-T, and_both, passed, if_true}
use Rattle.pattern.proofs.Stores.{take_overwrite, drop_overwrite}
use Rattle.register.specs.Maps.{numbers, Map, tables, total}
use Rattle.register.specs.Layout.{preamble, preamble_size, slot_size, directory_size, directory, section, laid_out, overhead, cut, allowed, all_allowed, register_of, Proper, Meant}
use Rattle.register.specs.Sections.{first_table, intact, held, only_if, section_of, found}
use Rattle.register.proofs.Maps.{AllAllowed}
use Rattle.register.proofs.Sections.{length_directory, cons_is, held_is, is_held}

only_is : (b : Bool) (o : Option Map) (m : Map) → only_if b o ≡ some m → (b ≡ true) × (o ≡ some m)
unfolding only_if
only_is true o m e = (refl, e)
only_is false o m e = absurd (let z : ◌≡◌ {A = ℕ} 0 1 = cc in omega arith)

-- ---- sections

pub record SectionIs (s : Bytes) (m : Map) : Type 0 where
  pub proper : Proper m
  pub within : directory_size + total m ≤ length s
  pub bytes : s ≡ directory m ++ (tables m ++ drop (directory_size + total m) s)

pub section_meant : (s : Bytes) (m : Map) → section_of s ≡ some m → SectionIs s m
unfolding section_of
section_meant s m e =
    let (b, o) = only_is (leb directory_size (length s)) (held numbers s (drop directory_size s)) m e in
    let l : directory_size ≤ length s = leb-true directory_size (length s) b in
    let h = held_is numbers s (drop directory_size s) m o in
    let r : Bytes = drop directory_size s in
    let x : s ≡ directory m ++ r = sym (take-append-drop directory_size s) ∙ ap (λ (y : Bytes). y ++ r) h.slots in
    let z : r ≡ tables m ++ drop (directory_size + total m) s =
    sym (take-append-drop (total m) r) ∙ ap (λ (y : Bytes). y ++ drop (total m) r) h.bytes ∙ ap (λ (y : Bytes). tables m ++ y) (drop-drop (total m) directory_size s) in
    record {
      proper = record { count = h.count; each = h.each };
      within = omega (arith, l, h.within, length-drop directory_size s);
      bytes = x ∙ ap (λ (y : Bytes). directory m ++ y) z;
    }

module _ (m : Map) (p : Proper m) where
  pub directory_whole : length (directory m) ≡ directory_size
  directory_whole = length_directory m ∙ ap (λ (n : ℕ). slot_size * n) p.count

  pub length_section : length (section m) ≡ directory_size + total m
  unfolding section
  length_section = omega (arith, length-append (directory m) (tables m), directory_whole)

  pub section_means : (y : Bytes) → section_of (section m ++ y) ≡ some m
  unfolding section_of section only_if
  section_means y =
      let a : (directory m ++ tables m) ++ y ≡ directory m ++ (tables m ++ y) = append_assoc (directory m) (tables m) y in
      let s : Bytes = directory m ++ (tables m ++ y) in
      let l : directory_size ≤ length s = omega (arith, directory_whole, length-append (directory m) (tables m ++ y)) in
      let b : drop directory_size s ≡ tables m ++ y = drop_at (directory m) (tables m ++ y) directory_size directory_whole in
      let h : held numbers s (tables m ++ y) ≡ some m = ap (λ (n : ℕ). held n s (tables m ++ y)) (sym p.count) ∙ is_held m (tables m ++ y) y p.each in
      ap section_of a ∙ ap (λ (x : Bool). only_if x (held numbers s (drop directory_size s))) (le-leb directory_size (length s) l) ∙ ap (λ (x : Bytes). held numbers s x) b ∙ h

-- ---- buffers

pub found_split : (lent : Bytes) (m : Map) → found lent ≡ some m → (take preamble_size lent ≡ preamble) × (section_of (drop preamble_size lent) ≡ some m)
unfolding found
found_split lent m e =
    let (b, o) = only_is (equal (take preamble_size lent) preamble) (section_of (drop preamble_size lent)) m e in
    ((equal_decides (take preamble_size lent) preamble).sound (true-T _ b), o)

pub length_laid_out : (m : Map) → Proper m → length (laid_out m) ≡ overhead + total m
unfolding laid_out
length_laid_out m p = omega (arith, length_section m p)

found_meant : (lent : Bytes) (m : Map) → found lent ≡ some m → Meant lent m
unfolding laid_out section overwrite
found_meant lent m e =
    let (o, r) = found_split lent m e in
    let h = section_meant (drop preamble_size lent) m r in
    let d : length (directory m ++ tables m) ≡ directory_size + total m = omega (arith, length-append (directory m) (tables m), directory_whole m h.proper) in
    let l : preamble_size + (directory_size + total m) ≡ length (preamble ++ (directory m ++ tables m)) = omega (arith, d) in
    let z : lent ≡ preamble ++ drop preamble_size lent = sym (take-append-drop preamble_size lent) ∙ ap (λ (y : Bytes). y ++ drop preamble_size lent) o in
    let y : drop (directory_size + total m) (drop preamble_size lent) ≡ drop (length (preamble ++ (directory m ++ tables m))) lent = drop-drop (directory_size + total m) preamble_size lent ∙ ap (λ n. drop n lent) l in
    record {
      proper = h.proper;
      bytes = z ∙ ap (λ (x : Bytes). preamble ++ x) (h.bytes ∙ ap (λ (x : Bytes). directory m ++ (tables m ++ x)) y ∙ sym (append_assoc (directory m) (tables m) _));
    }

meant_found : (lent : Bytes) (m : Map) → Meant lent m → found lent ≡ some m
unfolding found laid_out only_if overwrite
meant_found lent m h =
    let s : Bytes = section m ++ drop (length (preamble ++ section m)) lent in
    let b : equal (take preamble_size (preamble ++ s)) preamble ≡ true = passed _ ((equal_decides (take preamble_size (preamble ++ s)) preamble).complete refl) in
    ap found h.bytes ∙ ap (λ (x : Bool). only_if x (section_of s)) b ∙ section_means m h.proper (drop (length (preamble ++ section m)) lent)

-- ---- what lent bytes mean

held_cut : (c : ℕ) (slots bytes : Bytes) (m : Map) → held c slots bytes ≡ some m → cut c slots bytes ≡ m
unfolding held cut
held_cut zero slots bytes m e = cc
held_cut (suc c) slots bytes m e =
    let (b, (n, o, x)) = cons_is (intact slots bytes) (first_table slots bytes) _ m e in
    ap (λ (y : Map). first_table slots bytes ∷ y) (held_cut c _ _ n o) ∙ x

-- the tables that the directory tells of
abbrev pub read : Bytes → Map
read lent = cut numbers (drop preamble_size lent) (drop overhead lent)

pub found_read : (lent : Bytes) (m : Map) → found lent ≡ some m → read lent ≡ m
unfolding section_of
found_read lent m e =
    let (o, r) = found_split lent m e in
    let s : Bytes = drop preamble_size lent in
    let (b, h) = only_is (leb directory_size (length s)) (held numbers s (drop directory_size s)) m r in
    ap (cut numbers s) (sym (drop-drop directory_size preamble_size lent)) ∙ held_cut numbers s (drop directory_size s) m h

cut_count : (c : ℕ) (slots bytes : Bytes) → length (cut c slots bytes) ≡ c
unfolding cut
cut_count zero slots bytes = refl
cut_count (suc c) slots bytes = ap suc (cut_count c _ _)

each_allowed : (m : Map) → T (all_allowed m) → AllAllowed m
unfolding all_allowed allowed
each_allowed [] t k = refl
each_allowed (x ∷ m) t zero = passed (allowed x) (and_both (allowed x) (all_allowed m) t).0
each_allowed (x ∷ m) t (suc k) = each_allowed m (and_both (allowed x) (all_allowed m) t).1 k

allowed_each : (m : Map) → AllAllowed m → all_allowed m ≡ true
unfolding all_allowed
allowed_each [] f = refl
allowed_each (x ∷ m) f = rw (f 0, allowed_each m (λ k. f (suc k)))

-- what the definition tests
abbrev right : Bytes → Map → Bool
right lent m = all_allowed m && equal (take (length (laid_out m)) lent) (laid_out m)

right_meant : (lent : Bytes) → right lent (read lent) ≡ true → Meant lent (read lent)
unfolding overwrite
right_meant lent e =
    let m : Map = read lent in
    let (a, b) = and_both (all_allowed m) (equal (take (length (laid_out m)) lent) (laid_out m)) (true-T _ e) in
    let t : take (length (laid_out m)) lent ≡ laid_out m = (equal_decides (take (length (laid_out m)) lent) (laid_out m)).sound b in
    record {
      proper = record { count = cut_count numbers _ _; each = each_allowed m a };
      bytes = sym (take-append-drop (length (laid_out m)) lent) ∙ ap (λ (x : Bytes). x ++ drop (length (laid_out m)) lent) t;
    }

meant_right : (lent : Bytes) (m : Map) → Meant lent m → right lent m ≡ true
meant_right lent m h =
    let t : take (length (laid_out m)) lent ≡ laid_out m = ap (take (length (laid_out m))) h.bytes ∙ take_overwrite (laid_out m) lent in
    ap₂ (λ a b. a && b) (allowed_each m h.proper.each) (passed _ ((equal_decides (take (length (laid_out m)) lent) (laid_out m)).complete t))

pub meant : (lent : Bytes) (m : Map) → register_of lent ≡ some m → Meant lent m
unfolding register_of
meant lent m e = go (right lent (read lent)) refl e
  where
    go : (b : Bool) → right lent (read lent) ≡ b → (elim b [ true ↦ some (read lent) | false ↦ none ]) ≡ some m → Meant lent m
    go true f e = let n : read lent ≡ m = cc in rw n at (right_meant lent f)
    go false f e = absurd (let z : ◌≡◌ {A = ℕ} 0 1 = cc in omega arith)

pub means : (lent : Bytes) (m : Map) → Meant lent m → register_of lent ≡ some m
unfolding register_of
means lent m h =
    let e : read lent ≡ m = found_read lent m (meant_found lent m h) in
    ap (λ (n : Map). elim (right lent n) [ true ↦ some n | false ↦ none ]) e ∙ if_true (right lent m) (some m) none (meant_right lent m h)

-- "a good one means exactly one map": a buffer means a map just where it begins with the map laid out
pub exactly : (lent : Bytes) (m : Map) → (register_of lent ≡ some m) ↔ Meant lent m
exactly lent m = (meant lent m, means lent m)

pub one_map : (lent : Bytes) (m n : Map) → Meant lent m → Meant lent n → m ≡ n
one_map lent m n g h = let e : some m ≡ some n = sym (means lent m g) ∙ means lent n h in cc

-- a map laid out over any bytes
pub laid : (m : Map) (lent : Bytes) → Proper m → register_of (overwrite (laid_out m) lent) ≡ some m
unfolding overwrite
laid m lent p =
    let v : Bytes = laid_out m in
    means (overwrite v lent) m (record { proper = p; bytes = ap (λ (x : Bytes). v ++ x) (sym (drop_overwrite (length v) v lent (omega arith))) })

-- bytes after the last table mean nothing: any other bytes that begin so mean the same
pub rest_ignored : (lent other : Bytes) (m : Map) → register_of lent ≡ some m → take (length (laid_out m)) other ≡ take (length (laid_out m)) lent → register_of other ≡ some m
unfolding overwrite
rest_ignored lent other m e f =
    let h = meant lent m e in
    let n : ℕ = length (laid_out m) in
    let t : take n other ≡ laid_out m = f ∙ ap (take n) h.bytes ∙ take_overwrite (laid_out m) lent in
    means other m (record { proper = h.proper; bytes = sym (take-append-drop n other) ∙ ap (λ (x : Bytes). x ++ drop n other) t })

-- ---- the code finds it

same_option : (o p : Option Map) → ((m : Map) → o ≡ some m → p ≡ some m) → ((m : Map) → p ≡ some m → o ≡ some m) → o ≡ p
same_option none none f g = refl
same_option none (some m) f g = g m refl
same_option (some m) p f g = sym (f m refl)

pub found_is : (lent : Bytes) → found lent ≡ register_of lent
found_is lent = same_option (found lent) (register_of lent) (λ m e. means lent m (found_meant lent m e)) (λ m e. meant_found lent m (meant lent m e))

-- "a version 1 register, is 18": what begins as one means no map
pub version_1_none : (rest : Bytes) → register_of (77 ∷ 80 ∷ 82 ∷ le16 1 rest) ≡ none
unfolding found only_if equal
version_1_none rest = sym (found_is (77 ∷ 80 ∷ 82 ∷ le16 1 rest))
