-- The tables of a section passed one after the other. Assumes nothing.
use mathlib.Core.Path.{◌≡◌, refl, sym, ap, ◌∙◌}
use mathlib.Core.Bool.{Bool, true, false, ◌&&◌}
use mathlib.Core.Option.{Option, none, some}
use Prim.Native.Nat.{ℕ, suc, ◌+◌, ◌*◌, ◌-◌, ◌≤◌, ◌<◌}
use native.Mathlib.Omega.{arith}
use borrow.Author.Tests.{le-leb, lt-leb}
use lib.ListN.{length, take, drop, length-append, length-drop}
use lib.Seq.{length-take-le, drop-drop}
use Rattle.std.specs.Prelude.{Some, None}
use Rattle.pattern.specs.Bytes.{Bytes, equal}
use Rattle.register.specs.Maps.{Map, tables}
use Rattle.register.specs.Layout.{slot_size, slot, allowed}
use Rattle.register.specs.Sections.{first_size, first_table, intact, cons_if, held, tables_end}

tables_end_cons : (at : ℕ) (t : Bytes) (o : Option Map) → tables_end at (cons_if true t o) ≡ tables_end (at + length t) o
unfolding tables_end cons_if tables
tables_end_cons at t none = refl
tables_end_cons at t (some m) = ap Some (omega (arith, length-append t (tables m)))

-- the bytes of a slot that are there
pub slot_whole : (s : Bytes) (k : ℕ) → slot_size * k + slot_size ≤ length s → length (take (slot_size * k + slot_size - slot_size * k) (drop (slot_size * k) s)) ≡ slot_size
slot_whole s k h = omega (arith, length-take-le (slot_size * k + slot_size - slot_size * k) (drop (slot_size * k) s) (omega (arith, length-drop (slot_size * k) s)))

-- the tables of the numbers from k on, the first one at a place
abbrev pub held_from : (s : Bytes) (k b at : ℕ) → Option Map
held_from s k b at = held (b - k) (drop (slot_size * k) s) (drop at s)

-- up to number k the tables were passed, and those that are left end where all do
pub record Passing (s : Bytes) (a b at k end : ℕ) : Type 0 where
  pub inside : end ≤ length s
  pub left : tables_end at (held_from s a b at) ≡ tables_end end (held_from s k b end)

pub pass_start : (s : Bytes) (a b at : ℕ) → at ≤ length s → Passing s a b at a at
pass_start s a b at k = record { inside = k; left = refl }

module _ {s : Bytes} {a b at k end : ℕ} (w : Passing s a b at k end) where
  pub pass_end : b ≤ k → Some end ≡ tables_end at (held_from s a b at)
  unfolding held tables_end tables
  pass_end h =
      let e : b - k ≡ 0 = omega arith in
      let z : end + 0 ≡ end = omega arith in
      sym (w.left ∙ ap (λ x. tables_end end (held x (drop (slot_size * k) s) (drop end s))) e ∙ ap Some z)

  module _ (n : ℕ) (sized : n ≡ first_size (drop (slot_size * k) s)) (more : k < b) where
    abbrev slots : Bytes
    slots = drop (slot_size * k) s

    abbrev bytes : Bytes
    bytes = drop end s

    one_more : held_from s k b end ≡ cons_if (intact slots bytes) (first_table slots bytes) (held_from s (k + 1) b (end + n))
    unfolding held
    one_more =
        let e : b - k ≡ suc (b - (k + 1)) = omega arith in
        let f : slot_size * (k + 1) ≡ slot_size * k + slot_size = omega arith in
        rw (e, f, sized, drop-drop slot_size (slot_size * k) s, drop-drop (first_size slots) end s)

    not_intact : intact slots bytes ≡ false → None ≡ tables_end at (held_from s a b at)
    unfolding tables_end cons_if
    not_intact e = sym (w.left ∙ ap (tables_end end) one_more ∙ rw e)

    pub pass_long : length s - end < n → None ≡ tables_end at (held_from s a b at)
    unfolding intact
    pass_long h = not_intact (rw (lt-leb (first_size slots) (length bytes) (omega (arith, sized, length-drop end s))))

    module _ (fits : n ≤ length s - end) where
      there : first_size slots ≤ length bytes
      there = omega (arith, sized, length-drop end s)

      first_is : take (end + n - end) (drop end s) ≡ first_table slots bytes
      first_is = let e : end + n - end ≡ first_size slots = omega (arith, sized) in ap (λ x. take x bytes) e

      slot_is : take (slot_size * k + slot_size - slot_size * k) (drop (slot_size * k) s) ≡ take slot_size slots
      slot_is = let e : slot_size * k + slot_size - slot_size * k ≡ slot_size = omega arith in ap (λ x. take x slots) e

      -- what the code tests of the slot and the table
      abbrev tested : Bool
      tested =
          let t : Bytes = take (end + n - end) (drop end s) in
          allowed t && equal (take (slot_size * k + slot_size - slot_size * k) (drop (slot_size * k) s)) (slot t)

      intact_tested : intact slots bytes ≡ tested
      unfolding intact
      intact_tested = rw (le-leb (first_size slots) (length bytes) there, ← first_is, ← slot_is)

      pub pass_bad : false ≡ tested → None ≡ tables_end at (held_from s a b at)
      pass_bad h = not_intact (intact_tested ∙ sym h)

      pub pass_table : true ≡ tested → Passing s a b at (k + 1) (end + n)
      pass_table h =
          let size : end + length (first_table slots bytes) ≡ end + n = omega (arith, sized, length-take-le (first_size slots) bytes there) in
          let rest : Option Map = held_from s (k + 1) b (end + n) in
          record {
            inside = omega (arith, w.inside);
            left = w.left ∙ ap (tables_end end) (one_more ∙ ap (λ x. cons_if x (first_table slots bytes) rest) (intact_tested ∙ sym h)) ∙ tables_end_cons end (first_table slots bytes) rest ∙ ap (λ x. tables_end x rest) size;
          }
