-- What the byte at a place says of it. Assumes nothing.
use mathlib.Core.Path.{◌≡◌, refl, sym, ap, ◌∙◌}
use mathlib.Core.Bool.{Bool, true, false, cond, not}
use Prim.Native.Nat.{ℕ, ◌-◌, ◌≤◌, ◌<◌}
use native.Mathlib.Omega.{arith}
use lib.Dec.{leb, eqb}
use lib.ListN.{length}
use borrow.Author.Tests.{eqb-true, eqb-false, lt-ltb, le-ltb}
use Rattle.std.specs.Bool.{then_some}
use Rattle.std.specs.Int.{from_bool}
use Rattle.std.specs.Char.{is_ascii_digit, is_ascii_alphabetic}
use Rattle.pattern.specs.Bytes.{Bytes, between}
use Rattle.pattern.specs.Grammar.{letter, quote, opening, digit, point, CharClass, count_char, body_start, branch_end, char_class, literal_class}
use Rattle.pattern.proofs.Tests.{agree, agreed, all, all_at}
use Rattle.pattern.proofs.Notation.{ByteIn, class_byte}
use Rattle.scanner.specs.declared.cursor.Cursor.{Cursor}
use Rattle.scanner.specs.declared.cursor.Class.{Class}
use Rattle.scanner.specs.declared.cursor.Class.TheVariants as class
use Rattle.scanner.specs.Places.{digit_class, letter_class, is_digit, is_letter, is_plain, ends_class, ends_at, ByteIs, ClassIs, LetterIs, ClassNot, PointPost, ClassPost}

-- the code's tests of a byte, each compared at all 256 of them
digit_test : (b : ℕ) → b < 256 → is_ascii_digit b ≡ is_digit b
unfolding is_digit char_class between all agree
digit_test b h = agreed _ _ (all_at 256 (λ b. agree (is_ascii_digit b) (is_digit b)) tt b h)

letter_test : (b : ℕ) → b < 256 → is_ascii_alphabetic b ≡ is_letter b
unfolding is_letter char_class between all agree
letter_test b h = agreed _ _ (all_at 256 (λ b. agree (is_ascii_alphabetic b) (is_letter b)) tt b h)

pub plain_test : (b : ℕ) → b < 256 → cond (eqb b 34) false (cond (leb 32 b) (leb b 126) false) ≡ is_plain b
unfolding is_plain literal_class between all agree
plain_test b h = agreed _ _ (all_at 256 (λ b. agree (cond (eqb b 34) false (cond (leb 32 b) (leb b 126) false)) (is_plain b)) tt b h)

-- what they say of its class
pub digit_is : (b : ℕ) → b < 256 → is_ascii_digit b ≡ true → char_class b ≡ count_char digit
unfolding is_digit
digit_is b h e = go (char_class b) (sym (digit_test b h) ∙ e)
  where
    go : (x : CharClass) → digit_class x ≡ true → x ≡ count_char digit
    go (count_char digit) h = refl
    go (count_char point) h = cc
    go (body_start x) h = cc
    go (branch_end x) h = cc

pub digit_not : (b : ℕ) → b < 256 → is_ascii_digit b ≡ false → ¬ (char_class b ≡ count_char digit)
unfolding is_digit
digit_not b l e h = let z : true ≡ false = sym (ap digit_class h) ∙ sym (digit_test b l) ∙ e in let y : ◌≡◌ {A = ℕ} 0 1 = cc in omega arith

letter_is : (b : ℕ) → b < 256 → is_ascii_alphabetic b ≡ true → char_class b ≡ body_start letter
unfolding is_letter
letter_is b h e = go (char_class b) (sym (letter_test b h) ∙ e)
  where
    go : (x : CharClass) → letter_class x ≡ true → x ≡ body_start letter
    go (count_char x) h = cc
    go (body_start letter) h = refl
    go (body_start quote) h = cc
    go (body_start opening) h = cc
    go (branch_end x) h = cc

letter_not : (b : ℕ) → b < 256 → is_ascii_alphabetic b ≡ false → ¬ (char_class b ≡ body_start letter)
unfolding is_letter
letter_not b l e h = let z : true ≡ false = sym (ap letter_class h) ∙ sym (letter_test b l) ∙ e in let y : ◌≡◌ {A = ℕ} 0 1 = cc in omega arith

-- what a class of one byte says of the byte
only_at : (b c : ℕ) (x : CharClass) → (ByteIn x b → b ≡ c) → ¬ (b ≡ c) → ¬ (char_class b ≡ x)
only_at b c x f d h = d (f (rw h at (class_byte b)))

module _ (s : Bytes) (at : ℕ) where
  -- nothing stands at the end
  pub end_not : length s ≤ at → (x : CharClass) → ClassNot s at x
  end_not h x = record { not = λ l k. omega arith }

  module _ (c : ℕ) (next : Cursor) (is : ByteIs s at c next) where
    pub of_class : (x : CharClass) → char_class c ≡ x → ClassIs s at x next
    of_class x e = record { within = is.within; kind = rw is.value at e; past = is.past }

    pub not_class : (x : CharClass) → ¬ (char_class c ≡ x) → ClassNot s at x
    not_class x d = record { not = λ l. rw is.value at d }

    pub letter_here : c < 256 → is_ascii_alphabetic c ≡ true → LetterIs s at c next
    letter_here h e = record { kind = of_class (body_start letter) (letter_is c h e); value = is.value }

    pub no_letter : c < 256 → is_ascii_alphabetic c ≡ false → ClassNot s at (body_start letter)
    no_letter h e = not_class (body_start letter) (letter_not c h e)

    -- it is not the one byte of a class
    pub not_only : (b : ℕ) (x : CharClass) → (ByteIn x c → c ≡ b) → ¬ (c ≡ b) → ClassNot s at x
    not_only b x f d = not_class x (only_at c b x f d)

    pub point_by : PointPost s at (then_some (eqb c 46) next)
    unfolding PointPost char_class between
    point_by = go (eqb c 46) refl
      where
        go : (t : Bool) → eqb c 46 ≡ t → PointPost s at (then_some t next)
        go true e = of_class (count_char point) (ap char_class (eqb-true c 46 e))
        go false e = not_only 46 (count_char point) (λ h. h) (eqb-false c 46 e)

    pub flag_is : ends_at s at ≡ ends_class (char_class c)
    unfolding ends_at
    flag_is = simp (lt-ltb at (length s) is.within) (rw is.value)

  pub flag_end : length s ≤ at → ends_at s at ≡ 1
  unfolding ends_at
  flag_end h = simp (le-ltb at (length s) h)

flag_other : (b : ℕ) → b < 256 → is_ascii_digit b ≡ false → ¬ (b ≡ 46) → ends_class (char_class b) ≡ 1
flag_other b h e d = go (char_class b) (digit_not b h e) (only_at b 46 (count_char point) (λ h. h) d)
  where
    go : (x : CharClass) → ¬ (x ≡ count_char digit) → ¬ (x ≡ count_char point) → ends_class x ≡ 1
    go (count_char digit) u v = absurd (u refl)
    go (count_char point) u v = absurd (v refl)
    go (body_start x) u v = refl
    go (branch_end x) u v = refl

-- the code's test for it: no digit, and no point
pub flag_by : (b : ℕ) → b < 256 → is_ascii_digit b ≡ false → ends_class (char_class b) ≡ from_bool (not (eqb b 46))
unfolding char_class between
flag_by b h e = go (eqb b 46) refl
  where
    go : (t : Bool) → eqb b 46 ≡ t → ends_class (char_class b) ≡ from_bool (not t)
    go true f = ap (λ b. ends_class (char_class b)) (eqb-true b 46 f)
    go false f = flag_other b h e (eqb-false b 46 f)

-- a letter stands before the cursor past it
pub letter_place : (s : Bytes) (at c : ℕ) (next : Cursor) → LetterIs s at c next → next.at - 1 ≡ at
letter_place s at c next is = omega (arith, is.kind.past)

-- by the cases of what a body begins with: a letter, or none
pub class_letter : (s : Bytes) (at c : ℕ) (next : Cursor) → ClassPost s at (class.Letter c next) → LetterIs s at c next
unfolding ClassPost
class_letter s at c next h = h

pub class_none : (s : Bytes) (at : ℕ) (r : Class) → ((c : ℕ) (next : Cursor) → ¬ (r ≡ class.Letter c next)) → ClassPost s at r → ClassNot s at (body_start letter)
unfolding ClassPost
class_none s at (class.Letter c next) d h = absurd (d c next refl)
class_none s at (class.Quote next) d h = record { not = λ l e. let z = h.kind in let y : ◌≡◌ {A = ℕ} 0 1 = cc in omega arith }
class_none s at (class.Opening next) d h = record { not = λ l e. let z = h.kind in let y : ◌≡◌ {A = ℕ} 0 1 = cc in omega arith }
class_none s at class.Other d h = h.0
