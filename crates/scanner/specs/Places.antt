-- The byte at a place of a source: what the cursor's methods and `ends_at` promise. Private: a model for contracts inside the library.
use Rattle.std.specs.Prelude.{◌≡◌, Bool, true, false, cond, ℕ, suc, ◌-◌, ◌≤◌, ◌<◌, ltb, length, get_or, Option, Some, None}
use Rattle.pattern.specs.Numbers.{closing_byte, comma_byte, zero_byte}
use Rattle.pattern.specs.Bytes.{Bytes}
use Rattle.pattern.specs.Grammar.{letter, quote, opening, digit, point, CharClass, count_char, body_start, branch_end, char_class, LiteralClass, plain, quoting, barred, literal_class}
use Rattle.scanner.specs.declared.cursor.Cursor.{Cursor}
use Rattle.scanner.specs.declared.cursor.Class.{Class}
use Rattle.scanner.specs.declared.cursor.Class.TheVariants as class
use Rattle.scanner.specs.declared.cursor.Separator.{Separator}
use Rattle.scanner.specs.declared.cursor.Separator.TheVariants as separator

-- the class of the byte at a place
abbrev pub class_at : Bytes → ℕ → CharClass
class_at s at = char_class (get_or s at 0)

abbrev pub digit_class : CharClass → Bool
digit_class (count_char digit) = true
digit_class (count_char point) = false
digit_class (body_start b) = false
digit_class (branch_end e) = false

unfoldable pub is_digit : ℕ → Bool
is_digit b = digit_class (char_class b)

abbrev pub letter_class : CharClass → Bool
letter_class (count_char m) = false
letter_class (body_start letter) = true
letter_class (body_start quote) = false
letter_class (body_start opening) = false
letter_class (branch_end e) = false

unfoldable pub is_letter : ℕ → Bool
is_letter b = letter_class (char_class b)

abbrev pub plain_text : LiteralClass → Bool
plain_text plain = true
plain_text quoting = false
plain_text barred = false

unfoldable pub is_plain : ℕ → Bool
is_plain b = plain_text (literal_class b)

-- 0 where an atom begins, else 1
abbrev pub ends_class : CharClass → ℕ
ends_class (count_char m) = 0
ends_class (body_start b) = 1
ends_class (branch_end e) = 1

unfoldable pub ends_at : Bytes → ℕ → ℕ
ends_at s at = cond (ltb at (length s)) (ends_class (class_at s at)) 1

-- a cursor past a place, within the source
pub record Onward (s : Bytes) (at : ℕ) (next : Cursor) : Type 0 where
  pub on : at < next.at
  pub within : next.at ≤ length s

-- the byte at a place is c, and this is the cursor past it
pub record ByteIs (s : Bytes) (at c : ℕ) (next : Cursor) : Type 0 where
  pub within : at < length s
  pub value : c ≡ get_or s at 0
  pub past : next.at ≡ suc at

-- the byte at a place is of this class, and this is the cursor past it
pub record ClassIs (s : Bytes) (at : ℕ) (x : CharClass) (next : Cursor) : Type 0 where
  pub within : at < length s
  pub kind : class_at s at ≡ x
  pub past : next.at ≡ suc at

-- the byte at a place is the letter c, and this is the cursor past it
pub record LetterIs (s : Bytes) (at c : ℕ) (next : Cursor) : Type 0 where
  pub kind : ClassIs s at (body_start letter) next
  pub value : c ≡ get_or s at 0

-- no byte of this class is at a place
pub record ClassNot (s : Bytes) (at : ℕ) (x : CharClass) : Type 0 where
  pub not : at < length s → ¬ (class_at s at ≡ x)

unfoldable pub BytePost : Bytes → ℕ → Option (ℕ × Cursor) → Type 0
BytePost s at (Some (c, next)) = ByteIs s at c next
BytePost s at None = length s ≤ at

unfoldable pub DigitPost : Bytes → ℕ → Option (ℕ × Cursor) → Type 0
DigitPost s at (Some (d, next)) = ClassIs s at (count_char digit) next × (d ≡ get_or s at 0 - zero_byte) × (d ≤ 9)
DigitPost s at None = ClassNot s at (count_char digit)

unfoldable pub PointPost : Bytes → ℕ → Option Cursor → Type 0
PointPost s at (Some next) = ClassIs s at (count_char point) next
PointPost s at None = ClassNot s at (count_char point)

unfoldable pub ClassPost : Bytes → ℕ → Class → Type 0
ClassPost s at (class.Letter c next) = LetterIs s at c next
ClassPost s at (class.Quote next) = ClassIs s at (body_start quote) next
ClassPost s at (class.Opening next) = ClassIs s at (body_start opening) next
ClassPost s at class.Other = ClassNot s at (body_start letter) × ClassNot s at (body_start quote) × ClassNot s at (body_start opening)

unfoldable pub SeparatorPost : Bytes → ℕ → Separator → Type 0
SeparatorPost s at (separator.Comma next) = ByteIs s at comma_byte next
SeparatorPost s at (separator.Closing next) = ByteIs s at closing_byte next
SeparatorPost s at separator.Other = at < length s → ¬ (get_or s at 0 ≡ closing_byte) × ¬ (get_or s at 0 ≡ comma_byte)
