-- Which byte a class is. Assumes nothing.
use mathlib.Core.Path.{◌≡◌}
use mathlib.Core.Bool.{◌||◌}
use Prim.Native.Nat.{ℕ, ◌≤◌}
use lib.Dec.{T, leb, leb→le, eqb, eqb→eq}
use Rattle.pattern.specs.Numbers.{quote_byte, opening_byte, closing_byte, comma_byte, point_byte}
use Rattle.pattern.specs.Bytes.{between}
use Rattle.pattern.specs.Grammar.{letter, quote, opening, closing, comma, neither, digit, point, CharClass, count_char, body_start, branch_end, char_class, LiteralClass, plain, quoting, barred, literal_class}
use Rattle.pattern.proofs.Tests.{and_both, cond_case}

-- what a class says of its byte
abbrev pub ByteIn : CharClass → ℕ → Type 0
ByteIn (count_char digit) c = c ≤ 57
ByteIn (count_char point) c = c ≡ point_byte
ByteIn (body_start letter) c = Unit {0}
ByteIn (body_start quote) c = c ≡ quote_byte
ByteIn (body_start opening) c = c ≡ opening_byte
ByteIn (branch_end closing) c = c ≡ closing_byte
ByteIn (branch_end comma) c = c ≡ comma_byte
ByteIn (branch_end neither) c = Unit {0}

pub class_byte : (c : ℕ) → ByteIn (char_class c) c
unfolding char_class between
class_byte c =
    let F : CharClass → Type 0 = λ x. ByteIn x c in
    cond_case (between 48 57 c) F (λ t. leb→le c 57 (and_both (leb 48 c) (leb c 57) t).1) λ _.
    cond_case (between 65 90 c || between 97 122 c) F (λ t. tt) λ _.
    cond_case (eqb c point_byte) F (eqb→eq c point_byte) λ _.
    cond_case (eqb c quote_byte) F (eqb→eq c quote_byte) λ _.
    cond_case (eqb c opening_byte) F (eqb→eq c opening_byte) λ _.
    cond_case (eqb c closing_byte) F (eqb→eq c closing_byte) λ _.
    cond_case (eqb c comma_byte) F (eqb→eq c comma_byte) λ _. tt

pub digit_byte : (c : ℕ) → char_class c ≡ count_char digit → c ≤ 57
digit_byte c e = rw e at (class_byte c)

-- what a byte of a literal is
abbrev pub TextByte : LiteralClass → ℕ → Type 0
TextByte plain c = T (between 32 126 c)
TextByte quoting c = c ≡ quote_byte
TextByte barred c = Unit {0}

pub literal_byte : (c : ℕ) → TextByte (literal_class c) c
unfolding literal_class
literal_byte c =
    let F : LiteralClass → Type 0 = λ x. TextByte x c in
    cond_case (eqb c quote_byte) F (eqb→eq c quote_byte) λ _.
    cond_case (between 32 126 c) F (λ t. t) λ _. tt
