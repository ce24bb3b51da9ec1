-- A tree derives its printed source. Assumes nothing.
use mathlib.Core.Path.{◌≡◌, refl, sym}
use mathlib.Core.Bool.{Bool, true, false, ◌&&◌, ◌||◌}
use mathlib.Core.List.{List, [], ◌∷◌, ◌++◌, append_assoc, append-nil}
use mathlib.Core.Option.{Option, none, some}
use Prim.Native.Nat.{ℕ, zero, suc, ◌+◌, ◌-◌, ◌*◌, ◌/◌, ◌%◌, ◌≤◌, ◌<◌}
use native.Mathlib.Omega.{arith}
use lib.Bits.{bit_or, or_add_and, and_le_r}
use lib.Dec.{T, leb, ltb, eqb, leb→le, le→leb, eqb→eq}
use Rattle.pattern.specs.Numbers.{set_limit}
use Rattle.pattern.specs.Bytes.{Bytes, between}
use Rattle.pattern.specs.Codes.{Code, all_codes, bit_among, bit}
use Rattle.pattern.specs.Syntax.{Sort, Syntax, last, then, repeat, codes, literal, group, only, or}
use Rattle.pattern.specs.Meaning.{Cut}
use Rattle.pattern.specs.Grammar.{letter, quote as quote_starts, opening, digit, CharClass, count_char, body_start, branch_end, char_class, plain, literal_class, Number, Low, missing, given, Count, exact, from, range, Letters, Quoted, start, byte, Derives}
use Rattle.pattern.specs.Within.{InLimits}
use Rattle.pattern.specs.Print.{decimal_of, decimal, print_low, print_count, print_set, double, print}
use Rattle.pattern.proofs.Tests.{and_both, passed, cond_case, all, all_at}
use Rattle.pattern.proofs.Notation.{literal_byte}
use Rattle.pattern.proofs.Decimal.{most, le_most}

digit_char : (c : ℕ) → 48 ≤ c → c ≤ 57 → char_class c ≡ count_char digit
unfolding char_class between
digit_char c h k = rw (passed (leb 48 c) (le→leb 48 c h), passed (leb c 57) (le→leb c 57 k))

one_digit : (n : ℕ) → n < 10 → Number n ((48 + n) ∷ [])
one_digit n h =
    let e : (48 + n) - 48 ≡ n = omega arith in
    rw e at (Number.one (48 + n) (digit_char (48 + n) (omega arith) (omega arith)))

decimal_number : (f n : ℕ) → n ≤ most f → Number n (decimal_of f n)
unfolding decimal_of most
decimal_number zero n h = one_digit n (omega arith)
decimal_number (suc f) n h = go (ltb n 10) (leb→le (suc n) 10) (decimal_number f (n / 10) (omega arith))
  where
    go : (b : Bool) → (T b → n < 10) → Number (n / 10) (decimal_of f (n / 10)) → Number n (elim b [ true ↦ (48 + n) ∷ [] | false ↦ decimal_of f (n / 10) ++ (48 + n % 10) ∷ [] ])
    go true t r = one_digit n (t tt)
    go false t r =
        let e : 10 * (n / 10) + ((48 + n % 10) - 48) ≡ n = omega arith in
        rw e at (Number.more r (48 + n % 10) (digit_char (48 + n % 10) (omega arith) (omega arith)))

number_printed : (n : ℕ) → Number n (decimal n)
unfolding decimal
number_printed n = decimal_number n n (le_most n)

low_printed : (n : ℕ) → Low n (print_low n)
unfolding print_low
low_printed n = go (eqb n 0) (eqb→eq n 0)
  where
    go : (b : Bool) → (T b → n ≡ 0) → Low n (elim b [ true ↦ [] | false ↦ decimal n ])
    go true t = rw (t tt) missing
    go false t = given (number_printed n)

pub count_printed : (low : ℕ) (high : Option ℕ) → Count low high (print_count low high)
unfolding print_count
count_printed low none = from (low_printed low)
count_printed low (some high) = go (eqb low high) (eqb→eq low high)
  where
    go : (b : Bool) → (T b → low ≡ high) → Count low (some high) (elim b [ true ↦ decimal low | false ↦ print_low low ++ 46 ∷ decimal high ])
    go true t = let e : high ≡ low = sym (t tt) in rw e (exact (number_printed low))
    go false t = range (low_printed low) (number_printed high)

-- the bytes of a literal's value
unfoldable pub Printable : Bytes → Type 0
Printable [] = Unit {0}
Printable (c ∷ v) = T (between 32 126 c) × Printable v

plain_char : (c : ℕ) → T (between 32 126 c) → eqb c 34 ≡ false → literal_class c ≡ plain
unfolding literal_class
plain_char c t e = rw (e, passed (between 32 126 c) t)

pub quoted_printed : (v : Bytes) (a : Bytes) (u : Bytes) → Quoted a u → Printable v → Quoted (a ++ v) (u ++ double v)
unfolding double Printable
quoted_printed [] a u h p = rw (append-nil a, append-nil u) h
quoted_printed (c ∷ v) a u h (p, r) = go (eqb c 34) refl (eqb→eq c 34) (λ x y q. quoted_printed v x y q r)
  where
    go : (b : Bool) → eqb c 34 ≡ b → (T b → c ≡ 34) → ((x : Bytes) (y : Bytes) → Quoted x y → Quoted (x ++ v) (y ++ double v))
        → Quoted (a ++ c ∷ v) (u ++ (elim b [ true ↦ 34 ∷ 34 ∷ double v | false ↦ c ∷ double v ]))
    go true e t f = rw (t tt) (simp append_assoc at (f (a ++ 34 ∷ []) (u ++ 34 ∷ 34 ∷ []) (Quoted.quote h)))
    go false e t f = simp append_assoc at (f (a ++ c ∷ []) (u ++ c ∷ []) (byte h c (plain_char c p e)))

-- letters after letters
union : ℕ → Bytes → ℕ
union set [] = set
union set (c ∷ s) = union (bit_or set (bit c)) s

a_letter : CharClass → Bool
a_letter (count_char m) = false
a_letter (body_start letter) = true
a_letter (body_start quote_starts) = false
a_letter (body_start opening) = false
a_letter (branch_end e) = false

lettered : Bytes → Bool
lettered [] = true
lettered (c ∷ s) = a_letter (char_class c) && lettered s

letter_char : (x : CharClass) → T (a_letter x) → x ≡ body_start letter
unfolding a_letter
letter_char (count_char m) t = absurd t
letter_char (body_start letter) t = refl
letter_char (body_start quote_starts) t = absurd t
letter_char (body_start opening) t = absurd t
letter_char (branch_end e) t = absurd t

letters_on : (s : Bytes) (set : ℕ) (u : Bytes) → Letters set u → T (lettered s) → Letters (union set s) (u ++ s)
unfolding union lettered
letters_on [] set u h t = rw append-nil h
letters_on (c ∷ s) set u h t =
    let (a, b) = and_both (a_letter (char_class c)) (lettered s) t in
    simp append_assoc at (letters_on s (bit_or set (bit c)) (u ++ c ∷ []) (Letters.more h c (letter_char (char_class c) a)) b)

derived_as : Bytes → ℕ → Bool
derived_as [] set = eqb set 0
derived_as (c ∷ s) set = a_letter (char_class c) && (lettered s && eqb (union (bit c) s) set)

-- every set is the union of the letters that are printed for it
sets_fit : T (all 128 (λ set. derived_as (print_set all_codes set) set))
unfolding all derived_as lettered a_letter union char_class between all_codes bit_among bit print_set
sets_fit = tt

pub letters_printed : (set : ℕ) → 0 < set → set < set_limit → Letters set (print_set all_codes set)
letters_printed set h l = go (print_set all_codes set) (all_at 128 (λ x. derived_as (print_set all_codes x) x) sets_fit set l)
  where
    go : (w : Bytes) → T (derived_as w set) → Letters set w
    go [] t = let e : set ≡ 0 = eqb→eq set 0 (unfold derived_as in t) in absurd (omega arith)
    go (c ∷ s) t =
        let (a, b) = and_both (a_letter (char_class c)) (lettered s && eqb (union (bit c) s) set) (unfold derived_as in t) in
        let (x, y) = and_both (lettered s) (eqb (union (bit c) s) set) b in
        rw (eqb→eq (union (bit c) s) set y) at (letters_on s (bit c) (c ∷ []) (Letters.one c (letter_char (char_class c) a)) x)

bit_some : (ls : List Code) (b c : ℕ) → 0 < b → 0 < bit_among ls b c
unfolding bit_among
bit_some [] b c h = h
bit_some (l ∷ ls) b c h = cond_case (eqb l.letter c || eqb (l.letter + 32) c) (λ x. 0 < x) (λ t. h) (λ t. bit_some ls (b * 2) c (omega arith))

pub letters_some : {set : ℕ} {s : Bytes} → Letters set s → 0 < set
unfolding bit
letters_some (Letters.one c d) = bit_some all_codes 1 c (omega arith)
letters_some (Letters.more {set} h c d) = omega (arith, letters_some h, or_add_and set (bit c), and_le_r set (bit c))

printable_more : (v : Bytes) (c : ℕ) → Printable v → T (between 32 126 c) → Printable (v ++ c ∷ [])
unfolding Printable
printable_more [] c p t = (t, tt)
printable_more (x ∷ v) c (a, p) t = (a, printable_more v c p t)

pub quoted_printable : {v : Bytes} {s : Bytes} → Quoted v s → Printable v
unfolding Printable between
quoted_printable start = tt
quoted_printable (byte {v} h c e) = printable_more v c (quoted_printable h) (rw e at (literal_byte c))
quoted_printable (Quoted.quote {v} h) = printable_more v 34 (quoted_printable h) tt

-- a tree within the limits that derives some source derives its printed source
pub printed : {s : Sort} (d : ℕ) (x : Syntax s) (w : Bytes) → InLimits d x → Derives x w → Derives x (print x)
unfolding Derives Cut InLimits print
printed d (last a) w g h = printed d a w g h
printed d (then a p) w (g, k) (x, y, e, h, i) = (print a, print p, refl, printed d a x g h, printed d p y k i)
printed d (repeat low high b) w (g, k) (x, y, e, h, i) = (print_count low high, print b, refl, count_printed low high, printed d b y k i)
printed d (codes set) w g h = letters_printed set (letters_some h) g
printed d (literal value) w g (q, e, h) = (34 ∷ double value, refl, quoted_printed value [] (34 ∷ []) start (quoted_printable h))
printed d (group bs) w (g, k) (x, e, h) = (print bs, refl, printed (suc d) bs x k h)
printed d (only p) w g h = printed d p w g h
printed d (or p bs) w (g, k) (x, y, e, h, i) = (print p, print bs, refl, printed d p x g h, printed d bs y k i)
