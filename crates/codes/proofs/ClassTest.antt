-- The list `CLASSES` agrees with the ranges of the table `CODES`, so that it answers the class test. Assumes nothing.
use mathlib.Core.Path.{◌≡◌, refl, ◌∙◌, ap, ap₂}
use mathlib.Core.Bool.{Bool, true, false, not, ◌&&◌, ◌||◌, cond, and-false, or-true, or-false}
use mathlib.Core.List.{List, [], ◌∷◌}
use Prim.Native.Nat.{ℕ, zero, suc, ◌+◌, ◌*◌, ◌/◌, ◌%◌, ◌^◌, ◌<◌, min}
use native.Mathlib.Omega.{arith}
use lib.Arith.{digits_div, digits_mod}
use lib.Bits.{bit_and, and_step, and_mask}
use lib.Dec.{eqb, eqb→eq}
use borrow.Author.Tests.{lt-leb, ne_eqb}
use Rattle.pattern.specs.Bytes.{between}
use Rattle.pattern.specs.Codes.{Code, all_codes, in_ranges, in_codes, in_set}
use Rattle.pattern.proofs.Tests.{all, all_at}
use Rattle.codes.specs.Classes.{word_at, set_at, set_of}
use Rattle.codes.specs.Rows.{flatten, row_of, ranges_in, table_codes}

-- the list agrees with the table: one test over the whole list is the rule at each byte
pub by_ranges : (b : ℕ) → b < 256 → set_at b ≡ set_of table_codes b
unfolding all set_of table_codes ranges_in row_of flatten all_codes in_ranges between
by_ranges b h = eqb→eq _ _ (all_at 256 (λ b. eqb (set_at b) (set_of table_codes b)) tt b h)

-- no byte is from 1 to 0
none_between : (b : ℕ) → between 1 0 b ≡ false
unfolding between
none_between zero = refl
none_between (suc b) = rw (lt-leb (suc b) 0 (omega arith), and-false)

-- the table has the bytes of the definition
same_codes : (set b : ℕ) → in_codes table_codes set b ≡ in_codes all_codes set b
unfolding table_codes ranges_in row_of flatten all_codes in_codes in_ranges
same_codes set b = simp (none_between, or-false)

-- two sets have a code in common
abbrev meets : ℕ → ℕ → Bool
meets x y = not (eqb (bit_and x y) 0)

-- the lowest bit is common, or a higher one
low_or_high : (r : Bool) (y s : ℕ) → s < 2 → not (eqb (y * 2 + min (cond r 1 0) s) 0) ≡ (eqb s 1 && r || not (eqb y 0))
low_or_high r (suc y) s h = rw (ne_eqb (suc y * 2 + min (cond r 1 0) s) 0 (λ e. omega arith), ne_eqb (suc y) 0 (λ e. omega arith), or-true)
low_or_high true zero zero h = refl
low_or_high true zero (suc zero) h = refl
low_or_high false zero zero h = refl
low_or_high false zero (suc zero) h = refl
low_or_high r zero (suc (suc s)) h = absurd (omega arith)

one_bit : (r : Bool) → cond r 1 0 < 2
one_bit true = omega arith
one_bit false = omega arith

-- a byte is of a set just where the set has one of the byte's codes
in_common : (cs : List Code) (b set : ℕ) → meets (set_of cs b) set ≡ in_codes cs set b
unfolding set_of in_codes
in_common [] b set = refl
in_common (c ∷ cs) b set =
    let r = in_ranges c.ranges b in
    let y = set_of cs b in
    ap (λ x. not (eqb x 0)) (and_step (set_of (c ∷ cs) b) set ∙ ap₂ (λ x m. bit_and x (set / 2) * 2 + min m (set % 2)) (digits_div y (one_bit r)) (digits_mod y (one_bit r)))
    ∙ low_or_high r (bit_and y (set / 2)) (set % 2) (omega arith) ∙ ap (λ x. eqb (set % 2) 1 && r || x) (in_common cs b (set / 2))

-- the class test that reads the list
pub class_test : (b set : ℕ) {word : ℕ} → b < 256 → word ≡ word_at (b / 8) → meets (bit_and (word / 2 ^ (b % 8 * 8)) 255) set ≡ in_set set b
unfolding in_set
class_test b set {word} h e = ap (λ x. meets x set) (and_mask (word / 2 ^ (b % 8 * 8)) 8 ∙ ap (λ w. w / 2 ^ (b % 8 * 8) % 256) e ∙ by_ranges b h) ∙ in_common table_codes b set ∙ same_codes set b
