-- Several letters mean the union: a byte is of the set of some letters just when it is of the code of one of them. Assumes nothing.
use mathlib.Core.Path.{◌≡◌, refl, sym, ap, ap₂, ◌∙◌}
use mathlib.Core.Bool.{Bool, true, false, ◌&&◌, ◌||◌, or_assoc, or-false}
use mathlib.Core.List.{List, [], ◌∷◌, ◌++◌}
use Prim.Native.Nat.{ℕ, zero, suc, ◌/◌, ◌%◌, ◌<◌}
use native.Mathlib.Omega.{arith}
use lib.Bits.{bit_or, or_mod, or_shr}
use lib.Dec.{eqb}
use Rattle.pattern.specs.Bytes.{Bytes}
use Rattle.pattern.specs.Codes.{Code, all_codes, in_ranges, in_codes, in_set, bit, in_letters}
use Rattle.pattern.specs.Grammar.{Letters}

-- the lowest bit
odd_or : (s t : ℕ) → eqb (bit_or s t % 2) 1 ≡ (eqb (s % 2) 1 || eqb (t % 2) 1)
odd_or s t = ap (λ x. eqb x 1) (or_mod s t 1) ∙ go (s % 2) (t % 2) (omega arith) (omega arith)
  where
    go : (x y : ℕ) → x < 2 → y < 2 → eqb (bit_or x y) 1 ≡ (eqb x 1 || eqb y 1)
    go zero zero h k = refl
    go zero (suc zero) h k = refl
    go (suc zero) zero h k = refl
    go (suc zero) (suc zero) h k = refl
    go (suc (suc x)) y h k = absurd (omega arith)
    go zero (suc (suc y)) h k = absurd (omega arith)
    go (suc zero) (suc (suc y)) h k = absurd (omega arith)

mixed : (x y r p q : Bool) → ((x || y) && r || (p || q)) ≡ ((x && r || p) || (y && r || q))
mixed true y true p q = refl
mixed true true false true q = refl
mixed true true false false q = refl
mixed true false false true q = refl
mixed true false false false q = refl
mixed false true true true q = refl
mixed false true true false q = refl
mixed false true false true q = refl
mixed false true false false q = refl
mixed false false r true q = refl
mixed false false r false q = refl

in_codes_or : (cs : List Code) (s t b : ℕ) → in_codes cs (bit_or s t) b ≡ (in_codes cs s b || in_codes cs t b)
unfolding in_codes
in_codes_or [] s t b = refl
in_codes_or (c ∷ cs) s t b =
    ap₂ (λ x y. x && in_ranges c.ranges b || y) (odd_or s t) (ap (λ x. in_codes cs x b) (or_shr s t 1) ∙ in_codes_or cs (s / 2) (t / 2) b)
    ∙ mixed (eqb (s % 2) 1) (eqb (t % 2) 1) (in_ranges c.ranges b) (in_codes cs (s / 2) b) (in_codes cs (t / 2) b)

-- a byte of a union is a byte of either
pub union : (s t b : ℕ) → in_set (bit_or s t) b ≡ (in_set s b || in_set t b)
unfolding in_set
union s t b = in_codes_or all_codes s t b

in_letters_more : (s : Bytes) (c b : ℕ) → in_letters (s ++ c ∷ []) b ≡ (in_letters s b || in_set (bit c) b)
unfolding in_letters
in_letters_more [] c b = or-false (in_set (bit c) b)
in_letters_more (x ∷ s) c b = ap (λ y. in_set (bit x) b || y) (in_letters_more s c b) ∙ sym (or_assoc (in_set (bit x) b) (in_letters s b) (in_set (bit c) b))

-- the set of some letters
pub letters_union : {set : ℕ} {s : Bytes} → Letters set s → (b : ℕ) → in_set set b ≡ in_letters s b
unfolding in_letters
letters_union (Letters.one c k) b = sym (or-false (in_set (bit c) b))
letters_union (Letters.more {set} {s} l c k) b =
    union set (bit c) b ∙ ap (λ x. x || in_set (bit c) b) (letters_union l b) ∙ sym (in_letters_more s c b)
