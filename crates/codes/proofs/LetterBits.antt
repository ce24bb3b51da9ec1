-- The bit of a letter, found among the codes from the one with bit k on. Assumes nothing.
use mathlib.Core.Path.{◌≡◌, refl, sym, ◌∙◌, ap}
use mathlib.Core.Bool.{Bool, ◌||◌, cond}
use mathlib.Core.List.{List, [], ◌∷◌, map}
use Prim.Native.Nat.{ℕ, zero, suc, ◌+◌, ◌*◌, ◌<◌, ◌≤◌}
use native.Mathlib.Omega.{arith}
use lib.Dec.{eqb, leb, leb→le}
use lib.ListN.{length, get_or, drop, get_or-map}
use Rattle.std.specs.Char.{eq_ignore_ascii_case}
use Rattle.std.specs.Int.{IsInRange}
use Rattle.std.proofs.lemmas.Bool.Decides.{nat_tests}
use Rattle.pattern.specs.Codes.{Code, all_codes, bit_among}
use Rattle.pattern.proofs.Tests.{all, all_at}
use Rattle.codes.specs.declared.Code.{Code as Row}
use Rattle.codes.specs.Rows.{letter_at, row_of, row_at}

-- the letter of a row
pub row_letter : (k : ℕ) → (row_at k).letter ≡ letter_at k
unfolding letter_at row_of row_at all_codes
row_letter k = sym (get_or-map (λ (r : Row). r.letter) (map row_of all_codes) k _)

bit_step : (ls : List Code) (k b c : ℕ) → k < length ls → let l : ℕ = get_or (map (λ (x : Code). x.letter) ls) k 0 in
    bit_among (drop k ls) b c ≡ cond (eqb l c || eqb (l + 32) c) b (bit_among (drop (suc k) ls) (b * 2) c)
unfolding bit_among
bit_step [] k b c h = absurd (omega arith)
bit_step (l ∷ ls) zero b c h = refl
bit_step (l ∷ ls) (suc k) b c h = bit_step ls k b c (omega arith)

-- a capital letter in either case
either_case : (l c : ℕ) → 65 ≤ l → l ≤ 90 → eq_ignore_ascii_case l c ≡ (eqb l c || eqb (l + 32) c)
either_case l c h g = grind (arith, nat_tests)

-- the letter of each code is a capital one
capital : (k : ℕ) → k < 7 → IsInRange 65 90 (letter_at k)
unfolding all letter_at all_codes
capital k h = (leb→le _ _ (all_at 7 (λ k. leb 65 (letter_at k)) tt k h), leb→le _ _ (all_at 7 (λ k. leb (letter_at k) 90) tt k h))

-- the letter is that of the code with bit k, or it is of a later one
pub bit_here : (k b c : ℕ) {here : Bool} → k < 7 → here ≡ eq_ignore_ascii_case (row_at k).letter c →
    bit_among (drop k all_codes) b c ≡ cond here b (bit_among (drop (suc k) all_codes) (b * 2) c)
unfolding letter_at
bit_here k b c h e =
    let l = capital k h in
    bit_step all_codes k b c (unfold all_codes in h)
    ∙ ap (λ t. cond t b (bit_among (drop (suc k) all_codes) (b * 2) c))
    (sym (e ∙ ap (λ x. eq_ignore_ascii_case x c) (row_letter k) ∙ either_case (letter_at k) c l.0 l.1))

-- after the last one
pub bit_end : (k b c : ℕ) → k ≡ 7 → bit_among (drop k all_codes) b c ≡ b
unfolding bit_among all_codes
bit_end k b c e = rw e
