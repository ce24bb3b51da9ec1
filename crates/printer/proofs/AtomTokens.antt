-- The parts of an atom in the shortest source, cut as the code writes them. Assumes nothing.
use mathlib.Core.Path.{◌≡◌, refl, ap, ◌∙◌}
use mathlib.Core.Bool.{Bool, true, false}
use mathlib.Core.List.{List, [], ◌∷◌, ◌++◌, map}
use Prim.Native.Nat.{ℕ, zero, suc, ◌+◌, ◌/◌, ◌%◌, ◌<◌, ◌≤◌}
use native.Mathlib.Numerals.{add-one}
use native.Mathlib.Omega.{arith}
use lib.Dec.{eqb}
use lib.ListN.{length, get_or, drop, length-append}
use borrow.Author.Tests.{eq-eqb, ne_eqb, eqb-true, eqb-false}
use Rattle.pattern.specs.Numbers.{number_limit, point_byte, open_high}
use Rattle.pattern.specs.Codes.{Code, all_codes}
use Rattle.codes.specs.Rows.{letter_at}
use Rattle.pattern.specs.Print.{decimal, print_low, print_count, print_set}
use Rattle.pattern.specs.Decode.{high_of}
use Rattle.pattern.proofs.Tests.{if_true, if_false}
use Rattle.table.proofs.Sources.{count_open, count_exact, count_two}

-- ---- counts

module _ (low high : ℕ) where
  -- a low number that fits is no open end
  pub exact_given : low ≤ number_limit → low ≡ high → print_count low (high_of high) ≡ decimal low
  exact_given k e = count_exact low high (λ z. omega arith) e

  -- two numbers begin with the low one and the point
  pub count_begins : (low ≡ high → ⊥) → length (print_low low) + 1 ≤ length (print_count low (high_of high))
  count_begins n = go (eqb high open_high) refl
    where
      go : (b : Bool) → eqb high open_high ≡ b → length (print_low low) + 1 ≤ length (print_count low (high_of high))
      go true e = omega (arith, ap length (count_open low high (eqb-true _ _ e)), length-append (print_low low) (point_byte ∷ []))
      go false e = omega (arith, ap length (count_two low high (eqb-false _ _ e) n), length-append (print_low low ++ point_byte ∷ []) (decimal high), length-append (print_low low) (point_byte ∷ []))

-- ---- letters

-- the letters of a set from code k on
set_step : (cs : List Code) (k set : ℕ) → k < length cs
    → print_set (drop k cs) set ≡ elim (eqb (set % 2) 1) [ true ↦ get_or (map (λ (c : Code). c.letter) cs) k 0 ∷ print_set (drop (suc k) cs) (set / 2) | false ↦ print_set (drop (suc k) cs) (set / 2) ]
unfolding print_set
set_step [] k set h = absurd (omega arith)
set_step (c ∷ cs) zero set h = refl
set_step (c ∷ cs) (suc k) set h = set_step cs k set (omega arith)

module _ (k left : ℕ) (h : k < 7) where
  within : k < length all_codes
  unfolding all_codes
  within = h

  pub letter_here : {b : ℕ} → b ≡ letter_at k → left % 2 ≡ 1 → print_set (drop k all_codes) left ≡ b ∷ print_set (drop (k + 1) all_codes) (left / 2)
  unfolding letter_at
  letter_here f e = rw (add-one, f) (set_step all_codes k left within ∙ if_true _ _ _ (eq-eqb _ _ e))

  pub letter_not : (left % 2 ≡ 1 → ⊥) → print_set (drop k all_codes) left ≡ print_set (drop (k + 1) all_codes) (left / 2)
  letter_not e = rw add-one (set_step all_codes k left within ∙ if_false _ _ _ (ne_eqb _ _ e))

pub letters_end : (k left : ℕ) → k ≡ 7 → print_set (drop k all_codes) left ≡ []
unfolding print_set all_codes
letters_end k left e = rw e
