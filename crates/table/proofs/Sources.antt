-- How counts and literals are printed, case by case. Assumes nothing.
use mathlib.Core.Path.{◌≡◌, sym, ap, ◌∙◌}
use mathlib.Core.List.{[], ◌∷◌, ◌++◌, append_assoc}
use mathlib.Core.Option.{some}
use Prim.Native.Nat.{ℕ, suc, ◌≤◌, ◌<◌}
use lib.ListN.{length, get_or, drop, drop_of_length-le}
use lib.Seq.{drop-cons}
use borrow.Author.Tests.{eq-eqb, ne_eqb}
use Rattle.pattern.specs.Numbers.{point_byte, quote_byte, open_high}
use Rattle.pattern.specs.Bytes.{Bytes}
use Rattle.pattern.specs.Print.{decimal, print_low, print_count, double}
use Rattle.pattern.specs.Decode.{high_of}
use Rattle.pattern.proofs.Tests.{if_true, if_false}

pub low_zero : (n : ℕ) → n ≡ 0 → print_low n ≡ []
unfolding print_low
low_zero n e = if_true _ _ _ (eq-eqb n 0 e)

pub low_other : (n : ℕ) → (n ≡ 0 → ⊥) → print_low n ≡ decimal n
unfolding print_low
low_other n e = if_false _ _ _ (ne_eqb n 0 e)

-- ---- a count whose high number is as a record has it

module _ (low high : ℕ) where
  pub count_open : high ≡ open_high → print_count low (high_of high) ≡ print_low low ++ point_byte ∷ []
  unfolding print_count high_of
  count_open e = ap (print_count low) (if_true _ _ _ (eq-eqb high open_high e))

  module _ (n : high ≡ open_high → ⊥) where
    pub high_given : high_of high ≡ some high
    unfolding high_of
    high_given = if_false _ _ _ (ne_eqb high open_high n)

    pub count_exact : low ≡ high → print_count low (high_of high) ≡ decimal low
    unfolding print_count
    count_exact e = ap (print_count low) high_given ∙ if_true _ _ _ (eq-eqb low high e)

    pub count_two : (low ≡ high → ⊥) → print_count low (high_of high) ≡ (print_low low ++ point_byte ∷ []) ++ decimal high
    unfolding print_count
    count_two e =
        ap (print_count low) high_given ∙ if_false _ _ _ (ne_eqb low high e) ∙ sym (append_assoc (print_low low) (point_byte ∷ []) (decimal high))

-- ---- a literal from its byte i on

module _ (v : Bytes) (i : ℕ) where
  pub quote_here : i < length v → get_or v i 0 ≡ quote_byte → double (drop i v) ≡ get_or v i 0 ∷ get_or v i 0 ∷ double (drop (suc i) v)
  unfolding double
  quote_here h e = ap double (drop-cons v i 0 h) ∙ if_true _ _ _ (eq-eqb _ _ e) ∙ ap (λ x. x ∷ x ∷ double (drop (suc i) v)) (sym e)

  pub plain_here : i < length v → (get_or v i 0 ≡ quote_byte → ⊥) → double (drop i v) ≡ get_or v i 0 ∷ double (drop (suc i) v)
  unfolding double
  plain_here h e = ap double (drop-cons v i 0 h) ∙ if_false _ _ _ (ne_eqb _ _ e)

  pub double_end : length v ≤ i → double (drop i v) ≡ []
  unfolding double
  double_end h = ap double (drop_of_length-le v h)
