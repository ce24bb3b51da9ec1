-- The loop over the digits of a number. Assumes nothing.
use mathlib.Core.Path.{◌≡◌, refl, sym}
use mathlib.Core.Logic.{⊎_elim}
use Prim.Native.Nat.{ℕ, ◌+◌, ◌-◌, ◌*◌, ◌/◌, ◌≤◌, ◌<◌}
use native.Mathlib.Omega.{arith}
use native.Mathlib.Nat.{eq-or-lt_of_le}
use lib.Arith.{lt_of_le-ne}
use lib.ListN.{length, get_or}
use Rattle.std.specs.Prelude.{Some, None, Ok, Err}
use Rattle.pattern.specs.Numbers.{number_limit}
use Rattle.pattern.specs.Bytes.{Bytes}
use Rattle.pattern.specs.Grammar.{digit, count_char}
use Rattle.scanner.specs.declared.cursor.Cursor.{Cursor}
use Rattle.scanner.specs.Places.{ClassIs, Onward, DigitPost}
use Rattle.scanner.specs.Counts.{DigitsAre, DigitsPost}
use Rattle.scanner.proofs.Reaches.{number_begins, number_goes_on, exceeds}

pub digits_start : (s : Bytes) (i : ℕ) → i ≤ length s → DigitsAre s i 0 i
digits_start s i h = record { fits = omega arith; missing = λ e. refl; on = omega arith; within = h; goes_on = λ l. absurd (omega arith) }

-- one turn, with what was read at the place
module _ (s : Bytes) (i v at : ℕ) (g : DigitsAre s i v at) where
  module _ (d : ℕ) (next : Cursor) (read : DigitPost s at (Some (d, next))) where
    here : ClassIs s at (count_char digit) next × (d ≡ get_or s at 0 - 48) × (d ≤ 9)
    unfolding DigitPost
    here = read

    pub digit_past : Onward s at next
    digit_past = let (k, x, y) = here in record { on = omega (arith, k.past); within = omega (arith, k.past, k.within) }

    pub digit_small : d ≤ 9
    digit_small = here.2

    pub digits_more : v ≤ number_limit / 10 → DigitsAre s i (10 * v + d) next.at
    digits_more h =
        let (k, x, y) = here in
        record {
          fits = omega arith;
          missing = λ e. absurd (omega (arith, k.past, g.on));
          on = omega (arith, k.past, g.on);
          within = omega (arith, k.past, k.within);
          goes_on = λ l w. rw (k.past, x) (⊎_elim
              (λ (e : i ≡ at). let z : 10 * v + (get_or s at 0 - 48) ≡ get_or s at 0 - 48 = omega (arith, g.missing (sym e)) in rw (z, e) (number_begins s at k.within k.kind w))
              (λ l. number_goes_on s at k.within k.kind v i w (g.goes_on l w) (omega arith))
              (eq-or-lt_of_le g.on));
        }

    pub digits_over : (p : ℕ) → p ≡ at → number_limit / 10 < v → DigitsPost s i (Err p)
    unfolding DigitsPost
    digits_over p f h =
        let (k, x, y) = here in
        λ w. rw f (exceeds s at k.within k.kind v i w (g.goes_on (lt_of_le-ne g.on (λ e. omega (arith, g.missing (sym e)))) w) (omega arith))

  pub digits_end : (at' : Cursor) → at'.at ≡ at → DigitPost s at None → DigitsPost s i (Ok (v, at'))
  unfolding DigitsPost DigitPost
  digits_end at' f h = rw f (g, h)
