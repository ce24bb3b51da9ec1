-- `Cursor::digit` meets its contract. Assumes nothing.
use mathlib.Core.Path.{sym, ap, ◌∙◌}
use Prim.Native.Nat.{◌-◌}
use native.Mathlib.Omega.{arith}
use Rattle.pattern.specs.Grammar.{digit, count_char}
use Rattle.scanner.specs.Places.{BytePost, DigitPost}
use Rattle.scanner.proofs.Places.{end_not, of_class, not_class, digit_is, digit_not}
use Rattle.scanner.proofs.cursor.Cursor.digit.Goals as goal

pub returns-in_err-b : goal.returns-in_err-b
unfolding BytePost DigitPost
returns-in_err-b c = rw c.from_residual.ensures (end_not _ _ c.in_err-b.ensures (count_char digit))

pub returns-then-is_ascii_digit : goal.returns-then-is_ascii_digit
unfolding BytePost DigitPost
returns-then-is_ascii_digit c =
    let b = c.in_ok-b.ensures in
    let e = c.if-is_ascii_digit.ensures in
    (of_class _ _ _ _ b (count_char digit) (digit_is _ (omega arith) (sym e.value)), c.from.ensures ∙ ap (λ x. x - 48) b.value, omega (arith, c.from.ensures, e.cases))

pub returns-else-is_ascii_digit : goal.returns-else-is_ascii_digit
unfolding BytePost DigitPost
returns-else-is_ascii_digit c =
    not_class _ _ _ _ c.in_ok-b.ensures (count_char digit) (digit_not _ (omega arith) (sym c.if-is_ascii_digit.ensures.value))
