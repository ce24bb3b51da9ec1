-- `cursor::ends_at` meets its contract. Assumes nothing.
use mathlib.Core.Path.{sym, ap, ◌∙◌}
use native.Mathlib.Omega.{arith}
use Rattle.scanner.specs.Places.{BytePost, ends_class}
use Rattle.scanner.proofs.Places.{digit_is, flag_is, flag_end, flag_by}
use Rattle.scanner.proofs.cursor.ends_at.Goals as goal

pub returns-in_default : goal.returns-in_default
unfolding BytePost
returns-in_default c = sym (flag_end _ _ c.in_default.ensures)

pub returns-then-not-is_ascii_digit : goal.returns-then-not-is_ascii_digit
unfolding BytePost
returns-then-not-is_ascii_digit c =
    let b = c.in-Some.ensures in
    sym (flag_is _ _ _ _ b ∙ flag_by _ (omega (arith, b.value, c.type_inv.s c.args.at.at)) (sym c.if-not-is_ascii_digit.ensures.value))

pub returns-else-not-is_ascii_digit : goal.returns-else-not-is_ascii_digit
unfolding BytePost
returns-else-not-is_ascii_digit c =
    let b = c.in-Some.ensures in
    let e = c.if-not-is_ascii_digit.false in
    rw e (sym (flag_is _ _ _ _ b ∙ ap ends_class (digit_is _ (omega (arith, b.value, c.type_inv.s c.args.at.at)) (sym c.if-not-is_ascii_digit.ensures.value))))
