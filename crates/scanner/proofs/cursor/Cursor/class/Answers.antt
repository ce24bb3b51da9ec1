-- `Cursor::class` meets its contract. Assumes nothing.
use mathlib.Core.Path.{sym, ap}
use native.Mathlib.Omega.{arith}
use Rattle.pattern.specs.Bytes.{between}
use Rattle.pattern.specs.Grammar.{letter, quote, opening, body_start, char_class}
use Rattle.scanner.specs.Places.{BytePost, ClassPost}
use Rattle.scanner.proofs.Places.{end_not, of_class, letter_here, no_letter, not_only}
use Rattle.scanner.proofs.cursor.Cursor.class.Goals as goal

pub returns-in_default : goal.returns-in_default
unfolding BytePost ClassPost
returns-in_default c = let e = end_not _ _ c.in_default.ensures in (e (body_start letter), e (body_start quote), e (body_start opening))

pub returns-in-34 : goal.returns-in-34
unfolding BytePost ClassPost char_class between
returns-in-34 c = of_class _ _ _ _ c.in-Some.ensures (body_start quote) (ap char_class c.in-34.is)

pub returns-in-40 : goal.returns-in-40
unfolding BytePost ClassPost char_class between
returns-in-40 c = of_class _ _ _ _ c.in-Some.ensures (body_start opening) (ap char_class c.in-40.is)

pub returns-then-is_ascii_alphabetic : goal.returns-then-is_ascii_alphabetic
unfolding BytePost ClassPost
returns-then-is_ascii_alphabetic c =
    let b = c.in-Some.ensures in
    letter_here _ _ _ _ b (omega (arith, b.value, c.type_inv.s c.args.self.at)) (sym c.if-is_ascii_alphabetic.ensures.value)

pub returns-in_default-2 : goal.returns-in_default-2
unfolding BytePost ClassPost
returns-in_default-2 c =
    let b = c.in-Some.ensures in
    (no_letter _ _ _ _ b (omega (arith, b.value, c.type_inv.s c.args.self.at)) (sym c.if-is_ascii_alphabetic.ensures.value), not_only _ _ _ _ b _ (body_start quote) (λ h. h) (λ e. omega arith), not_only _ _ _ _ b _ (body_start opening) (λ h. h) (λ e. omega arith))
