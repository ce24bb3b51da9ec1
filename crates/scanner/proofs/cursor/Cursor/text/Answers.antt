-- `Cursor::text` meets its contract. Assumes nothing.
use mathlib.Core.Path.{sym, ◌∙◌}
use native.Mathlib.Omega.{arith}
use Rattle.pattern.specs.Grammar.{quote, body_start}
use Rattle.scanner.specs.Places.{BytePost}
use Rattle.scanner.proofs.Places.{end_not, not_only}
use Rattle.scanner.proofs.Texts.{text_plain, text_barred, text_ends, text_doubled, text_short}
use Rattle.scanner.proofs.cursor.Cursor.text.Goals as goal

pub returns-in_default : goal.returns-in_default
unfolding BytePost
returns-in_default c = text_short _ _ c.in_default.ensures

pub returns-then-is_plain : goal.returns-then-is_plain
unfolding BytePost
returns-then-is_plain c = text_plain _ _ _ _ c.in-Some.ensures (sym c.is_plain.ensures ∙ c.if-is_plain.true)

pub returns-then-b-ne34 : goal.returns-then-b-ne34
unfolding BytePost
returns-then-b-ne34 c = text_barred _ _ _ _ c.in-Some.ensures (sym c.is_plain.ensures ∙ c.if-is_plain.false) c.if-b-ne34.true

pub returns-in-Some-eq34-default : goal.returns-in-Some-eq34-default
unfolding BytePost
returns-in-Some-eq34-default c =
    text_doubled _ _ _ _ c.in-Some.ensures c.if-b-ne34.false _ _ c.in-Some-eq34-default.ensures (sym c.in-Some-eq34-default.field-0-0-is ∙ c.in-Some-eq34-default.field-0-0-test)

pub returns-in_default-byte : goal.returns-in_default-byte
unfolding BytePost
returns-in_default-byte c =
    text_ends _ _ _ _ c.in-Some.ensures c.if-b-ne34.false (not_only _ _ _ _ c.in_default-byte.ensures _ (body_start quote) (λ h. h) (λ e. omega arith))

pub returns-in_default-byte-2 : goal.returns-in_default-byte-2
unfolding BytePost
returns-in_default-byte-2 c =
    text_ends _ _ _ _ c.in-Some.ensures c.if-b-ne34.false (end_not _ _ (rw c.in_default-byte.is at c.byte-2.ensures) (body_start quote))
