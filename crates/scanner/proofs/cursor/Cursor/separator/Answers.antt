-- `Cursor::separator` meets its contract. Assumes nothing.
use native.Mathlib.Omega.{arith}
use Rattle.scanner.specs.Places.{BytePost, SeparatorPost}
use Rattle.scanner.proofs.cursor.Cursor.separator.Goals as goal

pub returns-in_default : goal.returns-in_default
unfolding BytePost SeparatorPost
returns-in_default c = let e = c.in_default.ensures in λ l. absurd (omega arith)

pub returns-in-44 : goal.returns-in-44
unfolding BytePost SeparatorPost
returns-in-44 c = rw c.in-44.is at c.in-Some.ensures

pub returns-in-41 : goal.returns-in-41
unfolding BytePost SeparatorPost
returns-in-41 c = rw c.in-41.is at c.in-Some.ensures

pub returns-in_default-b : goal.returns-in_default-b
unfolding BytePost SeparatorPost
returns-in_default-b c = let b = c.in-Some.ensures in λ l. (λ e. omega (arith, b.value), λ e. omega (arith, b.value))
