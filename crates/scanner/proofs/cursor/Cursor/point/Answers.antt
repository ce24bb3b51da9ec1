-- `Cursor::point` meets its contract. Assumes nothing.
use Rattle.pattern.specs.Grammar.{point, count_char}
use Rattle.scanner.specs.Places.{BytePost, PointPost}
use Rattle.scanner.proofs.Places.{end_not, point_by}
use Rattle.scanner.proofs.cursor.Cursor.point.Goals as goal

pub returns-in_err-b : goal.returns-in_err-b
unfolding BytePost PointPost
returns-in_err-b c = rw c.from_residual.ensures (end_not _ _ c.in_err-b.ensures (count_char point))

pub returns : goal.returns
unfolding BytePost PointPost
returns c = rw c.then_some.ensures (point_by _ _ _ _ c.in_ok-b.ensures)
