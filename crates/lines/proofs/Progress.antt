-- The line tool moves on: where some of a chunk is left, more of it is answered before the next write. Assumes nothing.
use mathlib.Core.Path.{◌≡◌, ap}
use mathlib.Core.Logic.{⊎_elim}
use Prim.Native.Nat.{ℕ, ◌≤◌, ◌<◌}
use native.Mathlib.Omega.{arith}
use lib.ListN.{length, take}
use lib.Seq.{slice}
use Rattle.pattern.specs.Bytes.{Bytes}
use Rattle.pattern.proofs.Tests.{le_or_lt}
use Rattle.replies.specs.Sizes.{out_room}
use Rattle.lines.specs.Output.{answers, LinesIn, lines_in}
use Rattle.lines.specs.Taking.{one_line}
use Rattle.lines.specs.Chunk.{Buffers, AnswerChunkPost}
use Rattle.lines.specs.declared.chunk.Rest.{Rest}
use Rattle.lines.proofs.Lines.{taken_nothing}

-- where nothing is taken nothing is written
nothing_written : (held chunk scratch : Bytes) (from : ℕ) → length (answers (lines_in held (slice from from chunk)).ended scratch).text ≡ 0
unfolding answers one_line
nothing_written held chunk scratch from = ap (λ (l : LinesIn). length (answers l.ended scratch).text) (taken_nothing held chunk from)

-- and then there is room for a reply, so more would be taken
pub answers_move : {chunk : Bytes} {from held : ℕ} {b b' : Buffers} {end : ℕ} {r : Rest} → AnswerChunkPost chunk from held b b' end r → out_room ≤ length b.out → from < length chunk → from < r.from
answers_move {chunk} {from} {held} {b} {b'} {end} {r} a o h = ⊎_elim stands (λ l. l) (le_or_lt r.from from)
  where
    stands : r.from ≤ from → from < r.from
    stands l =
        let e : r.from ≡ from = omega (arith, a.forward) in
        let n : length (answers (lines_in (take held b.line) (slice from r.from chunk)).ended b.scratch).text ≡ 0 = rw e (nothing_written (take held b.line) chunk b.scratch from) in
        absurd (omega (arith, a.fills (omega (arith, a.to)), a.done.replied.within.stores.next))
