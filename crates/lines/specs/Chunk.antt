-- What answering the lines of a chunk promises. To be believed.
use Rattle.std.specs.Prelude.{◌≡◌, ℕ, ◌+◌, ◌≤◌, ◌<◌, length, take}
use Rattle.std.proofs.Math.Seq.{slice}
use Rattle.pattern.specs.Bytes.{Bytes, overwrite}
use Rattle.replies.specs.Sizes.{held_limit, out_room}
use Rattle.replies.specs.Stores.{Replied}
use Rattle.lines.specs.Output.{answers, LinesIn, lines_in, wiped}
use Rattle.lines.specs.declared.chunk.Rest.{Rest}

-- the bytes that answering works in: a line's, scratch and the output
pub record Buffers : Type 0 where
  pub line : Bytes
  pub scratch : Bytes
  pub out : Bytes

abbrev pub lend : (line scratch out : Bytes) → Buffers
lend line scratch out = record { line = line; scratch = scratch; out = out }

-- the line's buffer has its size, so many of its bytes are held, and the output has room for a reply
pub record Lent (held : ℕ) (b : Buffers) : Type 0 where
  pub line_size : length b.line ≡ held_limit
  pub held_fits : held ≤ held_limit
  pub out_size : out_room ≤ length b.out

-- lines are answered: the replies to those that ended stand at the output's start, their bytes are zero, and the held one stands there
pub record Done (l : LinesIn) (b b' : Buffers) (end n : ℕ) : Type 0 where
  pub replied : Replied (length b.out) (answers l.ended b.scratch) b.out 0 b'.scratch b'.out end
  pub line : b'.line ≡ overwrite l.held (wiped l.ended b.line)
  pub held : n ≡ length l.held
  pub held_fits : n ≤ held_limit

-- the lines of a chunk from one place to another are answered; if the chunk has more, no line is held and the rest of the output may be short of a reply
pub record AnswerChunkPost (chunk : Bytes) (from held : ℕ) (b b' : Buffers) (end : ℕ) (r : Rest) : Type 0 where
  pub done : Done (lines_in (take held b.line) (slice from r.from chunk)) b b' end r.held
  pub forward : from ≤ r.from
  pub from_fits : r.from ≤ r.to
  pub to : r.to ≡ length chunk
  pub whole : r.from < r.to → r.held ≡ 0
  pub fills : r.from < r.to → length b.out < end + out_room
