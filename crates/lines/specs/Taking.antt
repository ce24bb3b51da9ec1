-- What taking a line out of a chunk promises. Private: a model for contracts inside the library.
use Rattle.std.specs.Prelude.{◌≡◌, Bool, true, false, [], ◌∷◌, ℕ, ◌≤◌, ◌<◌, length, take, drop}
use Rattle.std.proofs.Math.Seq.{slice}
use Rattle.pattern.specs.Bytes.{Bytes}
use Rattle.replies.specs.Sizes.{held_limit}
use Rattle.lines.specs.Output.{LinesIn, lines_in}
use Rattle.lines.specs.declared.line.Taken.{Taken}

-- a line that ended, and one that is held
unfoldable pub one_line : (ended : Bool) → Bytes → LinesIn
one_line true line = record { ended = line ∷ []; held = [] }
one_line false line = record { ended = []; held = line }

-- the bytes of a chunk up to a place give these bytes of a line, in a buffer before and after; its bytes past those held stay
pub record TakeLinePost (chunk : Bytes) (from : ℕ) (line : Bytes) (held : ℕ) (after : Bytes) (r : Taken) : Type 0 where
  pub equal : lines_in (take held line) (slice from r.next chunk) ≡ one_line r.ended (take r.held after)
  pub stays : drop r.held after ≡ drop r.held line
  pub size : length after ≡ length line
  pub longer : held ≤ r.held
  pub held_fits : r.held ≤ held_limit
  pub next_fits : r.next ≤ length chunk
  pub forward : from ≤ r.next
  pub moves : from < length chunk → from < r.next
  pub stops : r.ended ≡ false → length chunk ≤ r.next
