-- What holds of the line tool's buffers between reads and writes. To be believed.
use Rattle.std.specs.Prelude.{◌≡◌, ℕ, ◌≤◌, Option, Some, None, length, drop}
use Rattle.pattern.specs.Bytes.{Bytes}
use Rattle.replies.specs.Sizes.{held_limit, scratch_size, out_room}
use Rattle.replies.specs.Stores.{Zero}
use Rattle.lines.specs.Chunk.{Buffers}
use Rattle.lines.specs.Session.{State, PendingIn}
use Rattle.lines.specs.declared.chunk.Rest.{Rest}
use Rattle.lines.specs.declared.session.Next.{Next}
use Rattle.lines.specs.declared.session.Next.TheVariants.{Write, Read, Stop}

-- what is held and pending lies in the buffers
unfoldable pub NextIn : Next → (input : Bytes) → Buffers → Type 0
NextIn Stop input b = Unit {0}
NextIn (Read held) input b = held ≤ held_limit
NextIn (Write p) input b = PendingIn p input b

abbrev pub held_in : Option Rest → ℕ
held_in None = 0
held_in (Some r) = r.held

abbrev pub held_of : Next → ℕ
held_of Stop = 0
held_of (Read held) = held
held_of (Write p) = held_in p.rest

abbrev pub end_of : Next → ℕ
end_of Stop = 0
end_of (Read held) = 0
end_of (Write p) = p.end

-- "patient data stays in no buffer": line, scratch and output are zero but for what is held of a line and what is to be written; so is the input where it stops
pub record Tidy (s : State) : Type 0 where
  pub line_zero : Zero (drop (held_of s.next) s.buffers.line)
  pub scratch_zero : Zero s.buffers.scratch
  pub out_zero : Zero (drop (end_of s.next) s.buffers.out)
  pub input_zero : s.next ≡ Stop → Zero s.input

-- the buffers' sizes
pub record Sized (s : State) : Type 0 where
  pub input_some : 1 ≤ length s.input
  pub line_size : length s.buffers.line ≡ held_limit
  pub scratch_full : length s.buffers.scratch ≡ scratch_size
  pub out_size : out_room ≤ length s.buffers.out

pub record Sound (s : State) : Type 0 where
  pub ready : NextIn s.next s.input s.buffers
  pub tidy : Tidy s
  pub sized : Sized s
