-- What the line tool does at first and after each read and each write, case by case, with every byte of its buffers then. To be believed, all but `StartPost`.
use Rattle.std.specs.Prelude.{◌≡◌, Bool, true, false, if◌then◌else◌, ℕ, zero, suc, min, ◌≤◌, ltb, Option, Some, None, IfSome, length, take}
use Rattle.pattern.specs.Bytes.{Bytes, overwrite, zeroed}
use Rattle.replies.specs.Reply.{Reply}
use Rattle.lines.specs.Output.{answers, last_line, first_line}
use Rattle.lines.specs.Chunk.{Buffers, lend, Lent, AnswerChunkPost}
use Rattle.lines.specs.declared.chunk.Pending.{Pending}
use Rattle.lines.specs.declared.chunk.Rest.{Rest}
use Rattle.lines.specs.declared.session.Input.{Input}
use Rattle.lines.specs.declared.session.Input.TheVariants.{Failed, Ended, Chunk}
use Rattle.lines.specs.declared.session.Next.{Next}
use Rattle.lines.specs.declared.session.Next.TheVariants.{Write, Read, Stop}

-- what a read's answer means: it failed, the input has ended, or so many bytes were read
unfoldable pub reading_of : (got : Option ℕ) (room : ℕ) → Input
reading_of None room = Failed
reading_of (Some zero) room = Ended
reading_of (Some (suc k)) room = Chunk (min (suc k) room)

-- what is to be done next, and the bytes then: the input's and those that answering works in
pub record State : Type 0 where
  pub next : Next
  pub input : Bytes
  pub buffers : Buffers

abbrev pub state_of : Next → (input line scratch out : Bytes) → State
state_of next input line scratch out = record { next = next; input = input; buffers = lend line scratch out }

-- at first the line that the output begins with is to be written, and then the input is read
abbrev first_pending : Pending
first_pending = record { end = length first_line; rest = Some (record { from = 0; to = 0; held = 0 }) }

unfoldable pub started : (input : Bytes) → Buffers → State
started input b = record { next = Write first_pending; input = input; buffers = record { line = b.line; scratch = b.scratch; out = overwrite first_line b.out } }

pub record StartPost (out out' : Bytes) (r : Next) : Type 0 where
  pub next : r ≡ Write first_pending
  pub bytes : out' ≡ overwrite first_line out

-- zeros over all of them
abbrev blanked : Bytes → Bytes
blanked s = zeroed (length s) s

-- "patient data stays in no buffer": it ends, and every byte is zero
unfoldable pub halted : (input : Bytes) → Buffers → State
halted input b = record { next = Stop; input = blanked input; buffers = record { line = blanked b.line; scratch = blanked b.scratch; out = blanked b.out } }

-- a chunk is answered from a place on; the replies are to be written, and then the rest is answered
pub record Continues (chunk : Bytes) (from held : ℕ) (input : Bytes) (b : Buffers) (s : State) : Type 0 where
  pub end : ℕ
  pub rest : Rest
  pub after : Buffers
  pub answered : AnswerChunkPost chunk from held b after end rest
  pub state : s ≡ record { next = Write (record { end = end; rest = Some rest }); input = input; buffers = after }

-- ---- after a read

-- the input has ended, and what is held is the last line: its reply is to be written, and then nothing
unfoldable pub finished : (last : Reply) (held : ℕ) (input : Bytes) → Buffers → State
finished last held input b =
    record {
      next = Write (record { end = length last.text; rest = None });
      input = input;
      buffers = record { line = zeroed held b.line; scratch = last.scratch; out = overwrite last.text b.out };
    }

-- failed: nothing is answered of what is held; ended: it is the last line; else the chunk is answered
unfoldable pub AfterRead : Input → (held : ℕ) (input : Bytes) → Buffers → State → Type 0
AfterRead Failed held input b s = s ≡ halted input b
AfterRead Ended held input b s = s ≡ finished (answers (last_line (take held b.line)) b.scratch) held input b
AfterRead (Chunk n) held input b s = Continues (take n input) 0 held input b s

-- ---- after a write

-- what is still to be answered lies in the buffers
pub record RestIn (r : Rest) (input : Bytes) (b : Buffers) : Type 0 where
  pub from_fits : r.from ≤ r.to
  pub to_fits : r.to ≤ length input
  pub lent : Lent r.held b

-- what is pending lies in the buffers
pub record PendingIn (p : Pending) (input : Bytes) (b : Buffers) : Type 0 where
  pub end_fits : p.end ≤ length b.out
  pub rest_fits : IfSome p.rest (λ r. RestIn r input b)

-- what was written is zero
unfoldable pub written : (end : ℕ) → Buffers → Buffers
written end b = record { line = b.line; scratch = b.scratch; out = zeroed end b.out }

-- the chunk was answered whole, and is zero: more is read
unfoldable pub waiting : (end : ℕ) → Rest → (input : Bytes) → Buffers → State
waiting end r input b = record { next = Read r.held; input = zeroed r.to input; buffers = written end b }

-- by whether some of the chunk isn't answered yet
unfoldable pub GoesOn : (more : Bool) (end : ℕ) → Rest → (input : Bytes) → Buffers → State → Type 0
GoesOn true end r input b s = Continues (take r.to input) r.from r.held input (written end b) s
GoesOn false end r input b s = s ≡ waiting end r input b

-- by what is still to be answered; or, if it doesn't go on, nothing
unfoldable pub Follows : Option Rest → (end : ℕ) (input : Bytes) → Buffers → State → Type 0
Follows None end input b s = s ≡ halted input b
Follows (Some r) end input b s = GoesOn (ltb r.from r.to) end r input b s

-- it goes on exactly when the write succeeded and wasn't the last
abbrev pub AfterWrite : (wrote : Bool) → Pending → (input : Bytes) → Buffers → State → Type 0
AfterWrite wrote p input b s = Follows (if wrote then p.rest else None) p.end input b s
