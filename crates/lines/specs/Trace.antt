-- The line tool's runs: reads and writes one after the other, with what was read and written. To be believed.
use Rattle.std.specs.Prelude.{Bool, true, false, ◌&&◌, ◌||◌, List, [], ◌∷◌, ◌++◌, ℕ, ◌+◌, ◌≤◌, length, take}
use Rattle.pattern.specs.Bytes.{Bytes}
use Rattle.lines.specs.Chunk.{Buffers}
use Rattle.lines.specs.Session.{State, AfterRead, PendingIn, AfterWrite}
use Rattle.lines.specs.declared.chunk.Pending.{Pending}
use Rattle.lines.specs.declared.session.Input.TheVariants.{Failed, Ended, Chunk}
use Rattle.lines.specs.declared.session.Next.TheVariants.{Write, Read}

-- of some reads and writes: the chunks that were read, whether the input ended, the bytes that were written, and whether none failed
pub record Trace : Type 0 where
  pub chunks : List Bytes
  pub ended : Bool
  pub text : Bytes
  pub well : Bool

unfoldable pub followed_by : Trace → Trace → Trace
followed_by t u = record { chunks = t.chunks ++ u.chunks; ended = u.ended || t.ended; text = t.text ++ u.text; well = t.well && u.well }

-- one read or one write, and the state after it; of a write that failed some bytes may be written
pub data Steps : State → Trace → State → Type 0 where
  read : (held n : ℕ) (input input' : Bytes) (b : Buffers) (s : State) → 1 ≤ n → n ≤ length input' → AfterRead (Chunk n) held input' b s
      → Steps (record { next = Read held; input = input; buffers = b }) (record { chunks = take n input' ∷ []; ended = false; text = []; well = true }) s
  end : (held : ℕ) (input input' : Bytes) (b : Buffers) (s : State) → AfterRead Ended held input' b s
      → Steps (record { next = Read held; input = input; buffers = b }) (record { chunks = []; ended = true; text = []; well = true }) s
  write : (p : Pending) (input : Bytes) (b : Buffers) (s : State) → PendingIn p input b → AfterWrite true p input b s
      → Steps (record { next = Write p; input = input; buffers = b }) (record { chunks = []; ended = false; text = take p.end b.out; well = true }) s
  read_fails : (held : ℕ) (input input' : Bytes) (b : Buffers) (s : State) → AfterRead Failed held input' b s
      → Steps (record { next = Read held; input = input; buffers = b }) (record { chunks = []; ended = false; text = []; well = false }) s
  write_fails : (p : Pending) (k : ℕ) (input : Bytes) (b : Buffers) (s : State) → k ≤ p.end → PendingIn p input b → AfterWrite false p input b s
      → Steps (record { next = Write p; input = input; buffers = b }) (record { chunks = []; ended = false; text = take k b.out; well = false }) s

-- so many of them, one after the other
pub data Runs (first : State) : (turns : ℕ) → Trace → State → Type 0 where
  none : Runs first 0 (record { chunks = []; ended = false; text = []; well = true }) first
  more : (turns : ℕ) (t u : Trace) (s s' : State) → Runs first turns t s → Steps s u s' → Runs first (turns + 1) (followed_by t u) s'

-- the chunks that may still come: none where the input has ended
unfoldable pub to_come : (ended : Bool) → List Bytes → List Bytes
to_come true chunks = []
to_come false chunks = chunks
