-- What the program does from its first write on. To be believed, all but `WriteStep` and `ReadStep`.
use Rattle.std.specs.Prelude.{◌≡◌, true, Option, IfSome, ℕ}
use Rattle.std.specs.Io.KnownBytes.{Appends, Consumes}
use Rattle.pattern.specs.Bytes.{Bytes}
use Rattle.lines.specs.Output.{joined}
use Rattle.lines.specs.Session.{State}
use Rattle.lines.specs.Trace.{Trace, Steps, Runs}
use Rattle.lines.specs.Invariant.{Sound}
use Rattle.lines.specs.declared.session.Next.TheVariants.{Stop}

-- a proved loop has to end: in practice no run uses up so many turns
abbrev pub turn_limit : ℕ
turn_limit = 18_446_744_073_709_551_615

-- what a reader has left, where it is known: the chunks were taken from it, and all of it if it ended
pub record FromReader (t : Trace) (left left' : Option Bytes) : Type 0 where
  pub taken : Consumes left left' (joined t.chunks)
  pub whole : t.ended ≡ true → IfSome left (λ s. s ≡ joined t.chunks)

-- what a writer holds, where it is known: what it held, and the text after it, also where a write failed
pub record ToWriter (t : Trace) (held held' : Option Bytes) : Type 0 where
  pub given : Appends held held' t.text

-- a write, or a read: a step, with what it put into the writer, and nothing taken; or with what it took from the reader, and nothing put
pub record WriteStep (s s' : State) (held held' : Option Bytes) : Type 0 where
  pub trace : Trace
  pub step : Steps s trace s'
  pub took : (left : Option Bytes) → FromReader trace left left
  pub gave : ToWriter trace held held'

pub record ReadStep (s s' : State) (left left' : Option Bytes) : Type 0 where
  pub trace : Trace
  pub step : Steps s trace s'
  pub took : FromReader trace left left'
  pub gave : (held : Option Bytes) → ToWriter trace held held

-- it reads and writes, step by step, until it is told to stop
pub record RunPost (first s : State) (left left' held held' : Option Bytes) : Type 0 where
  pub turns : ℕ
  pub trace : Trace
  pub runs : Runs first turns trace s
  pub took : FromReader trace left left'
  pub gave : ToWriter trace held held'
  pub until : ¬ (s.next ≡ Stop) → turns ≡ turn_limit
  pub sound : Sound s
