-- `session::after_write` meets its contract, case by case. Assumes nothing.
use Rattle.std.specs.Prelude.{◌≡◌, Bool, true, false, ℕ, if◌then◌else◌, None}
use Rattle.pattern.specs.Bytes.{Bytes}
use Rattle.lines.specs.Chunk.{Buffers}
use Rattle.lines.specs.Session.{State, halted, Follows}
use Rattle.lines.proofs.session.after_write.Goals as goal
use Rattle.lines.proofs.session.after_write.Goals.{in_default-via-in-Some+else-wrote, in_default-via-in_default}

-- the last output was written, or not
ends : (wrote : Bool) (end : ℕ) (input : Bytes) (b : Buffers) (s : State) → s ≡ halted input b → Follows (if wrote then None else None) end input b s
unfolding Follows
ends true end input b s a = a
ends false end input b s a = a

pub returns-in-Some : goal.returns-in-Some
unfolding Follows
returns-in-Some c = rw (c.if-wrote.true, c.in-Some.is) c.go_on.ensures

pub returns-in_default : goal.returns-in_default
unfolding Follows
returns-in_default c =
    elim c.in_default.branch [
      | in_default-via-in-Some+else-wrote w ↦ rw w.if-wrote.false c.halt.ensures
      | in_default-via-in_default w ↦ rw w.in_default.is (ends c.args.wrote _ _ _ _ c.halt.ensures)
    ]
