-- `init` meets its contract: zeros, and the preamble over them. Assumes nothing.
use mathlib.Core.Path.{sym}
use Rattle.register.proofs.Calls.{init_done}
use Rattle.register.proofs.Registers.{init_refused}
use Rattle.register.proofs.init.Goals as goal

pub returns : goal.returns
returns c = init_done _ _ _ c.if-lent-lt-OVERHEAD.false c.copy_from_slice.ensures.after c.clear.ensures

pub returns-then-lent-lt-OVERHEAD : goal.returns-then-lent-lt-OVERHEAD
returns-then-lent-lt-OVERHEAD c = sym (init_refused _ c.if-lent-lt-OVERHEAD.true)
