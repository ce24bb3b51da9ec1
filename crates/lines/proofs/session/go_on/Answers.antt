-- `session::go_on` meets its contract, by whether some of the chunk is left. Assumes nothing.
use mathlib.Core.Path.{refl}
use borrow.Author.Tests.{lt-ltb, le-ltb}
use Rattle.lines.specs.Session.{written, waiting, GoesOn}
use Rattle.lines.proofs.Sessions.{filled_first, state_by}
use Rattle.lines.proofs.session.go_on.Goals as goal

pub returns-then-from-to : goal.returns-then-from-to
unfolding GoesOn written
returns-then-from-to c = rw (lt-ltb _ _ c.if-from-to.true, ← filled_first _ _ _ c.requires.end (c.fill.ensures.after (λ y e. e))) (c.answer.ensures _)

pub returns : goal.returns
unfolding GoesOn written waiting
returns c = rw (le-ltb _ _ c.if-from-to.false)
    (state_by (filled_first _ _ _ c.requires.rest.to_fits (c.fill-2.ensures.after (λ y e. e))) refl refl (filled_first _ _ _ c.requires.end (c.fill.ensures.after (λ y e. e))))
