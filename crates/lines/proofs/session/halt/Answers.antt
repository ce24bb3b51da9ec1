-- `session::halt` meets its contract: each buffer is cleared whole. Assumes nothing.
use Rattle.lines.specs.Session.{halted}
use Rattle.lines.proofs.Sessions.{filled, state_by}
use Rattle.lines.proofs.session.halt.Goals as goal

pub returns : goal.returns
unfolding halted
returns c = state_by (filled _ _ (c.fill.ensures.after (λ y e. e))) (filled _ _ (c.fill-2.ensures.after (λ y e. e))) (filled _ _ (c.fill-3.ensures.after (λ y e. e))) (filled _ _ (c.fill-4.ensures.after (λ y e. e)))
