-- `answer_input` meets its contract: the loop begins with the first line to be written. Assumes nothing.
use mathlib.Core.Path.{refl, ap}
use native.Mathlib.Omega.{arith}
use lib.ListN.{length}
use Rattle.lines.specs.Session.{started}
use Rattle.lines.proofs.Sessions.{started_by}
use Rattle.lines.proofs.Tidying.{sized_as, start_sound}
use Rattle.mptline.proofs.answer_input.Goals as goal

pub run-requires : goal.run-requires
unfolding started
run-requires g c =
    let y = c.requires in
    let s = c.start-first.ensures in
    rw (started_by _ _ _ s) (start_sound y (sized_as y.sized refl refl refl (omega (arith, ap length s.bytes))))

pub returns : goal.returns
returns g c =
    rw (started_by _ _ _ c.start-first.ensures) at c.run.ensures
