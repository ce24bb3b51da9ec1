-- `find` meets its contract. Assumes nothing.
use mathlib.Core.Path.{sym, ◌∙◌}
use native.Mathlib.Omega.{arith}
use Rattle.register.proofs.Calls.{find_short, find_on, find_off, found_within}
use Rattle.register.proofs.find.Goals.{then-lent-lt-OVERHEAD-via-then-lent-lt-OVERHEAD, then-lent-lt-OVERHEAD-via-else-lent-lt-OVERHEAD+then-not-has_preamble}
use Rattle.register.proofs.find.Goals as goal

pub returns : goal.returns
returns c =
    let e = find_on _ _ _ (sym c.if-not-has_preamble.false ∙ c.has_preamble.ensures) c.locate_number.ensures in
    record { place = e; within = found_within _ _ _ (omega (arith, c.ranges)) e }

pub returns-then-lent-lt-OVERHEAD-clause-place : goal.returns-then-lent-lt-OVERHEAD-clause-place
returns-then-lent-lt-OVERHEAD-clause-place c =
    elim c.then-lent-lt-OVERHEAD.branch [
      | then-lent-lt-OVERHEAD-via-then-lent-lt-OVERHEAD w ↦ find_short _ _ w.if-lent-lt-OVERHEAD.true
      | then-lent-lt-OVERHEAD-via-else-lent-lt-OVERHEAD+then-not-has_preamble w ↦ find_off _ _ (sym w.if-not-has_preamble.true ∙ w.has_preamble.ensures)
    ]
