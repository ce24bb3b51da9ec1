-- `Task::fill_atom` meets its contract. Assumes nothing.
use mathlib.Core.Path.{sym}
use Rattle.matcher.proofs.Settling.{atom_stop, atom_low, atom_blank, atom_empty, atom_none}
use Rattle.matcher.proofs.task.Task.fill_atom.Goals as goal
use Rattle.matcher.proofs.task.Task.fill_atom.Goals.{else-n-low-via-then-n-low+else-not-holds, else-n-low-via-else-n-low}

pub returns-in_err-counted : goal.returns-in_err-counted
returns-in_err-counted c =
    rw c.from_residual.ensures (atom_stop _ _ _ _ _ _ _ c.requires _ c.begin.auto.scratch c.begin.ensures _ c.record_at-r.ensures _ c.repeat_body.auto.scratch _ _ c.min.ensures c.min-times.ensures c.in_err-counted.ensures)

pub blank-requires : goal.blank-requires
blank-requires c =
    let (wide, room) = atom_blank _ _ _ _ _ _ _ c.requires _ c.begin.auto.scratch c.begin.ensures _ c.record_at-r.ensures _ c.repeat_body.auto.scratch _ _ c.min.ensures c.min-times.ensures _ c.in_ok-counted.ensures c.if-n-low.true in
    record { wide = wide; room = room }

pub returns-then-not-holds : goal.returns-then-not-holds
returns-then-not-holds c =
    atom_none _ _ _ _ _ _ _ c.requires _ c.begin.auto.scratch c.begin.ensures _ c.record_at-r.ensures _ c.repeat_body.auto.scratch _ _ c.min.ensures c.min-times.ensures _ c.in_ok-counted.ensures c.if-n-low.true (sym c.if-not-holds.ensures) _ c.blank.ensures

pub returns-else-n-low : goal.returns-else-n-low
returns-else-n-low c =
    elim c.else-n-low.branch [
      | else-n-low-via-then-n-low+else-not-holds w ↦
          atom_empty _ _ _ _ _ _ _ c.requires _ c.begin.auto.scratch c.begin.ensures _ c.record_at-r.ensures _ c.repeat_body.auto.scratch _ _ c.min.ensures c.min-times.ensures _ c.in_ok-counted.ensures w.if-n-low.true (sym w.if-not-holds.ensures)
      | else-n-low-via-else-n-low w ↦
          atom_low _ _ _ _ _ _ _ c.requires _ c.begin.auto.scratch c.begin.ensures _ c.record_at-r.ensures _ c.repeat_body.auto.scratch _ _ c.min.ensures c.min-times.ensures _ c.in_ok-counted.ensures w.if-n-low.false
    ]
