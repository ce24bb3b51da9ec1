-- `Task::begin` meets its contract. Assumes nothing.
use Rattle.matcher.proofs.Settling.{begin_empty, begin_blank, begin_end}
use Rattle.matcher.proofs.task.Task.begin.Goals as goal

pub fill-requires : goal.fill-requires
fill-requires c =
    begin_empty _ _ _ _ _ _ c.requires _ c.fill_body.auto.scratch c.fill_body.ensures

pub blank-requires : goal.blank-requires
blank-requires c =
    let (wide, room) = begin_blank _ _ _ _ _ _ c.requires _ c.fill_body.auto.scratch c.fill_body.ensures _ c.fill.auto.scratch c.fill.ensures in
    record { wide = wide; room = room }

pub returns : goal.returns
returns c =
    begin_end _ _ _ _ _ _ c.requires _ c.fill_body.auto.scratch c.fill_body.ensures _ c.fill.auto.scratch c.fill.ensures _ c.blank.auto.scratch c.blank.ensures
