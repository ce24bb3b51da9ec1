-- `Task::join_followers` meets its contract. Assumes nothing.
use Rattle.matcher.proofs.Following.{follow_blank, follow_add, follow_last, follow_ready, follow_then}
use Rattle.matcher.proofs.task.Task.join_followers.Goals as goal

pub blank-requires : goal.blank-requires
blank-requires c =
    let (wide, room) = follow_blank _ _ _ _ _ c.requires in
    record { wide = wide; room = room }

pub add-requires : goal.add-requires
add-requires c =
    follow_add _ _ _ _ _ c.requires _ c.blank.auto.scratch c.blank.ensures

pub returns-then-record_at-eq1 : goal.returns-then-record_at-eq1
returns-then-record_at-eq1 c =
    follow_last _ _ _ _ _ c.requires _ c.blank.auto.scratch c.blank.ensures _ c.record_at.ensures _ c.if-record_at-eq1.true _ c.add.ensures

pub join-requires : goal.join-requires
join-requires c =
    follow_ready _ _ _ _ _ c.requires _ c.record_at.ensures c.if-record_at-eq1.false _ c.next_atom-next.ensures

pub returns : goal.returns
returns c =
    follow_then _ _ _ _ _ c.requires _ c.record_at.ensures c.if-record_at-eq1.false _ c.next_atom-next.ensures _ _ _ c.join.ensures
