-- `reply::put_match` meets its contract. Assumes nothing.
use mathlib.Core.Path.{sym}
use native.Mathlib.Omega.{arith}
use Rattle.replies.specs.Sizes.{reply_room}
use Rattle.matcher.proofs.Refusals.{few_tops}
use Rattle.replies.proofs.Replies.{replied_same, replied, store_at_within, within_more, unmatched_short}
use Rattle.replies.proofs.Endings.{parts_in_room, unmatched_reply, no_reply, yes_reply}
use Rattle.replies.proofs.reply.put_match.Goals as goal

pub overflow_mul-parts : goal.overflow_mul-parts
overflow_mul-parts c = omega (arith, few_tops _ _ c.args.table.good)

pub slice_bounds-parts-end : goal.slice_bounds-parts-end
slice_bounds-parts-end c = omega (arith, few_tops _ _ c.args.table.good)

pub slice_bounds-put_matched-end : goal.slice_bounds-put_matched-end
slice_bounds-put_matched-end c = sym (parts_in_room _ _ _ c.args.table.good c.match_good.auto.parts).size

pub returns-in-Ok : goal.returns-in-Ok
returns-in-Ok c =
    let m = c.match_good in
    replied_same (yes_reply _ _ _ _ c.args.table.good m.result _ _ m.ensures _ c.in-Ok.is c.if-verdict.true)
    (replied (within_more (parts_in_room _ _ _ c.args.table.good m.auto.parts).text c.put_matched.ensures))

pub returns-in-Ok-2 : goal.returns-in-Ok-2
returns-in-Ok-2 c =
    let m = c.match_good in
    replied_same (no_reply _ _ _ _ c.args.table.good m.result _ _ m.ensures _ c.in-Ok.is c.if-verdict.false)
    (replied (store_at_within reply_room (omega arith) c.put.ensures))

pub returns-in-Err : goal.returns-in-Err
returns-in-Err c =
    let m = c.match_good in
    replied_same (unmatched_reply _ _ _ _ c.args.table.good m.result _ _ m.ensures _ c.in-Err.is)
    (replied (store_at_within reply_room (omega (arith, unmatched_short c.in-Err.refusal)) c.put_unmatched.ensures))
