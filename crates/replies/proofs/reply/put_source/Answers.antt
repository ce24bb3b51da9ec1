-- `reply::put_source` meets its contract. Assumes nothing.
use mathlib.Core.List.{[]}
use native.Mathlib.Omega.{arith}
use Rattle.pattern.specs.Refusals.{number_of}
use Rattle.pattern.proofs.Refusals.{number_short}
use Rattle.replies.specs.Sizes.{reply_room}
use Rattle.replies.proofs.Replies.{replied_same, replied, store_at_within, refused_short}
use Rattle.replies.proofs.Compiling.{compiled_fits, table_reply_is, refused_reply_is}
use Rattle.replies.proofs.reply.put_source.Goals as goal

pub shared_whole_as_front-put_label : goal.shared_whole_as_front-put_label
shared_whole_as_front-put_label g c =
    (omega (arith, compiled_fits _ [] [] _ c.requires.fits _ _ c.in-Ok.ensures, c.compile.auto.table), omega (arith, c.requires.small))

pub returns-in-Ok : goal.returns-in-Ok
returns-in-Ok g c = replied_same (table_reply_is _ _ _ _ c.requires.fits _ _ c.in-Ok.ensures) c.put_label.ensures

pub returns-in-Err : goal.returns-in-Err
returns-in-Err g c =
    replied_same (refused_reply_is _ _ _ _ c.requires.fits _ c.in-Err.fault c.in-Err.ensures) (replied (store_at_within reply_room (omega (arith, refused_short (number_of c.in-Err.fault.refusal) c.in-Err.fault.position (omega (arith, number_short c.in-Err.fault.refusal)) (omega arith))) c.put_refused.ensures))
