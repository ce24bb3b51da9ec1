-- `reply::put_label` meets its contract. Assumes nothing.
use native.Mathlib.Omega.{arith}
use Rattle.pattern.specs.declared.refusal.Refusal.TheVariants.{Table}
use Rattle.replies.specs.Sizes.{reply_room}
use Rattle.replies.proofs.Replies.{replied_same, replied, store_at_within, unmatched_short}
use Rattle.replies.proofs.Endings.{bad_reply}
use Rattle.replies.proofs.reply.put_label.Goals as goal

pub put_match-requires : goal.put_match-requires
put_match-requires c = c.requires

pub returns-in_default : goal.returns-in_default
returns-in_default c = replied_same (bad_reply _ _ _ (rw c.in_default.is at c.test.ensures.sizes)) (replied (store_at_within reply_room (omega (arith, unmatched_short Table)) c.put_unmatched.ensures))

pub returns : goal.returns
returns c = rw c.in-Some.ensures.bytes at c.put_match.ensures
