-- `reply::answer_line` meets its contract. Assumes nothing.
use native.Mathlib.Omega.{arith}
use Rattle.pattern.proofs.Stores.{puts_then}
use Rattle.replies.specs.Reply.{answer_to}
use Rattle.replies.proofs.reply.answer_line.Goals as goal

pub returns : goal.returns
unfolding answer_to
returns c =
    let r = c.put_reply-end.ensures in
    let a = r.within in
    let b = c.put.ensures in
    record { within = record { stores = puts_then a.stores b; short = omega (arith, a.short, b.next) }; works = r.works }
