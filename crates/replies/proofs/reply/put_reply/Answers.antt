-- `reply::put_reply` meets its contract. Assumes nothing.
use mathlib.Core.Path.{refl, sym, ◌∙◌}
use lib.Seq.{length-take-le}
use native.Mathlib.Omega.{arith}
use Rattle.pattern.specs.Bytes.{bytes}
use Rattle.replies.specs.Sizes.{reply_room, tab_byte}
use Rattle.replies.proofs.Firsts.{first_some, first_none}
use Rattle.replies.proofs.Replies.{replied_same, replied, store_at_within}
use Rattle.replies.proofs.Cutting.{long_reply, whole_reply, cut_replied}
use Rattle.replies.proofs.reply.put_reply.Goals as goal

pub returns-then-line-gt-LINE_LIMIT : goal.returns-then-line-gt-LINE_LIMIT
unfolding bytes
returns-then-line-gt-LINE_LIMIT c = replied_same (long_reply _ _ c.if-line-gt-LINE_LIMIT.true) (replied (store_at_within reply_room (omega arith) c.put.ensures))

pub returns-in_default : goal.returns-in_default
unfolding bytes
returns-in_default c =
    replied_same (whole_reply _ _ c.if-line-gt-LINE_LIMIT.false _ refl (first_none tab_byte _ (sym c.in_default.is ∙ c.tab_at.ensures))) (replied (store_at_within reply_room (omega arith) c.put-in_default.ensures))

pub slice_bounds-put_cut-end : goal.slice_bounds-put_cut-end
slice_bounds-put_cut-end c =
    let (_, h) = first_some tab_byte c.args.line.now c.in-Some.tab (sym c.in-Some.is ∙ c.tab_at.ensures) in
    sym (length-take-le _ _ (omega arith))

pub returns : goal.returns
returns c =
    let (e, h) = first_some tab_byte _ _ (sym c.in-Some.is ∙ c.tab_at.ensures) in
    replied_same (cut_replied _ _ c.if-line-gt-LINE_LIMIT.false _ e h) c.put_cut.ensures
