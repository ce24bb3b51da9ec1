-- `session::after_read` meets its contract, case by case. Assumes nothing.
use mathlib.Core.Path.{sym, ◌∙◌}
use lib.Seq.{length-take-le}
use Rattle.lines.specs.Session.{AfterRead}
use Rattle.lines.proofs.Sessions.{chunk_fits, read_as, filled_first, finished_by}
use borrow.Author.Rules.{rules}
use Rattle.lines.proofs.session.after_read.Goals as goal

pub slice_bounds-answer-end : goal.slice_bounds-answer-end
slice_bounds-answer-end c = chunk_fits _ _ _ (sym c.in-Chunk.is ∙ c.reading.ensures)

pub slice_bounds-answer-end-in-Chunk : goal.slice_bounds-answer-end-in-Chunk
slice_bounds-answer-end-in-Chunk c = sym (length-take-le _ _ (chunk_fits _ _ _ (sym c.in-Chunk.is ∙ c.reading.ensures)))

pub returns-in-Failed : goal.returns-in-Failed
returns-in-Failed c =
    read_as _ _ _ _ _ _ (sym c.reading.ensures ∙ c.in-Failed.is) (unfold AfterRead in c.halt.ensures)

pub returns-in-Ended : goal.returns-in-Ended
returns-in-Ended c =
    read_as _ _ _ _ _ _ (sym c.reading.ensures ∙ c.in-Ended.is) (unfold AfterRead in finished_by _ _ c.answer_last-end.ensures (filled_first _ _ _ (search rules) (c.fill.ensures.after (λ y e. e))))

pub returns-in-Chunk : goal.returns-in-Chunk
returns-in-Chunk c =
    read_as _ _ _ _ _ _ (sym c.reading.ensures ∙ c.in-Chunk.is) (unfold AfterRead in c.answer.ensures _)
