-- `count::count` meets its contract. Assumes nothing.
use Rattle.scanner.specs.Counts.{CountReadPost}
use Rattle.scanner.proofs.count.count.Goals as goal

pub returns : goal.returns
unfolding CountReadPost
returns c = rw c.judge.ensures (c.read_count.ensures _)
