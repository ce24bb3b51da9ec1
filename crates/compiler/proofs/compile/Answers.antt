-- `compile` meets its contract: too long, or by buffers that the source fits. Assumes nothing.
use Rattle.compiler.proofs.Answers.{compile_long}
use Rattle.compiler.proofs.compile.Goals as goal

pub returns-then-source-gt-SOURCE_LIMIT : goal.returns-then-source-gt-SOURCE_LIMIT
returns-then-source-gt-SOURCE_LIMIT c = rw c.at.ensures (compile_long _ _ c.if-source-gt-SOURCE_LIMIT.true)

pub returns-then-source-le-SHORT_SOURCE : goal.returns-then-source-le-SHORT_SOURCE
returns-then-source-le-SHORT_SOURCE c = c.compile_in.ensures

pub returns : goal.returns
returns c = c.compile_in-2.ensures
