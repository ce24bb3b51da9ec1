-- `leaf::class_bytes` meets its contract: after k codes the bytes are those of the codes that are in the set. Assumes nothing.
use native.Mathlib.Omega.{arith}
use Rattle.summary.proofs.ClassWords.{classes, class_start, class_step, class_end}
use Rattle.summary.proofs.leaf.class_bytes.Goals as goal

pub loop-class-init : goal.loop-class-init
loop-class-init c = class_start c.args.set

pub loop-class-preserved : goal.loop-class-preserved
unfolding classes
loop-class-preserved c = class_step c.loop-class.invariant c.loop-class-test.true _ c.with-more.ensures

pub returns : goal.returns
returns c = class_end c.loop-class.invariant (omega (arith, c.loop-class-test.false, c.loop-class.auto.class-index-end))
