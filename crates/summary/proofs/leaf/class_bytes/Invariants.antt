use Rattle.summary.proofs.ClassWords.{ClassAt}
use Rattle.summary.proofs.leaf.class_bytes.Given as goal

abbrev pub invariant-loop-class : goal.invariant-loop-class
invariant-loop-class l = ClassAt l.set l.bytes l.left l.class-index
