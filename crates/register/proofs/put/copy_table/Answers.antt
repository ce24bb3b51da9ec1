-- `put::copy_table` meets its contract: the first i bytes are stored. Assumes nothing.
use mathlib.Core.Path.{sym, ap, ◌∙◌}
use Prim.Native.Nat.{◌+◌}
use native.Mathlib.Omega.{arith}
use lib.ListN.{set, get_or}
use lib.Seq.{take_all}
use Rattle.pattern.specs.Stores.{store_at}
use Rattle.pattern.proofs.Stores.{store_at_none, copied}
use Rattle.register.proofs.put.copy_table.Goals as goal

pub loop-i-init : goal.loop-i-init
loop-i-init c = sym (store_at_none _ _)

pub loop-i-preserved : goal.loop-i-preserved
loop-i-preserved c =
    ap (λ m. set m (c.args.start + c.loop-i.i) (get_or c.args.table.now c.loop-i.i 0)) c.loop-i.invariant ∙ copied c.args.section.now c.args.table.now c.args.start c.loop-i.i c.loop-i-test.true

pub returns : goal.returns
returns c = c.loop-i.invariant ∙ ap (store_at c.args.section.now c.args.start) (take_all c.loop-i.i c.args.table.now (omega arith))
