-- `locate::pass_tables` meets its contract: the tables that are left end where all do. Assumes nothing.
use mathlib.Core.Path.{refl, sym, ◌∙◌}
use native.Mathlib.Omega.{arith}
use Rattle.register.proofs.Passing.{pass_start, pass_end, pass_long, pass_bad, pass_table, slot_whole}
use Rattle.register.proofs.locate.pass_tables.Goals as goal

pub returns-then-section-end : goal.returns-then-section-end
returns-then-section-end c =
    pass_long c.loop-k.invariant.0 _ c.read32-n.ensures c.loop-k-test.true c.if-section-end.true

pub is_intact-requires : goal.is_intact-requires
is_intact-requires c =
    let pre = c.requires in
    record { whole = slot_whole c.args.section.now c.loop-k.k (omega (arith, c.loop-k-test.true, pre.few, pre.long)); room = omega (arith, pre.room, c.loop-k.invariant.1) }

pub loop-k-preserved : goal.loop-k-preserved
loop-k-preserved c = (
  pass_table c.loop-k.invariant.0 _ c.read32-n.ensures c.loop-k-test.true c.if-section-end.false (sym c.if-not-is_intact.false ∙ c.is_intact.ensures),
  omega (arith, c.is_intact.auto, c.loop-k.invariant.1),
)

pub returns-then-not-is_intact : goal.returns-then-not-is_intact
returns-then-not-is_intact c =
    pass_bad c.loop-k.invariant.0 _ c.read32-n.ensures c.loop-k-test.true c.if-section-end.false (sym c.if-not-is_intact.true ∙ c.is_intact.ensures)

pub loop-k-init : goal.loop-k-init
loop-k-init c = (pass_start _ _ _ _ c.requires.inside, refl)

pub returns : goal.returns
returns c = pass_end c.loop-k.invariant.0 c.loop-k-test.false
