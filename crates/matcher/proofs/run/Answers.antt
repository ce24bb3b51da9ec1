-- `matcher::run` meets its contract. Assumes nothing.
use mathlib.Core.Path.{refl}
use Rattle.matcher.proofs.Runs.{run_stop, run_write_parts, run_yes, run_no}
use Rattle.matcher.proofs.run.Goals.{then-matches, else-matches}
use Rattle.matcher.proofs.run.Goals as goal

pub returns-in_default : goal.returns-in_default
returns-in_default c =
    run_stop _ _ _ _ _ c.requires _ _ refl refl _ c.settle_all.auto.scratch c.in_default.ensures _ c.clear.ensures

pub write_parts-requires : goal.write_parts-requires
write_parts-requires c =
    run_write_parts _ _ _ _ _ c.requires _ _ refl refl _ c.settle_all.auto.scratch _ c.in-Some.ensures

pub returns : goal.returns
returns c =
    elim c.if-matches.branch [
      | then-matches w ↦ run_yes _ _ _ _ _ c.requires _ _ refl refl _ c.settle_all.auto.scratch _ c.in-Some.ensures _ c.holds-matches.ensures w.if-matches.true _ _ w.parts-is w.write_parts.ensures _ c.clear-2.ensures
      | else-matches w ↦ run_no _ _ _ _ _ c.requires _ _ refl refl _ c.settle_all.auto.scratch _ c.in-Some.ensures _ c.holds-matches.ensures w.if-matches.false _ w.parts-is _ c.clear-2.ensures
    ]
