-- `Payload::codes_leaf` meets its contract, case by case. Assumes nothing.
use mathlib.Core.Path.{◌∙◌, sym}
use native.Mathlib.Omega.{arith}
use Rattle.table.proofs.Leafing.{small_set, codes_on, codes_more, codes_off}
use Rattle.table.proofs.walk.Payload.codes_leaf.Goals as goal
use Rattle.table.proofs.walk.Payload.codes_leaf.Goals.{else-is_set-via-then-is_set+else-b-eq0, else-is_set-via-else-is_set}

pub letters_length-requires : goal.letters_length-requires
letters_length-requires c = small_set c.args.a (sym c.is_set.ensures ∙ c.if-is_set.true)

pub returns-then-b-eq0 : goal.returns-then-b-eq0
returns-then-b-eq0 c =
    record { short = (omega (arith, c.requires.pool), omega arith); reads = codes_on c.args.a c.args.b c.letters_length.result (sym c.is_set.ensures ∙ c.if-is_set.true) c.if-b-eq0.true c.letters_length.ensures.0 }

pub returns-else-is_set : goal.returns-else-is_set
returns-else-is_set c =
    record {
      short = tt;
      reads = elim c.else-is_set.branch [
        | else-is_set-via-then-is_set+else-b-eq0 w ↦ codes_more c.args.a c.args.b (sym c.is_set.ensures ∙ w.if-is_set.true) w.if-b-eq0.false
        | else-is_set-via-else-is_set w ↦ codes_off c.args.a c.args.b (sym c.is_set.ensures ∙ w.if-is_set.false)
      ];
    }
