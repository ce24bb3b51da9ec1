-- What the test of a table says of a map. Assumes nothing.
use mathlib.Core.Path.{◌≡◌, ap}
use mathlib.Core.Bool.{true, false}
use mathlib.Core.Option.{Option, none, some}
use Rattle.pattern.specs.Bytes.{Bytes}
use Rattle.pattern.specs.Syntax.{pattern, Syntax}
use Rattle.pattern.specs.Decode.{decode}
use Rattle.table.specs.declared.Sizes.{Sizes}
use Rattle.std.specs.Prelude.{None, Some}
use Rattle.table.specs.Tested.{tested}
use Rattle.atoms.proofs.Goods.{tested_good, tested_bad}
use Rattle.register.specs.Maps.{is_table}

module _ (t : Bytes) where
  pub bad_table : None ≡ tested (decode t) → is_table t ≡ false
  unfolding is_table
  bad_table e = ap (λ (o : Option (Syntax pattern)). elim o [ none ↦ false | some _ ↦ true ]) (tested_bad t e)

  pub good_table : (s : Sizes) → Some s ≡ tested (decode t) → is_table t ≡ true
  unfolding is_table
  good_table s e = ap (λ (o : Option (Syntax pattern)). elim o [ none ↦ false | some _ ↦ true ]) (tested_good t s e).good.decoded
