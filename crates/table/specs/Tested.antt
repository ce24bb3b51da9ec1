-- What the test of a table answers. To be believed.
use Rattle.std.proofs.Math.Option.{Option, none, some}
use Rattle.std.specs.Prelude.{Some, None, length}
use Rattle.std.specs.declared.option.Option as code
use Rattle.pattern.specs.Syntax.{pattern, Syntax, size, top_size}
use Rattle.pattern.specs.Print.{print}
use Rattle.table.specs.declared.Sizes.{Sizes}

-- none if the table has no tree; else the paper's A and T, and the length of the shortest source
unfoldable pub tested : Option (Syntax pattern) → code.Option Sizes
tested none = None
tested (some t) = Some (record { atoms = size t; top = top_size t; source = length (print t) })
