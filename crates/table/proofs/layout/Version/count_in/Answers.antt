-- `Version::count_in` meets its contract, version by version. Assumes nothing.
use mathlib.Core.Path.{sym, ◌∙◌}
use Rattle.pattern.specs.Numbers.{atoms_place}
use Rattle.stores.proofs.Little.{number_byte, number_field}
use Rattle.table.proofs.layout.Version.count_in.Goals as goal

pub returns-in-One : goal.returns-in-One
returns-in-One c = rw c.in-One.is (c.from.ensures ∙ sym (number_byte c.args.table.now atoms_place))

pub returns-in-Two : goal.returns-in-Two
returns-in-Two c = rw c.in-Two.is (c.read16.ensures ∙ sym (number_field c.args.table.now atoms_place))
