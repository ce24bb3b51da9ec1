-- `session::start` meets its contract: the bytes stored are the first line. Assumes nothing.
use mathlib.Core.Path.{refl, ap}
use mathlib.Core.List.{◌++◌}
use lib.ListN.{drop}
use Rattle.pattern.specs.Bytes.{bytes, overwrite}
use Rattle.lines.specs.Output.{first_line}
use Rattle.lines.proofs.session.start.Goals as goal

pub returns : goal.returns
unfolding first_line bytes overwrite
returns c = record { next = refl; bytes = ap (λ v. v ++ drop 6 c.args.out.now) c.copy_from_slice.ensures.after }
