use mathlib.Core.Path.{◌≡◌}
use mathlib.Core.Bool.{false}
use Prim.Native.Nat.{◌≤◌}
use lib.ListN.{length, take, drop}
use lib.Seq.{slice}
use Rattle.replies.specs.Sizes.{held_limit}
use Rattle.lines.specs.Output.{lines_in}
use Rattle.lines.specs.Taking.{one_line}
use Rattle.lines.proofs.line.take_line.Given as goal

abbrev pub invariant-loop-at : goal.invariant-loop-at
invariant-loop-at l =
    record {
      fits : l.n ≤ held_limit;
      size : length l.line ≡ length l.initial.line;
      taken : lines_in (take l.held l.initial.line) (slice l.from l.at l.chunk) ≡ one_line false (take l.n l.line);
      stays : drop l.n l.line ≡ drop l.n l.initial.line;
      longer : l.held ≤ l.n;
    }
