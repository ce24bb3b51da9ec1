use mathlib.Core.Path.{◌≡◌}
use Prim.Native.Nat.{◌-◌, ◌≤◌, ◌<◌}
use lib.ListN.{length, take}
use lib.Seq.{slice}
use Rattle.lines.specs.Output.{lines_in}
use Rattle.lines.specs.Chunk.{lend, Done}
use Rattle.lines.proofs.chunk.answer_chunk.Given as goal

abbrev pub invariant-loop-next : goal.invariant-loop-next
invariant-loop-next l =
    record {
      line_size : length l.line ≡ length l.initial.line;
      scratch_size : length l.scratch ≡ length l.initial.scratch;
      out_size : length l.out ≡ length l.initial.out;
      forward : l.from ≤ l.next;
      fits : l.next ≤ length l.chunk;
      done : Done (lines_in (take l.held l.initial.line) (slice l.from l.next l.chunk)) (lend l.initial.line l.initial.scratch l.initial.out) (lend l.line l.scratch l.out) l.end l.n;
      whole : 0 < l.end → l.next < length l.chunk → l.n ≡ 0;
    }

abbrev pub decreases-loop-next : goal.decreases-loop-next
decreases-loop-next l = length l.chunk - l.next
