use mathlib.Core.Path.{◌≡◌}
use Prim.Native.Nat.{ℕ, ◌≤◌, ◌+◌, ◌*◌}
use lib.ListN.{length}
use Rattle.std.specs.Slice.Iter.{chunks_exact_rest, chunks_exact_size}
use Rattle.pattern.specs.Bytes.{Bytes, numbers_in}
use Rattle.replies.specs.Sizes.{space_byte}
use Rattle.replies.specs.Text.{listed}
use Rattle.pattern.specs.Stores.{Puts}
use Rattle.replies.proofs.text.put_matched.Given as goal

abbrev pub invariant-loop-pair : goal.invariant-loop-pair
invariant-loop-pair l =
    record {
      size : chunks_exact_size l.pair-iterator ≡ 2;
      room : l.end + 3 * length (chunks_exact_rest l.pair-iterator) ≤ l.initial.end + 3 * length l.parts;
      stores : (m : Bytes) (k : ℕ) → Puts l.out l.end (listed l.before (numbers_in (chunks_exact_rest l.pair-iterator))) m k → Puts l.initial.out l.initial.end (listed space_byte (numbers_in l.parts)) m k;
    }
