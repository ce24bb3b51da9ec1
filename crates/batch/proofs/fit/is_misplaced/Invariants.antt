use mathlib.Core.Path.{◌≡◌}
use Rattle.std.specs.Slice.Iter.{chunks_exact_rest, chunks_exact_size}
use Rattle.pattern.specs.Bytes.{numbers_in}
use Rattle.batch.specs.Batch.{misplaced}
use Rattle.batch.proofs.fit.is_misplaced.Given as goal

abbrev pub invariant-loop-pair : goal.invariant-loop-pair
invariant-loop-pair l =
    record {
      pairs : chunks_exact_size l.pair-iterator ≡ 2;
      left : misplaced l.from (numbers_in (chunks_exact_rest l.pair-iterator)) l.size ≡ misplaced 0 (numbers_in l.ends) l.size;
    }
