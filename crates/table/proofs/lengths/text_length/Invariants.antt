use mathlib.Core.Path.{◌≡◌}
use Prim.Native.Nat.{◌+◌, ◌*◌, ◌≤◌}
use lib.ListN.{length, drop}
use Rattle.pattern.specs.Print.{double}
use Rattle.table.specs.Checked.{all_plain}
use Rattle.table.proofs.lengths.text_length.Given as goal

abbrev pub invariant-loop-b : goal.invariant-loop-b
invariant-loop-b l = record {
  few : l.n ≤ 2 * l.b-index;
  plain : all_plain l.v ≡ all_plain (drop l.b-index l.v);
  length_is : length (double l.v) ≡ l.n + length (double (drop l.b-index l.v));
}
