use mathlib.Core.Path.{◌≡◌}
use Prim.Native.Nat.{◌^◌}
use lib.ListN.{drop}
use Rattle.pattern.specs.Codes.{all_codes, bit_among, bit}
use Rattle.codes.proofs.bit.Given as goal

abbrev pub invariant-loop-code : goal.invariant-loop-code
invariant-loop-code l = (l.b ≡ 2 ^ l.code-index) × (bit_among (drop l.code-index all_codes) l.b l.c ≡ bit l.c)
