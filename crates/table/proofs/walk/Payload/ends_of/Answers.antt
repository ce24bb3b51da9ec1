-- `Payload::ends_of` meets its contract. Assumes nothing.
use mathlib.Core.Path.{◌≡◌, ap}
use Prim.Native.Nat.{ℕ, ◌+◌, ◌*◌}
use native.Mathlib.Omega.{arith}
use lib.ListN.{get_or}
use Rattle.pattern.specs.Numbers.{record_size}
use Rattle.table.proofs.walk.Payload.ends_of.Goals as goal

pub returns : goal.returns
returns c =
    let a = c.args in
    let z : record_size * a.i ≡ 0 + record_size * a.i = omega arith in
    ap (λ (k : ℕ). get_or a.self.bytes.now (k + 1) 0) z
