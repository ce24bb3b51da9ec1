-- `branch_end` meets its contract: the branch that goes on at a later atom ends where the one at x does. Assumes nothing.
use mathlib.Core.Path.{◌≡◌}
use native.Mathlib.Omega.{arith}
use Rattle.atoms.proofs.Views.{branch_last, branch_then}
use Rattle.atoms.proofs.branch_end.Goals as goal

pub loop-last-preserved : goal.loop-last-preserved
loop-last-preserved c =
    let got = c.record_at.ensures in
    let more : c.record_at.result.ends ≡ 1 → ⊥ = λ e. omega arith in
    rw c.next_atom-last.ensures ((got.is_followed more).there, omega (arith, c.loop-last.invariant.1, branch_then got more))

pub returns : goal.returns
returns c = omega (arith, c.next_atom.ensures, c.loop-last.invariant.1, branch_last c.record_at.ensures (omega arith))
