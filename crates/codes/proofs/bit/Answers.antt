-- `codes::bit` meets its contract: the codes passed have other letters, so the later ones decide. Assumes nothing.
use mathlib.Core.Path.{refl, sym, ◌∙◌, ap}
use Prim.Native.Nat.{◌*◌}
use native.Mathlib.Numerals.{add-one}
use native.Mathlib.Nat.{pow-suc}
use native.Mathlib.Omega.{arith}
use Rattle.pattern.specs.Codes.{all_codes, bit}
use Rattle.codes.specs.Rows.{flatten, row_of, row_at}
use Rattle.codes.proofs.LetterBits.{bit_here, bit_end}
use Rattle.codes.proofs.bit.Goals as goal

pub loop-code-init : goal.loop-code-init
unfolding bit
loop-code-init c = (refl, refl)

pub returns-then-eq_ignore_ascii_case : goal.returns-then-eq_ignore_ascii_case
unfolding row_at row_of flatten all_codes
returns-then-eq_ignore_ascii_case c =
    let l = c.loop-code in
    sym (bit_here l.code-index l.b _ c.loop-code-test.true (sym c.if-eq_ignore_ascii_case.true ∙ c.eq_ignore_ascii_case.ensures)) ∙ l.invariant.1

pub loop-code-preserved : goal.loop-code-preserved
unfolding row_at row_of flatten all_codes
loop-code-preserved c =
    let l = c.loop-code in
    let k = l.code-index in (
      rw add-one (ap (λ x. x * 2) l.invariant.0 ∙ sym (pow-suc 2 k)),
      rw add-one (sym (bit_here k l.b _ c.loop-code-test.true (sym c.if-eq_ignore_ascii_case.false ∙ c.eq_ignore_ascii_case.ensures)) ∙ l.invariant.1),
    )

pub returns : goal.returns
returns c = sym (bit_end c.loop-code.code-index _ _ (omega (arith, c.loop-code.auto.code-index-end, c.loop-code-test.false))) ∙ c.loop-code.invariant.1
