-- `Payload::text_leaf` meets its contract, case by case. Assumes nothing.
use mathlib.Core.Path.{◌∙◌, sym}
use Prim.Native.Nat.{◌+◌, ◌*◌, ◌-◌}
use native.Mathlib.Omega.{arith}
use Rattle.pattern.specs.Numbers.{record_size}
use Rattle.table.proofs.Leafing.{text_apart, text_past, text_bad, text_good}
use Rattle.table.proofs.walk.Payload.text_leaf.Goals as goal

pub returns-then-a-p : goal.returns-then-a-p
returns-then-a-p c =
    let a = c.args in
    record { short = tt; reads = text_apart a.self.bytes.now a.self.atoms a.a a.b a.p c.if-a-p.true }

pub returns-then-self-to : goal.returns-then-self-to
returns-then-self-to c =
    let a = c.args in
    record { short = tt; reads = text_past a.self.bytes.now a.self.atoms a.a a.b a.p c.if-a-p.false c.if-self-to.true }

pub returns-in_err-n : goal.returns-in_err-n
returns-in_err-n c =
    let a = c.args in
    rw c.from_residual.ensures (record { short = tt; reads = text_bad a.self.bytes.now a.self.atoms a.a a.b a.p (record_size * a.self.atoms + a.p + a.b - (record_size * a.self.atoms + a.p)) c.if-a-p.false c.if-self-to.false (omega arith) (sym c.in_err-n.was ∙ c.text_length.ensures) })

pub overflow_add-result : goal.overflow_add-result
overflow_add-result c =
    let a = c.args in
    let (e, m) = text_good a.self.bytes.now a.self.atoms a.a a.b a.p (record_size * a.self.atoms + a.p + a.b - (record_size * a.self.atoms + a.p)) _ c.if-a-p.false c.if-self-to.false (omega arith) (sym c.in_ok-n.was ∙ c.text_length.ensures) in
    omega (arith, m)

pub returns : goal.returns
returns c =
    let a = c.args in
    let (e, m) = text_good a.self.bytes.now a.self.atoms a.a a.b a.p (record_size * a.self.atoms + a.p + a.b - (record_size * a.self.atoms + a.p)) _ c.if-a-p.false c.if-self-to.false (omega arith) (sym c.in_ok-n.was ∙ c.text_length.ensures) in
    record { short = (c.if-self-to.false, omega (arith, m)); reads = e }
