-- `Payload::leaf_at` meets its contract, kind by kind. Assumes nothing.
use mathlib.Core.Path.{sym, ap, ◌∙◌}
use native.Mathlib.Omega.{arith}
use Rattle.std.specs.Prelude.{Some}
use Rattle.pattern.proofs.KindBytes.{kind_byte, kind_none}
use Rattle.pattern.specs.declared.kind.Kind.TheVariants.{Codes, Literal, Group}
use Rattle.table.proofs.Leafing.{leaf_one, leaf_two, leaf_other}
use Rattle.table.proofs.walk.Payload.leaf_at.Goals as goal

pub returns-in-Codes : goal.returns-in-Codes
returns-in-Codes c =
    let a = c.args in
    let k = kind_byte a.r.kind Codes (sym c.kind.ensures ∙ c.in_ok-kind.was ∙ ap Some c.in-Codes.is) in
    record { short = c.codes_leaf.ensures.short; reads = c.codes_leaf.ensures.reads ∙ leaf_one a.self.bytes.now a.self.atoms a.r.kind a.r.a a.r.b a.p k }

pub returns-in-Literal : goal.returns-in-Literal
returns-in-Literal c =
    let a = c.args in
    let k = kind_byte a.r.kind Literal (sym c.kind.ensures ∙ c.in_ok-kind.was ∙ ap Some c.in-Literal.is) in
    record { short = c.text_leaf.ensures.short; reads = c.text_leaf.ensures.reads ∙ leaf_two a.self.bytes.now a.self.atoms a.r.kind a.r.a a.r.b a.p (λ z. omega arith) k }

pub returns-in-Group : goal.returns-in-Group
returns-in-Group c =
    let a = c.args in
    let k = kind_byte a.r.kind Group (sym c.kind.ensures ∙ c.in_ok-kind.was ∙ ap Some c.in-Group.is) in
    record { short = tt; reads = leaf_other a.self.bytes.now a.self.atoms a.r.kind a.r.a a.r.b a.p (λ z. omega arith) (λ z. omega arith) }

pub returns-in_err-kind : goal.returns-in_err-kind
returns-in_err-kind c =
    let a = c.args in
    let none = sym c.kind.ensures ∙ c.in_err-kind.was in
    rw c.from_residual.ensures
    (record { short = tt; reads = leaf_other a.self.bytes.now a.self.atoms a.r.kind a.r.a a.r.b a.p (kind_none a.r.kind Codes none) (kind_none a.r.kind Literal none) })
