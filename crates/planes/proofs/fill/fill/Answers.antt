-- `planes::fill::fill` meets its contract: each test says what the content says. Assumes nothing.
use mathlib.Core.Path.{◌≡◌, sym, ◌∙◌}
use mathlib.Core.Bool.{true}
use Prim.Native.Nat.{◌+◌, ◌≤◌}
use native.Mathlib.Omega.{arith}
use lib.ListN.{length, get_or}
use lib.Seq.{slice}
use Rattle.std.proofs.Common.{rules}
use Rattle.pattern.specs.Bytes.{equal}
use Rattle.pattern.specs.Codes.{in_set}
use Rattle.planes.proofs.Filling.{value_empty, value_codes, value_literal, literal_in, fill_told}
use Rattle.planes.proofs.fill.fill.Goals as goal

pub fill_stretches-requires-in-Literal : goal.fill_stretches-requires-in-Literal
fill_stretches-requires-in-Literal c =
    let p = c.requires in
    let inside : c.in-Literal.from + c.in-Literal.len ≤ length c.args.table.now = literal_in _ _ _ (rw c.in-Literal.is at p.fit) in
    record { wide = omega (arith, p.wide); into = p.into; asked = λ i l. let h : i + c.in-Literal.len ≤ length c.args.label.now = omega (arith, p.wide) in search rules }

pub returns-in-Empty : goal.returns-in-Empty
returns-in-Empty c =
    rw c.in-Empty.is
    (fill_told _ _ _ _ _ _ (rw c.in-Empty.is at c.requires) _ _ c.fill_stretches.ensures (λ i b l p. let x : b ≡ true = search rules in x ∙ sym (value_empty c.args.table.now c.args.label.now i)))

pub returns-in-Codes : goal.returns-in-Codes
returns-in-Codes c =
    rw c.in-Codes.is
    (fill_told _ _ _ _ _ _ (rw c.in-Codes.is at c.requires) _ _ c.fill_stretches-in-Codes.ensures (λ i b l p. let x : b ≡ in_set c.in-Codes.set (get_or c.args.label.now i 0) = search rules in x ∙ sym (value_codes c.args.table.now c.args.label.now i _ l)))

pub returns-in-Literal : goal.returns-in-Literal
returns-in-Literal c =
    let from = c.in-Literal.from in
    let len = c.in-Literal.len in
    rw c.in-Literal.is
    (fill_told _ _ _ _ _ _ (rw c.in-Literal.is at c.requires) _ _ c.fill_stretches-in-Literal.ensures (λ i b l p. let x : b ≡ equal (slice i (i + len) c.args.label.now) (slice from (from + len) c.args.table.now) = search rules in x ∙ sym (value_literal c.args.table.now c.args.label.now i from len)))
