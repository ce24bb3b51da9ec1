-- `write_summary` meets its contract. Assumes nothing.
use mathlib.Core.Path.{sym, ap, subst, ◌∙◌}
use native.Mathlib.Omega.{arith}
use Rattle.pattern.specs.Bytes.{Bytes, overwrite}
use Rattle.pattern.specs.Decode.{tree_of}
use Rattle.atoms.specs.Atoms.{GoodTable, atoms}
use Rattle.summary.specs.Summary.{summary_of, summary_bytes}
use Rattle.summary.proofs.SettledRows.{header_there}
use Rattle.summary.proofs.Packings.{packed_capped}
use Rattle.summary.proofs.SummaryBytes.{bytes_law}
use Rattle.summary.proofs.write_summary.Goals as goal

pub of-requires : goal.of-requires
of-requires c = header_there {s₀ = c.args.rows.now} (record { good = c.requires.good; room = omega (arith, c.requires.count, c.requires.room) })

pub settle_all-m-requires : goal.settle_all-m-requires
settle_all-m-requires c =
    let p = c.requires in
    let e = ap atoms c.of.ensures in
    record { room = record { good = subst GoodTable (sym c.of.ensures) p.good; room = omega (arith, e, p.count, p.room) }; count = p.count ∙ sym e }

pub write-requires : goal.write-requires
write-requires c = record { capped = packed_capped _ _ c.settle_all-m.ensures; room = c.requires.outs }

pub returns : goal.returns
returns c =
    c.write.ensures ∙ ap (λ (v : Bytes). overwrite v c.args.out.now) (bytes_law _ _ c.settle_all-m.ensures)
    ∙ ap (λ (v : Bytes). overwrite (summary_bytes (summary_of (tree_of v))) c.args.out.now) c.of.ensures
