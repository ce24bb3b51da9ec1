-- `header::is_marked` meets its contract, version by version. Assumes nothing.
use mathlib.Core.Path.{sym, ap₂, ap, ◌∙◌}
use mathlib.Core.Bool.{◌||◌}
use Rattle.std.specs.Prelude.{take}
use Rattle.pattern.specs.Numbers.{atoms_place}
use Rattle.pattern.specs.Versions.{v1, v2}
use Rattle.pattern.specs.Bytes.{equal}
use Rattle.table.specs.Headers.{first_bytes, marked}
use Rattle.table.proofs.Measures.{begins_as}
use Rattle.table.proofs.header.is_marked.Goals as goal

pub returns-then-starts_with : goal.returns-then-starts_with
unfolding marked
returns-then-starts_with c =
    c.if-starts_with.true ∙ ap (λ x. x || equal (take atoms_place c.args.table.now) (first_bytes v1)) (sym c.if-starts_with.true ∙ begins_as c.args.table.now _ v2 _ c.first_bytes.ensures c.starts_with.ensures.value)

pub returns-else-starts_with : goal.returns-else-starts_with
unfolding marked
returns-else-starts_with c =
    ap₂ (λ x y. x || y) (sym c.if-starts_with.false ∙ begins_as c.args.table.now _ v2 _ c.first_bytes.ensures c.starts_with.ensures.value)
    (begins_as c.args.table.now _ v1 _ c.first_bytes-else-starts_with.ensures c.starts_with-else-starts_with.ensures.value)
