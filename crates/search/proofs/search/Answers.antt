-- `search` meets its contract: 18, 12, then the numbers. Assumes nothing.
use mathlib.Core.Path.{sym, ◌∙◌}
use Rattle.register.proofs.Calls.{is_map, no_map}
use Rattle.search.proofs.Steps.{search_bad, search_long}
use Rattle.search.proofs.search.Goals as goal

pub returns-then-not-is_register : goal.returns-then-not-is_register
returns-then-not-is_register c = rw c.at.ensures (sym (search_bad _ _ _ _ (no_map _ (sym c.if-not-is_register.true ∙ c.is_register.ensures))))

pub returns-then-label-gt-LABEL_LIMIT : goal.returns-then-label-gt-LABEL_LIMIT
returns-then-label-gt-LABEL_LIMIT c =
    let (m, e) = is_map _ (sym c.if-not-is_register.false ∙ c.is_register.ensures) in
    rw c.at-then-label-gt-LABEL_LIMIT.ensures (sym (search_long _ _ _ _ m e c.if-label-gt-LABEL_LIMIT.true))

pub search_numbers-requires : goal.search_numbers-requires
search_numbers-requires c =
    let (m, e) = is_map _ (sym c.if-not-is_register.false ∙ c.is_register.ensures) in
    record { map = m; means = e; short = c.if-label-gt-LABEL_LIMIT.false }

pub returns : goal.returns
returns c = c.search_numbers.ensures
