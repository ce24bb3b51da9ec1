-- `match_number` meets its contract: the refusals in order, and then the match against the number's table. Assumes nothing.
use mathlib.Core.Path.{sym, ◌∙◌}
use native.Mathlib.Omega.{arith}
use Rattle.pattern.specs.Answers.{ended}
use Rattle.register.proofs.Calls.{table_found, matched_none, matched_missing, matched_there}
use Rattle.register.proofs.match_number.Goals as goal

pub returns-then-at : goal.returns-then-at
unfolding ended
returns-then-at c = matched_missing (table_found c.in-Some.ensures.place (omega (arith, c.ranges))) _ _ _ _ c.if-at.true

pub returns-in_default : goal.returns-in_default
unfolding ended
returns-in_default c = matched_none _ _ (sym c.in_default.is ∙ c.find.ensures.place) _ _ _ _

pub returns : goal.returns
returns c = c.match_label.ensures ∙ matched_there (table_found c.in-Some.ensures.place (omega (arith, c.ranges))) _ _ _ _ c.if-at.false
