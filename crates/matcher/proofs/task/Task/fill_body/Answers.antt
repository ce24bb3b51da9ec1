-- `Task::fill_body` meets its contract: codes, a literal, a group. Assumes nothing.
use Rattle.pattern.proofs.KindBytes.{kind_byte}
use Rattle.pattern.specs.declared.kind.Kind.TheVariants.{Codes, Literal, Group}
use Rattle.planes.specs.Fill.{Fit}
use Rattle.atoms.proofs.Views.{group_of}
use Rattle.matcher.proofs.Groups.{body_fill, body_codes, body_literal}
use Rattle.matcher.proofs.task.Task.fill_body.Goals as goal

pub fill-requires : goal.fill-requires
unfolding Fit
fill-requires c = body_fill _ _ _ _ _ _ c.requires _ tt

pub returns-in-Some-Codes : goal.returns-in-Some-Codes
returns-in-Some-Codes c =
    body_codes _ _ _ _ _ _ c.requires c.record_at-r.ensures (kind_byte c.record_at-r.result.kind Codes cc) c.fill.ensures

pub literal_at-v-requires : goal.literal_at-v-requires
literal_at-v-requires c = c.record_at-r.ensures.is_literal (kind_byte c.record_at-r.result.kind Literal cc)

pub fill-requires-in-Some-Literal : goal.fill-requires-in-Some-Literal
unfolding Fit
fill-requires-in-Some-Literal c = body_fill _ _ _ _ _ _ c.requires _ c.literal_at-v.ensures.within

pub returns-in-Some-Literal : goal.returns-in-Some-Literal
returns-in-Some-Literal c =
    body_literal _ _ _ _ _ _ c.requires c.literal_at-v.ensures c.fill-in-Some-Literal.ensures

pub union_branches-requires : goal.union_branches-requires
union_branches-requires c =
    record { body = c.requires; group = group_of c.record_at-r.ensures (kind_byte c.record_at-r.result.kind Group cc) }
