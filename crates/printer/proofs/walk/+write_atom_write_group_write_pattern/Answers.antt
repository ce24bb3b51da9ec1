-- The proof of the cycle of calls {write_atom, write_group, write_pattern}. The atoms left fall: an atom calls the branches from the next atom on, a group a branch at the same place or further on, and so a pattern an atom.
use native.Mathlib.Omega.{arith}
use Rattle.pattern.proofs.KindBytes.{kind_byte}
use Rattle.pattern.specs.declared.kind.Kind.TheVariants.{Codes, Literal, Group}
use Rattle.atoms.proofs.Views.{group_of}
use Rattle.printer.proofs.Walking.{pattern_start, pattern_atom, pattern_end, pattern_next, group_start, group_pattern, group_end, comma_room, group_next, count_room, letters_room, letters_post, literal_room, literal_post, open_room, inner_pre, close_room, group_post}
use Rattle.printer.proofs.walk.+write_atom_write_group_write_pattern.Goals as goal

pub write_atom-count-at-requires : goal.write_atom-count-at-requires
write_atom-count-at-requires t c = count_room c.requires

pub write_atom-letters-requires : goal.write_atom-letters-requires
write_atom-letters-requires t c = letters_room c.requires c.count-at.ensures (kind_byte c.args.r.kind Codes cc)

pub write_atom-returns-in-Some-Codes : goal.write_atom-returns-in-Some-Codes
write_atom-returns-in-Some-Codes t c = letters_post c.requires c.count-at.ensures (kind_byte c.args.r.kind Codes cc) c.letters.ensures

pub write_atom-literal_at-v-requires : goal.write_atom-literal_at-v-requires
write_atom-literal_at-v-requires t c = c.requires.got.is_literal (kind_byte c.args.r.kind Literal cc)

pub write_atom-literal-requires : goal.write_atom-literal-requires
write_atom-literal-requires t c = literal_room c.requires c.count-at.ensures (kind_byte c.args.r.kind Literal cc) c.literal_at-v.ensures

pub write_atom-returns-in-Some-Literal : goal.write_atom-returns-in-Some-Literal
write_atom-returns-in-Some-Literal t c = literal_post c.requires c.count-at.ensures (kind_byte c.args.r.kind Literal cc) c.literal_at-v.ensures c.literal.ensures

pub write_atom-put-at-requires : goal.write_atom-put-at-requires
write_atom-put-at-requires t c = open_room c.requires c.count-at.ensures (group_of c.requires.got (kind_byte c.args.r.kind Group cc))

pub write_atom-write_group-next-requires : goal.write_atom-write_group-next-requires
write_atom-write_group-next-requires t c = (omega (arith, c.requires.atom.there, c.decreases), inner_pre c.requires c.count-at.ensures (group_of c.requires.got (kind_byte c.args.r.kind Group cc)) c.put-at.ensures)

pub write_atom-put-at-requires-in-Some-Group : goal.write_atom-put-at-requires-in-Some-Group
write_atom-put-at-requires-in-Some-Group t c = close_room c.requires c.count-at.ensures (group_of c.requires.got (kind_byte c.args.r.kind Group cc)) c.put-at.ensures c.write_group-next.ensures

pub write_atom-returns-in-Some-Group : goal.write_atom-returns-in-Some-Group
write_atom-returns-in-Some-Group t c = group_post c.requires c.count-at.ensures (group_of c.requires.got (kind_byte c.args.r.kind Group cc)) c.put-at.ensures c.write_group-next.ensures c.put-at-in-Some-Group.ensures

pub write_group-loop-init : goal.write_group-loop-init
write_group-loop-init t c = group_start _ _

pub write_group-write_pattern-next-requires : goal.write_group-write_pattern-next-requires
write_group-write_pattern-next-requires t c = (omega (arith, c.loop.invariant.on, c.decreases), group_pattern c.requires c.loop.invariant)

pub write_group-put-requires : goal.write_group-put-requires
write_group-put-requires t c = comma_room c.requires c.loop.invariant c.write_pattern-next.ensures (λ e. omega arith)

pub write_group-loop-preserved : goal.write_group-loop-preserved
write_group-loop-preserved t c = group_next c.requires c.loop.invariant c.write_pattern-next.ensures (λ e. omega arith) c.put.ensures (omega arith)

pub write_group-write_pattern-requires : goal.write_group-write_pattern-requires
write_group-write_pattern-requires t c = (omega (arith, c.loop.invariant.on, c.decreases), group_pattern c.requires c.loop.invariant)

pub write_group-returns : goal.write_group-returns
write_group-returns t c = group_end c.requires c.loop.invariant c.write_pattern.ensures (omega arith)

pub write_pattern-loop-next-init : goal.write_pattern-loop-next-init
write_pattern-loop-next-init t c = pattern_start _ c.requires

pub write_pattern-write_atom-next-requires : goal.write_pattern-write_atom-next-requires
write_pattern-write_atom-next-requires t c = (omega (arith, c.loop-next.invariant.on, c.decreases), pattern_atom c.requires c.loop-next.invariant c.record_at-r.ensures)

pub write_pattern-returns-then-r-eq1 : goal.write_pattern-returns-then-r-eq1
write_pattern-returns-then-r-eq1 t c = pattern_end c.requires c.loop-next.invariant c.write_atom-next.ensures c.record_at-r.ensures c.if-r-eq1.true

pub write_pattern-loop-next-preserved : goal.write_pattern-loop-next-preserved
write_pattern-loop-next-preserved t c = pattern_next c.requires c.loop-next.invariant c.write_atom-next.ensures c.record_at-r.ensures c.if-r-eq1.false
