-- `Task::write_parts` meets its contract: the invariant is `PartsAt`. Assumes nothing.
use mathlib.Core.Path.{ap}
use native.Mathlib.Omega.{arith}
use lib.ListN.{length}
use Rattle.pattern.proofs.RoundTrip.{some_atom}
use Rattle.atoms.specs.Atoms.{node, head}
use Rattle.stores.proofs.Little.{puts_two}
use Rattle.matcher.proofs.Ends.{parts_start, parts_lent, parts_end, parts_next, parts_left, parts_right, parts_in, parts_step}
use Rattle.matcher.proofs.task.Task.write_parts.Goals as goal

pub loop-parts-init : goal.loop-parts-init
loop-parts-init c = parts_start _ _ _ _ _ c.requires

pub put-requires : goal.put-requires
put-requires c = omega (arith, parts_lent _ _ _ _ _ c.requires _ _ _ _ c.loop-parts.invariant, ap length c.to_le_bytes.ensures)

pub returns-then-record_at-eq1 : goal.returns-then-record_at-eq1
returns-then-record_at-eq1 c =
    parts_end _ _ _ _ _ c.requires _ _ _ _ c.loop-parts.invariant _ c.record_at.ensures c.if-record_at-eq1.true _ _
    (puts_two c.put.ensures (length c.args.self.now.label.now) (omega (arith, c.requires.work.short)) c.to_le_bytes.ensures)

pub last_end-i-requires : goal.last_end-i-requires
last_end-i-requires c =
    let p = c.requires in
    let l = c.loop-parts in
    record {
      start = l.invariant.inner;
      end = omega (arith, p.work.wide);
      left = parts_left _ _ _ _ _ p _ _ _ _ l.invariant _ c.record_at.ensures c.if-record_at-eq1.false _ c.next_atom-next.ensures;
      right = parts_right _ _ _ _ _ p _ _ _ _ l.invariant _ c.record_at.ensures c.if-record_at-eq1.false _ c.next_atom-next.ensures;
    }

pub overflow_cast-i : goal.overflow_cast-i
overflow_cast-i c =
    let p = c.requires in
    omega (arith, p.work.short, parts_in _ _ _ _ _ p _ _ _ _ c.loop-parts.invariant _ c.record_at.ensures c.if-record_at-eq1.false _ c.next_atom-next.ensures _ c.last_end-i.ensures)

pub put-at-requires : goal.put-at-requires
put-at-requires c = omega (arith, parts_lent _ _ _ _ _ c.requires _ _ _ _ c.loop-parts.invariant, ap length c.to_le_bytes-in-loop-parts.ensures)

pub loop-parts-smaller : goal.loop-parts-smaller
loop-parts-smaller c =
    let n = parts_next _ _ _ _ _ c.requires _ _ _ _ c.loop-parts.invariant _ c.record_at.ensures c.if-record_at-eq1.false _ c.next_atom-next.ensures in
    omega (arith, n, c.next_atom-next.ensures, some_atom (head (node c.args.self.now.table.now c.loop-parts.x)))

pub loop-parts-preserved : goal.loop-parts-preserved
loop-parts-preserved c =
    parts_step _ _ _ _ _ c.requires _ _ _ _ c.loop-parts.invariant _ c.record_at.ensures c.if-record_at-eq1.false _ c.next_atom-next.ensures _ c.last_end-i.ensures _ _
    (puts_two c.put-at.ensures c.last_end-i.result (let p = c.requires in omega (arith, p.work.short, parts_in _ _ _ _ _ p _ _ _ _ c.loop-parts.invariant _ c.record_at.ensures c.if-record_at-eq1.false _ c.next_atom-next.ensures _ c.last_end-i.ensures)) c.to_le_bytes-in-loop-parts.ensures)
