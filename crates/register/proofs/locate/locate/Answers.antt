-- `locate::locate` meets its contract: the numbers below k, k itself, and those above it. Assumes nothing.
use native.Mathlib.Omega.{arith}
use Rattle.register.proofs.Locating.{no_tables, more_tables, tables_within, locate_short, locate_bad, locate_at}
use Rattle.register.proofs.locate.locate.Goals as goal

pub pass_tables-requires : goal.pass_tables-requires
pass_tables-requires c = let pre = c.requires in record { few = omega (arith, pre.0); long = c.if-section-lt-DIRECTORY_SIZE.false; inside = c.if-section-lt-DIRECTORY_SIZE.false; room = pre.1 }

pub returns-in_err-start : goal.returns-in_err-start
returns-in_err-start c = rw c.from_residual.ensures (locate_bad _ _ c.if-section-lt-DIRECTORY_SIZE.false c.requires.0 (no_tables _) (omega arith) (omega (arith, c.requires.0)) c.in_err-start.ensures)

pub pass_tables-requires-2 : goal.pass_tables-requires-2
pass_tables-requires-2 c =
    let (m, below) = more_tables (no_tables _) (omega arith) _ c.in_ok-start.ensures in
    let pre = c.requires in
    let long = c.if-section-lt-DIRECTORY_SIZE.false in
    record { few = omega (arith, pre.0); long = long; inside = tables_within below long; room = omega (arith, pre.1, c.pass_tables.auto) }

pub returns-in_err-end : goal.returns-in_err-end
returns-in_err-end c =
    let (m, below) = more_tables (no_tables _) (omega arith) _ c.in_ok-start.ensures in
    rw c.from_residual-in_err-end.ensures (locate_bad _ _ c.if-section-lt-DIRECTORY_SIZE.false c.requires.0 below (omega arith) (omega (arith, c.requires.0)) c.in_err-end.ensures)

pub pass_tables-requires-3 : goal.pass_tables-requires-3
pass_tables-requires-3 c =
    let (m, below) = more_tables (no_tables _) (omega arith) _ c.in_ok-start.ensures in
    let (n, upto) = more_tables below (omega arith) _ c.in_ok-end.ensures in
    let long = c.if-section-lt-DIRECTORY_SIZE.false in
    record { few = omega arith; long = long; inside = tables_within upto long; room = omega (arith, c.requires.1, c.pass_tables-2.auto, c.pass_tables.auto) }

pub returns-in_err-used : goal.returns-in_err-used
returns-in_err-used c =
    let (m, below) = more_tables (no_tables _) (omega arith) _ c.in_ok-start.ensures in
    let (n, upto) = more_tables below (omega arith) _ c.in_ok-end.ensures in
    rw c.from_residual-in_err-used.ensures (locate_bad _ _ c.if-section-lt-DIRECTORY_SIZE.false c.requires.0 upto (omega (arith, c.requires.0)) (omega arith) c.in_err-used.ensures)

pub returns : goal.returns
returns c =
    let (m, below) = more_tables (no_tables _) (omega arith) _ c.in_ok-start.ensures in
    let (n, upto) = more_tables below (omega arith) _ c.in_ok-end.ensures in
    let (o, all) = more_tables upto (omega (arith, c.requires.0)) _ c.in_ok-used.ensures in
    locate_at _ _ c.if-section-lt-DIRECTORY_SIZE.false c.requires.0 n o below upto all

pub returns-then-section-lt-DIRECTORY_SIZE : goal.returns-then-section-lt-DIRECTORY_SIZE
returns-then-section-lt-DIRECTORY_SIZE c = locate_short _ _ c.if-section-lt-DIRECTORY_SIZE.true
