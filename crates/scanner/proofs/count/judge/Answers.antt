-- `count::judge` meets its contract. Assumes nothing.
use mathlib.Core.Path.{refl, sym, ◌∙◌}
use borrow.Author.Tests.{lt-ltb, le-ltb, le-leb, lt-leb}
use Rattle.scanner.specs.Counts.{judged, within_atoms}
use Rattle.scanner.proofs.Counts.{count_swapped}
use Rattle.scanner.proofs.count.judge.Goals.{in-Ok-Some-2, in-Err}
use Rattle.scanner.proofs.count.judge.Goals as goal

pub returns-in-Ok-None : goal.returns-in-Ok-None
unfolding judged
returns-in-Ok-None c = rw (c.at.ensures, c.in-Ok-None.is, rw c.in-Ok-None.is at c.in-Ok-None.field-0-is) refl

pub returns-in-Ok-Some : goal.returns-in-Ok-Some
unfolding judged
returns-in-Ok-Some c =
    rw (c.at-in-Ok-Some.ensures, c.in-Ok-Some.is, rw c.in-Ok-Some.is at c.in-Ok-Some.field-0-is) (simp (lt-ltb _ _ c.if-rep.true))

pub returns-then-n-ge-ATOM_LIMIT : goal.returns-then-n-ge-ATOM_LIMIT
unfolding judged within_atoms
returns-then-n-ge-ATOM_LIMIT c =
    rw c.at-then-n-ge-ATOM_LIMIT.ensures (elim c.match-read.branch [
      | in-Ok-Some-2 w ↦ rw (w.in-Ok-Some.is, rw w.in-Ok-Some.is at w.in-Ok-Some.field-0-is) (simp (le-ltb _ _ w.if-rep.false, le-leb _ _ c.if-n-ge-ATOM_LIMIT.true))
      | in-Err w ↦ rw w.in-Err.is (simp (le-leb _ _ c.if-n-ge-ATOM_LIMIT.true))
    ])

pub returns : goal.returns
unfolding judged within_atoms
returns c =
    elim c.match-read.branch [
      | in-Ok-Some-2 w ↦
          let e = rw w.in-Ok-Some-2.is at w.in-Ok-Some.field-0-is in
          let f = rw w.in-Ok-Some-2.is at w.in-Ok-Some-2.field-0-is in
          rw (w.found-is, w.in-Ok-Some-2.is, e) (simp (le-ltb _ _ w.if-rep.false, lt-leb _ _ c.if-n-ge-ATOM_LIMIT.false) (count_swapped (sym f ∙ e)))
      | in-Err w ↦ rw (w.found-is, w.at-in-Err.ensures, w.in-Err.is) (simp (lt-leb _ _ c.if-n-ge-ATOM_LIMIT.false))
    ]
