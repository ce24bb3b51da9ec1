-- `Records::atom` meets its contract: the atom as often as its count says, and then its followers. Assumes nothing.
use mathlib.Core.Path.{sym}
use native.Mathlib.Omega.{arith}
use borrow.Author.Tests.{eqb-true, eqb-false}
use Rattle.summary.proofs.Packings.{packed_capped}
use Rattle.summary.proofs.SettledRows.{row_in, record_there, record_got, atom_packed, last_packed, leaf_next, next_there, next_row, then_packed}
use Rattle.summary.proofs.settle.Records.atom.Goals as goal

pub record_at-r-requires : goal.record_at-r-requires
record_at-r-requires c = record_there c.requires.settling c.args.self.read

pub body-inner-requires : goal.body-inner-requires
body-inner-requires c = record { settling = c.requires.settling; fields = record_got c.requires.settling c.args.self.read _ c.record_at-r.ensures }

pub repeated-own-requires : goal.repeated-own-requires
repeated-own-requires c = packed_capped _ _ c.body-inner.ensures

pub returns-then-r-eq1 : goal.returns-then-r-eq1
returns-then-r-eq1 c =
    let got = record_got c.requires.settling c.args.self.read _ c.record_at-r.ensures in
    let own = atom_packed got _ _ c.body-inner.ensures c.repeated-own.ensures in
    last_packed got _ own c.if-r-eq1.true

pub next_atom-requires : goal.next_atom-requires
next_atom-requires c = record { good = c.requires.settling.room.good; there = c.requires.settling.there }

pub both-requires : goal.both-requires
both-requires c =
    let got = record_got c.requires.settling c.args.self.read _ c.record_at-r.ensures in
    let own = atom_packed got _ _ c.body-inner.ensures c.repeated-own.ensures in
    record { capped = packed_capped _ _ own; next_capped = packed_capped _ _ (next_row c.requires.settling got c.if-r-eq1.false _ c.next_atom.ensures) }

pub returns-then-own-eq0 : goal.returns-then-own-eq0
returns-then-own-eq0 c =
    let got = record_got c.requires.settling c.args.self.read _ c.record_at-r.ensures in
    let own = atom_packed got _ _ c.body-inner.ensures c.repeated-own.ensures in
    then_packed got c.if-r-eq1.false _ c.next_atom.ensures _ _ _ own (next_row c.requires.settling got c.if-r-eq1.false _ c.next_atom.ensures) c.both.ensures

pub both-requires-then-is_group : goal.both-requires-then-is_group
both-requires-then-is_group c =
    let got = record_got c.requires.settling c.args.self.read _ c.record_at-r.ensures in
    let own = atom_packed got _ _ c.body-inner.ensures c.repeated-own.ensures in
    record { capped = packed_capped _ _ own; next_capped = packed_capped _ _ (next_row c.requires.settling got c.if-r-eq1.false _ (got.next_group (eqb-true _ _ (sym c.if-is_group.ensures)))) }

pub returns-then-is_group : goal.returns-then-is_group
returns-then-is_group c =
    let got = record_got c.requires.settling c.args.self.read _ c.record_at-r.ensures in
    let own = atom_packed got _ _ c.body-inner.ensures c.repeated-own.ensures in
    then_packed got c.if-r-eq1.false _ (got.next_group (eqb-true _ _ (sym c.if-is_group.ensures))) _ _ _ own
    (next_row c.requires.settling got c.if-r-eq1.false _ (got.next_group (eqb-true _ _ (sym c.if-is_group.ensures)))) c.both-then-is_group.ensures

pub both-requires-2 : goal.both-requires-2
both-requires-2 c =
    let got = record_got c.requires.settling c.args.self.read _ c.record_at-r.ensures in
    let own = atom_packed got _ _ c.body-inner.ensures c.repeated-own.ensures in
    record { capped = packed_capped _ _ own; next_capped = packed_capped _ _ (c.requires.next.is (next_there got c.if-r-eq1.false _ (leaf_next got (eqb-false _ _ (sym c.if-is_group.ensures))))) }

pub returns : goal.returns
returns c =
    let got = record_got c.requires.settling c.args.self.read _ c.record_at-r.ensures in
    let own = atom_packed got _ _ c.body-inner.ensures c.repeated-own.ensures in
    let after = leaf_next got (eqb-false _ _ (sym c.if-is_group.ensures)) in
    then_packed got c.if-r-eq1.false _ after _ _ _ own (c.requires.next.is (next_there got c.if-r-eq1.false _ after)) c.both-2.ensures

pub bounds-rows-next_atom : goal.bounds-rows-next_atom
bounds-rows-next_atom c =
    let got = record_got c.requires.settling c.args.self.read _ c.record_at-r.ensures in
    row_in c.requires.settling _ (next_there got c.if-r-eq1.false _ c.next_atom.ensures)

pub bounds-rows-r : goal.bounds-rows-r
bounds-rows-r c =
    let got = record_got c.requires.settling c.args.self.read _ c.record_at-r.ensures in
    row_in c.requires.settling _ (next_there got c.if-r-eq1.false _ (got.next_group (eqb-true _ _ (sym c.if-is_group.ensures))))

pub offset_bounds-rows-next_atom : goal.offset_bounds-rows-next_atom
offset_bounds-rows-next_atom c =
    let got = record_got c.requires.settling c.args.self.read _ c.record_at-r.ensures in
    omega (arith, row_in c.requires.settling _ (next_there got c.if-r-eq1.false _ c.next_atom.ensures))
