-- `Records::settle` meets its contract. Assumes nothing.
use Rattle.summary.proofs.SettledRows.{row_in, settled_more}
use Rattle.summary.proofs.settle.Records.settle.Goals as goal

pub atom-m-requires : goal.atom-m-requires
atom-m-requires c = c.requires

pub bounds-rows-x : goal.bounds-rows-x
bounds-rows-x c = row_in c.requires.settling _ c.requires.settling.there

pub returns : goal.returns
returns c = record {
  settled = settled_more (row_in c.requires.settling _ c.requires.settling.there) c.atom-m.ensures c.requires.settling.after;
  next = record { is = λ h. c.atom-m.ensures };
}
