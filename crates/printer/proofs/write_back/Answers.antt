-- `write_back` meets its contract: each answer is what the test says of the table. Assumes nothing.
use Rattle.atoms.proofs.Goods.{tested_good}
use Rattle.printer.proofs.Writing.{table_written, room_written, start_pre, length_written}
use Rattle.printer.proofs.write_back.Goals as goal

pub returns-then-source-good : goal.returns-then-source-good
returns-then-source-good c = room_written (tested_good _ _ c.in-Some.ensures.sizes) c.args.source.now c.if-source-good.true

pub write_pattern-requires : goal.write_pattern-requires
write_pattern-requires c = start_pre (tested_good _ _ c.in-Some.ensures.sizes) c.args.source.now c.if-source-good.false

pub returns : goal.returns
returns c = length_written (tested_good _ _ c.in-Some.ensures.sizes) c.args.source.now c.if-source-good.false c.write_pattern.ensures

pub returns-in_default : goal.returns-in_default
returns-in_default c = table_written c.args.table.now c.args.source.now (rw c.in_default.is at c.test.ensures.sizes)
