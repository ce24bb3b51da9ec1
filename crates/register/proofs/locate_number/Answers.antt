-- `locate_number` meets its contract. Assumes nothing.
use Rattle.register.proofs.locate_number.Goals as goal

pub returns : goal.returns
returns c = rw c.from.ensures at c.locate.ensures
