-- `put` meets its contract. Assumes nothing.
use Rattle.stores.proofs.Little.{puts_part}
use Rattle.stores.proofs.put.Goals as goal

pub returns : goal.returns
returns c = puts_part _ _ _ _ c.requires c.copy_from_slice.ensures.after
