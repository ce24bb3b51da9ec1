-- `look::is_match` meets its contract: a verdict is all that can come. Assumes nothing.
use borrow.Author.Rules.{rules}
use Rattle.search.proofs.Looking.{matched}
use Rattle.search.proofs.look.is_match.Goals as goal

pub returns : goal.returns
returns c = matched c.requires c.match_label.result c.is_ok_and.result _ _ c.match_label.ensures (search rules)
