-- `tokens::literal` meets its contract: a quote, the doubled value, a quote. Assumes nothing.
use Rattle.pattern.proofs.Stores.{puts_then}
use Rattle.printer.proofs.tokens.literal.Goals as goal

pub returns : goal.returns
returns c = puts_then (puts_then c.put-from.ensures c.doubled-to.ensures) c.put.ensures
