-- `reply::put_cut` meets its contract: the table of a short source fits in fewer bytes. Assumes nothing.
use Prim.Native.Nat.{ℕ}
use native.Mathlib.Omega.{arith}
use lib.ListN.{length-replicate}
use Rattle.pattern.specs.Versions.{table_room}
use Rattle.replies.proofs.Compiling.{all_fit, short_fits}
use Rattle.replies.proofs.reply.put_cut.Goals as goal

pub put_source-requires : goal.put_source-requires
put_source-requires c = record { fits = short_fits _ _ (omega (arith, c.if-source-le-SHORT_SOURCE.true, length-replicate {A = ℕ} 649 0)); small = omega arith; room = c.requires }

pub put_source-requires-2 : goal.put_source-requires-2
put_source-requires-2 c = record { fits = all_fit _ _ (omega (arith, length-replicate {A = ℕ} table_room 0)); small = omega arith; room = c.requires }

pub returns-then-source-le-SHORT_SOURCE : goal.returns-then-source-le-SHORT_SOURCE
returns-then-source-le-SHORT_SOURCE c = c.put_source.ensures

pub returns : goal.returns
returns c = c.put_source-2.ensures
