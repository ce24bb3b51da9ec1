-- `lengths::text_length` meets its contract: the bytes passed are plain, and the count is that of their doubled bytes. Assumes nothing.
use native.Mathlib.Omega.{arith}
use Rattle.table.proofs.Measures.{text_low, text_high, text_on, text_end, quote_on, other_on}
use Rattle.table.proofs.lengths.text_length.Goals as goal
use Rattle.table.proofs.lengths.text_length.Goals.{in-34, in-32-to-126}

pub returns-in_default : goal.returns-in_default
returns-in_default c = text_low c.args.v.now c.loop-b.b-index (omega arith) c.loop-b.invariant.plain (omega arith)

pub returns-in_default-2 : goal.returns-in_default-2
returns-in_default-2 c = text_high c.args.v.now c.loop-b.b-index (omega arith) c.loop-b.invariant.plain (omega arith) (omega arith)

pub loop-b-preserved : goal.loop-b-preserved
loop-b-preserved c =
    let v = c.args.v.now in
    let l = c.loop-b in
    elim c.match-b.branch [
      | in-34 w ↦ let q = quote_on v l.b-index (omega arith) (omega arith) in record { few = omega arith; plain = text_on v l.b-index (omega arith) l.invariant.plain (omega arith) (omega arith); length_is = omega (arith, q) }
      | in-32-to-126 w ↦ let q = other_on v l.b-index (omega arith) (λ z. omega arith) in record { few = omega arith; plain = text_on v l.b-index (omega arith) l.invariant.plain (omega arith) (omega arith); length_is = omega (arith, q) }
    ]

pub returns : goal.returns
returns c = text_end c.args.v.now _ _ (omega arith) c.loop-b.invariant.plain c.loop-b.invariant.length_is
