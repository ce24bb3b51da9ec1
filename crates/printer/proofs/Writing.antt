-- What writing back answers, by what the test of the table says. Assumes nothing.
use mathlib.Core.Path.{◌≡◌, sym, ap, ◌∙◌}
use Rattle.std.specs.Prelude.{None, Ok, Err}
use Prim.Native.Nat.{ℕ, ◌<◌, ◌≤◌}
use native.Mathlib.Omega.{arith}
use lib.ListN.{length}
use Rattle.pattern.specs.Bytes.{Bytes, overwrite}
use Rattle.pattern.specs.Syntax.{pattern, Syntax}
use Rattle.pattern.specs.Print.{print}
use Rattle.pattern.specs.Stores.{Puts}
use Rattle.pattern.specs.Decode.{tree_of, decode}
use Rattle.pattern.specs.Answers.{result, written_back, write_of}
use Rattle.pattern.proofs.RoundTrip.{some_pattern}
use Rattle.pattern.proofs.Stores.{puts_as, store_at_overwrite}
use Rattle.pattern.proofs.Calls.{put_fits, put_short}
use Rattle.table.specs.Tested.{tested}
use Rattle.table.specs.declared.Sizes.{Sizes}
use Rattle.std.specs.Prelude.{None}
use Rattle.atoms.specs.Atoms.{node}
use Rattle.atoms.proofs.Goods.{GoodSizes, tested_bad}
use Rattle.atoms.proofs.Views.{node_first}
use Rattle.printer.specs.Walk.{WritePatternPre, WritePost}
use Rattle.printer.specs.Outputs.{answer_of, output_of}
use Rattle.pattern.specs.declared.refusal.Refusal.TheVariants as refusals
use Rattle.printer.specs.declared.walk.Progress.{Progress}

pub table_written : (table source : Bytes) → None ≡ tested (decode table) → output_of (Err refusals.Table) source ≡ write_of table source
unfolding write_of written_back answer_of
table_written table source e = sym (ap (λ o. written_back o source) (tested_bad table e))

-- ---- a good table

module _ {table : Bytes} {x : Sizes} (g : GoodSizes table x) (source : Bytes) where
  abbrev text : Bytes
  text = print (tree_of table)

  pub room_written : length source < x.source → output_of (Err refusals.Room) source ≡ write_of table source
  unfolding write_of written_back answer_of
  room_written h = sym (ap (λ o. written_back o source) g.good.decoded ∙ put_short 0 text source (omega (arith, h, g.source_is)))

  whole : print (node table 0) ≡ text
  whole = ap (λ (t : Syntax pattern). print t) (node_first table)

  module _ (h : x.source ≤ length source) where
    pub start_pre : WritePatternPre table source (record { atom = 0; at = 0 })
    start_pre = record { atom = record { good = g.good; there = some_pattern (tree_of table) }; room = omega (arith, h, g.source_is, ap length whole) }

    module _ {y : ℕ} {r : Progress} {source' : Bytes} (w : WritePost (print (node table 0)) y source 0 r source') where
      puts : Puts source 0 text source' r.at
      puts = puts_as w.puts whole

      pub length_written : output_of (Ok x.source) source' ≡ write_of table source
      unfolding write_of written_back answer_of
      length_written =
          let k : length text ≤ length source = omega (arith, h, g.source_is) in
          let e : source' ≡ overwrite text source = puts.bytes ∙ store_at_overwrite source text k in
          let q : output_of (Ok x.source) source' ≡ record { answer = result (length text) 0; bytes = overwrite text source } =
          λ j. record { answer = result (g.source_is j) 0; bytes = e j } in
          q ∙ sym (ap (λ o. written_back o source) g.good.decoded ∙ put_fits 0 text source k)
