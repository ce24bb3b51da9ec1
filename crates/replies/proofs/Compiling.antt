-- The reply to a source and a label, by what compiling answers. Assumes nothing.
use mathlib.Core.Path.{◌≡◌, refl, sym, ap, ◌∙◌}
use Prim.Native.Nat.{ℕ, ◌+◌, ◌*◌, ◌≤◌}
use native.Mathlib.Omega.{arith}
use lib.ListN.{length, take, replicate, length-replicate}
use borrow.Author.Tests.{ne_eqb}
use Rattle.std.specs.Prelude.{Result, Ok, Err}
use Rattle.pattern.specs.Numbers.{record_size}
use Rattle.pattern.specs.Versions.{written_version, header_size, table_room}
use Rattle.pattern.specs.Bytes.{Bytes}
use Rattle.pattern.specs.Syntax.{pattern, Syntax}
use Rattle.pattern.specs.Scan.{Outcome, refused, accepted, outcome}
use Rattle.pattern.specs.Table.{encode}
use Rattle.pattern.specs.Answers.{Output, compiled, compile_of}
use Rattle.pattern.proofs.Tests.{if_false}
use Rattle.pattern.proofs.Stores.{take_overwrite}
use Rattle.pattern.proofs.Calls.{put_fits}
use Rattle.pattern.proofs.Rooms.{encode_fits, encode_short, compile_fits, compile_some}
use Rattle.pattern.specs.Refusals.{number_of}
use Rattle.pattern.specs.declared.refusal.Fault.{Fault}
use Rattle.replies.specs.Text.{refused_text}
use Rattle.replies.specs.Reply.{label_reply, table_reply, source_reply}
use Rattle.replies.specs.Rooms.{TableFits}
use Rattle.compiler.specs.Compiling.{answer_of}

-- lent bytes that suffice for every table, and for that of a short source
pub all_fit : (source lent : Bytes) → table_room ≤ length lent → TableFits source lent
all_fit source lent h = record { fits = λ t e. omega (arith, encode_fits source t e) }

pub short_fits : (source lent : Bytes) → header_size written_version + record_size * length source ≤ length lent → TableFits source lent
short_fits source lent h = record { fits = λ t e. omega (arith, encode_short source t e) }

-- where the table fits, the reply doesn't depend on what is lent
module _ (source label scratch lent : Bytes) (fit : TableFits source lent) where
  abbrev full : Bytes
  full = replicate table_room 0

  table_put : (t : Syntax pattern) → outcome source ≡ accepted t → (room : Bytes) → length (encode t) ≤ length room → table_reply (compiled (accepted t) source room) label scratch ≡ label_reply (encode t) label scratch
  unfolding table_reply compiled
  table_put t e room h =
      ap (λ o. table_reply o label scratch) (put_fits (length source) (encode t) room h) ∙ ap (λ b. label_reply b label scratch) (take_overwrite (encode t) room)

  compile_reply : table_reply (compile_of source lent) label scratch ≡ source_reply source label scratch
  unfolding source_reply compile_of
  compile_reply = go (outcome source) refl
    where
      go : (o : Outcome) → outcome source ≡ o → table_reply (compiled o source lent) label scratch ≡ table_reply (compiled o source full) label scratch
      go (refused f p) e = unfold table_reply compiled in refl
      go (accepted t) e = table_put t e lent (fit.fits t e) ∙ sym (table_put t e full (omega (arith, encode_fits source t e, length-replicate {A = ℕ} table_room 0)))

  -- what the compiling call answers
  module _ (table : Bytes) where
    abbrev compiles : Result ℕ Fault → Type 0
    compiles r = ◌≡◌ {A = Output} (record { answer = answer_of r; bytes = table }) (compile_of source lent)

    pub compiled_fits : (n : ℕ) → compiles (Ok n) → n ≤ length table
    compiled_fits n c = rw (ap (λ o. o.answer.value) c, ap (λ o. length o.bytes) c) (compile_fits source lent)

    pub table_reply_is : (n : ℕ) → compiles (Ok n) → label_reply (take n table) label scratch ≡ source_reply source label scratch
    unfolding table_reply
    table_reply_is n c = ap (λ o. table_reply o label scratch) c ∙ compile_reply

    pub refused_reply_is : (f : Fault) → compiles (Err f) → record { text = refused_text (number_of f.refusal) f.position; scratch = scratch } ≡ source_reply source label scratch
    unfolding table_reply
    refused_reply_is f c =
        let d : ¬ (number_of f.refusal ≡ 0) = λ z. let o = compile_some source lent (sym (ap (λ o. o.answer.number) c) ∙ z) in omega (arith, ap (λ o. o.answer.value) c) in
        sym (if_false _ _ _ (ne_eqb (number_of f.refusal) 0 d)) ∙ ap (λ o. table_reply o label scratch) c ∙ compile_reply
