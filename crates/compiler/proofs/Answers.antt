-- The answer of compiling. Assumes nothing.
use mathlib.Core.Path.{◌≡◌, refl, sym, ap, ap₂, ◌∙◌}
use mathlib.Core.Bool.{cond}
use mathlib.Core.List.{[]}
use Prim.Native.Nat.{ℕ, zero, suc, ◌*◌, ◌<◌, ◌≤◌}
use native.Mathlib.Omega.{arith}
use lib.ListN.{length}
use borrow.Author.Tests.{le-leb, lt-leb}
use Rattle.std.specs.Prelude.{Some, None, Result, Err}
use Rattle.std.specs.Option.{ok_or}
use Rattle.std.specs.declared.option.Option.{Option}
use Rattle.pattern.specs.Numbers.{source_limit, atom_limit, record_size, LONG, FORM}
use Rattle.pattern.specs.Bytes.{Bytes}
use Rattle.pattern.specs.Syntax.{pattern, Syntax, size}
use Rattle.pattern.specs.Parser.{top, start}
use Rattle.pattern.specs.Scan.{depth, Outcome, refused, accepted, scan, outcome}
use Rattle.pattern.specs.Table.{pool, encode}
use Rattle.pattern.specs.Answers.{Answer, refusal, Output, put, compiled, compile_of}
use Rattle.pattern.proofs.ParserComplete.{after_pattern}
use Rattle.pattern.specs.Refusals.{number_of}
use Rattle.pattern.specs.declared.refusal.Refusal.TheVariants.{Room}
use Rattle.pattern.specs.declared.refusal.Fault.{Fault}
use Rattle.compiler.specs.declared.reader.ReaderState.{ReaderState}
use Rattle.scanner.specs.Scans.{scanned}
use Rattle.compiler.specs.Readers.{SizesFit, BuffersFit, Moved, PatternIs, ReadPatternPost}
use Rattle.table.specs.Write.{table_of, table_output, WriteTablePost}
use Rattle.table.proofs.Writing.{table_is}
use Rattle.compiler.specs.Compiling.{answer_of}
use Rattle.compiler.proofs.Descent.{whole_form, whole_accepted}
use Rattle.compiler.proofs.Leaves.{state}

abbrev compile_output : Answer → Bytes → Output
compile_output a b = record { answer = a; bytes = b }

compile_by : (s table : Bytes) (o : Outcome) → outcome s ≡ o → compiled o s table ≡ compile_of s table
unfolding compile_of
compile_by s table o e = ap (λ o. compiled o s table) (sym e)

short_outcome : (s : Bytes) → length s ≤ source_limit → outcome s ≡ scan start 0 0 s
unfolding outcome
short_outcome s h = ap (λ b. cond b (scan start 0 0 s) (refused LONG source_limit)) (le-leb (length s) source_limit h)

pub compile_long : (s table : Bytes) → source_limit < length s → compile_output (refusal LONG source_limit) table ≡ compile_of s table
unfolding outcome compiled
compile_long s table h = compile_by s table (refused LONG source_limit) (ap (λ b. cond b (scan start 0 0 s) (refused LONG source_limit)) (lt-leb (length s) source_limit h))

abbrev pub from_start : ReaderState
from_start = state (record { at = 0 }) 0 0

-- the records of what was read fit
pub records_there : {s : Bytes} {recs text : ℕ} {st u : ReaderState} → SizesFit s recs text → Moved s st u → record_size * u.atoms ≤ recs
records_there {s} {recs} {u = u} fit m = go u.atoms m.atoms (omega (arith, m.sparse, m.within))
  where
    go : (n : ℕ) → n ≤ atom_limit → n ≤ length s → record_size * n ≤ recs
    go zero h l = omega arith
    go (suc n) h l = omega (arith, fit.recs_fit n (omega arith) (omega arith))

-- the reader's answer, and the buffers before and after
module _ (s table : Bytes) (short : length s ≤ source_limit) (recs recs' text text' : Bytes) where
  pub compile_fault : (f : Fault) → ReadPatternPost s from_start 0 recs recs' text text' (Err f) → compile_output (refusal (number_of f.refusal) f.position) table ≡ compile_of s table
  unfolding ReadPatternPost depth compiled
  compile_fault f x = compile_by s table (refused (number_of f.refusal) f.position) (short_outcome s short ∙ x.scan (top []) refl)

  module _ (u : ReaderState) (h : PatternIs s from_start 0 recs recs' text text' u) where
    pub compile_form : u.at.at < length s → compile_output (refusal FORM u.at.at) table ≡ compile_of s table
    unfolding depth compiled
    compile_form w = compile_by s table (refused FORM u.at.at) (short_outcome s short ∙ h.scan (top []) refl ∙ whole_form s u.at.at u.atoms h.tree h.body_ends h.over w)

    module _ (fit : BuffersFit s recs text) where
      compile_table : length s ≤ u.at.at → (x : Option ℕ) {table' : Bytes} → WriteTablePost u.atoms u.pool recs' text' table x table' → table_output u.at.at x table' ≡ compile_of s table
      unfolding depth compiled
      compile_table g x post =
          let m = h.moved in
          let w = h.wrote in
          let t : Syntax pattern = h.tree in
          let a : u.at.at ≡ length s = omega (arith, m.within) in
          let n : u.atoms ≡ size t = omega (arith, w.atoms) in
          let l : u.pool ≡ length (pool t) = omega (arith, w.pooled) in
          let b : table_of u.atoms u.pool recs' text' ≡ encode t =
          (λ j. table_of (n j) (l j) (w.recs_are j) (w.text_is j)) ∙ table_is recs text t (omega (arith, n, records_there fit m)) (omega (arith, l, m.pool, m.within, fit.text_fits)) in
          let k : scan start 0 0 s ≡ accepted t = h.scan (top []) refl ∙ ap (λ j. scanned s (after_pattern (top []) t) j u.atoms) a ∙ whole_accepted s u.atoms t in
          post.puts u.at.at ∙ ap₂ (λ p q. put p q table) a b ∙ compile_by s table (accepted t) (short_outcome s short ∙ k)

      pub compile_room : length s ≤ u.at.at → (x : Option ℕ) {table' : Bytes} → WriteTablePost u.atoms u.pool recs' text' table x table' → (y : Result ℕ Fault) → y ≡ ok_or x (record { refusal = Room; position = u.at.at })
          → compile_output (answer_of y) table' ≡ compile_of s table
      compile_room g x {table' = table'} post y e = ap (λ y. compile_output (answer_of y) table') e ∙ answered x ∙ compile_table g x post
        where
          answered : (x : Option ℕ) → compile_output (answer_of (ok_or x (record { refusal = Room; position = u.at.at }))) table' ≡ table_output u.at.at x table'
          answered (Some n) = refl
          answered None = refl
