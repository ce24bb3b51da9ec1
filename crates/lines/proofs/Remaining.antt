-- What the line tool writes is the output: at each step what was written and what is still to come make it up. Assumes nothing.
use mathlib.Core.Path.{◌≡◌, refl, sym, ap, ap₂, ◌∙◌}
use mathlib.Core.Logic.{◌⊎◌, inl, inr, ⊎_elim}
use mathlib.Core.Bool.{Bool, true, false, ◌&&◌, ◌||◌}
use mathlib.Core.List.{List, [], ◌∷◌, ◌++◌, append_assoc, append-nil}
use Prim.Native.Nat.{ℕ, ◌≤◌}
use native.Mathlib.Omega.{arith}
use lib.Dec.{ltb}
use Rattle.std.specs.Prelude.{Option, Some, None, IfSome}
use lib.ListN.{length, take, drop, replicate, drop_of_length-le, take-append-drop}
use lib.Seq.{slice, take_all, take-take, length-take-le}
use borrow.Author.Tests.{ltb-false}
use Rattle.pattern.specs.Bytes.{Bytes}
use Rattle.replies.specs.Reply.{zeros}
use Rattle.lines.specs.Output.{answers, last_line, first_line, output, lines_in, joined}
use Rattle.lines.specs.Chunk.{Buffers}
use Rattle.lines.specs.Session.{started, State, halted, Continues, finished, AfterRead, RestIn, written, waiting, GoesOn, Follows}
use Rattle.lines.specs.Trace.{Trace, followed_by, Steps, read, end, write, read_fails, write_fails, Runs, none, more, to_come}
use Rattle.lines.specs.Invariant.{Sound}
use Rattle.lines.specs.declared.chunk.Rest.{Rest}
use Rattle.lines.specs.declared.session.Next.{Next}
use Rattle.lines.specs.declared.session.Next.TheVariants.{Write, Read, Stop}
use Rattle.lines.proofs.Lines.{slice_join}
use Rattle.lines.proofs.Sessions.{apart, not_stop_read, not_stop_write}
use Rattle.pattern.proofs.Stores.{take_overwrite}
use Rattle.lines.proofs.Answering.{take_replied, held_overwrite}
use Rattle.lines.proofs.Chunks.{in_chunks, in_parts, chunks_hold}

-- what is still to be written, if the input goes on with these chunks and nothing fails
unfoldable unanswered : Option Rest → (input : Bytes) → Buffers → List Bytes → Bytes
unanswered None input b chunks = []
unanswered (Some r) input b chunks = in_chunks (take r.held b.line) (slice r.from r.to input ∷ chunks) b.scratch

unfoldable remaining : State → List Bytes → Bytes
remaining s chunks =
    elim s.next [
      | Stop ↦ []
      | Read held ↦ in_chunks (take held s.buffers.line) chunks s.buffers.scratch
      | Write p ↦ take p.end s.buffers.out ++ unanswered p.rest s.input s.buffers chunks
    ]

-- the chunks that may still come: none after the input's end
unfoldable ahead_of : Option Rest → List Bytes → List Bytes
ahead_of None chunks = []
ahead_of (Some r) chunks = chunks

unfoldable ahead : Next → List Bytes → List Bytes
ahead Stop chunks = []
ahead (Read held) chunks = chunks
ahead (Write p) chunks = ahead_of p.rest chunks

-- part of a chunk is answered
module _ {chunk input : Bytes} {from held : ℕ} {b : Buffers} {s : State} (a : Continues chunk from held input b s) where
  continues_remaining : take (length chunk) input ≡ chunk → (chunks : List Bytes) → remaining s chunks ≡ in_chunks (take held b.line) (drop from chunk ∷ chunks) b.scratch
  unfolding remaining unanswered
  continues_remaining e chunks =
      let r = a.rest in
      let d = a.answered.done in
      let b' = a.after in
      let l = lines_in (take held b.line) (slice from r.from chunk) in
      ap (λ x. remaining x chunks) a.state
      ∙ ap₂ (λ v s. v ++ in_chunks (take r.held b'.line) (drop r.from s ∷ chunks) b'.scratch) (take_replied d.replied) (ap (λ n. take n input) a.answered.to ∙ e)
      ∙ ap₂ (λ h s. (answers l.ended b.scratch).text ++ in_chunks h (drop r.from chunk ∷ chunks) s) (held_overwrite d) d.replied.works
      ∙ sym (in_parts (take held b.line) (slice from r.from chunk) (drop r.from chunk) b.scratch chunks)
      ∙ ap (λ s. in_chunks (take held b.line) (s ∷ chunks) b.scratch) (sym parts)
    where
      parts : drop from chunk ≡ slice from a.rest.from chunk ++ drop a.rest.from chunk
      parts =
          let whole = take_all (length chunk) chunk (omega arith) in
          ap (drop from) (sym whole) ∙ slice_join chunk from a.rest.from (length chunk) a.answered.forward (omega (arith, a.answered.from_fits, a.answered.to)) (omega arith)
          ∙ ap (λ s. slice from a.rest.from chunk ++ drop a.rest.from s) whole

  continues_ahead : (chunks : List Bytes) → ahead s.next chunks ≡ chunks
  unfolding ahead ahead_of
  continues_ahead chunks = ap (λ (x : State). ahead x.next chunks) a.state

-- ---- a step that goes well: what it wrote, and what remains then, is what remained before
record StepWell (s : State) (t : Trace) (s' : State) : Type 0 where
  well : t.well ≡ true
  totals : (chunks : List Bytes) → t.text ++ remaining s' chunks ≡ remaining s (t.chunks ++ ahead s'.next chunks)
  keeps : (chunks : List Bytes) → ahead s.next (t.chunks ++ ahead s'.next chunks) ≡ t.chunks ++ ahead s'.next chunks
  awaits : (chunks : List Bytes) → ahead s'.next chunks ≡ to_come t.ended (ahead s.next chunks)

module _ (end : ℕ) (input : Bytes) (b : Buffers) (s : State) where
  abbrev pending : Option Rest → State
  pending rest = record { next = Write (record { end = end; rest = rest }); input = input; buffers = b }

  abbrev replies : Trace
  replies = record { chunks = []; ended = false; text = take end b.out; well = true }

  last_well : s ≡ halted input b → StepWell (pending None) replies s
  unfolding halted remaining unanswered ahead ahead_of to_come
  last_well a =
      record {
        well = refl;
        totals = λ chunks. ap (λ (x : State). take end b.out ++ remaining x chunks) a;
        keeps = λ chunks. ap (λ (x : State). ahead x.next chunks) (sym a);
        awaits = λ chunks. ap (λ (x : State). ahead x.next chunks) a;
      }

  rest_well : (r : Rest) → RestIn r input b → (more : Bool) → ltb r.from r.to ≡ more → GoesOn more end r input b s → StepWell (pending (Some r)) replies s
  unfolding GoesOn written waiting remaining unanswered ahead ahead_of in_chunks joined to_come
  rest_well r f true e a =
      record {
        well = refl;
        totals =
            λ chunks.
            ap (λ v. take end b.out ++ v)
            (continues_remaining a (ap (λ k. take k input) (length-take-le r.to input f.to_fits)) chunks
            ∙ ap (λ v. in_chunks (take r.held b.line) (slice r.from r.to input ∷ v) b.scratch) (sym (continues_ahead a chunks)));
        keeps = λ chunks. refl;
        awaits = λ chunks. continues_ahead a chunks;
      }
  rest_well r f false e a =
      let nothing : slice r.from r.to input ≡ [] = drop_of_length-le (take r.to input) {i = r.from} (omega (arith, length-take-le r.to input f.to_fits, ltb-false r.from r.to e)) in
      record {
        well = refl;
        totals =
            λ chunks.
            ap (λ v. take end b.out ++ v)
            (ap (λ x. remaining x chunks) a ∙ ap (λ v. in_chunks (take r.held b.line) (v ∷ chunks) b.scratch) (sym nothing)
            ∙ ap (λ (x : State). in_chunks (take r.held b.line) (slice r.from r.to input ∷ ahead x.next chunks) b.scratch) (sym a));
        keeps = λ chunks. refl;
        awaits = λ chunks. ap (λ (x : State). ahead x.next chunks) a;
      }

  write_well : (rest : Option Rest) → IfSome rest (λ r. RestIn r input b) → Follows rest end input b s → StepWell (pending rest) replies s
  unfolding Follows
  write_well None f a = last_well a
  write_well (Some r) f a = rest_well r f (ltb r.from r.to) refl a

-- the first bytes of a text that is written, the rest of it, and more
in_two : (k n : ℕ) (s v : Bytes) → k ≤ n → take k s ++ (drop k (take n s) ++ v) ≡ take n s ++ v
in_two k n s v h =
    ap (λ x. x ++ (drop k (take n s) ++ v)) (sym (take-take k n s h)) ∙ sym (append_assoc (take k (take n s)) (drop k (take n s)) v) ∙ ap (λ x. x ++ v) (take-append-drop k (take n s))

-- a step that fails stops, and what it wrote is a beginning of what remained
record Fails (s : State) (t : Trace) (s' : State) : Type 0 where
  ill : t.well ≡ false
  unread : t.chunks ≡ []
  unended : t.ended ≡ false
  begins : (chunks : List Bytes) → (rest : Bytes) × (t.text ++ rest ≡ remaining s chunks)
  stop : s'.next ≡ Stop

step_goes : {s s' : State} {t : Trace} → Steps s t s' → StepWell s t s' ⊎ Fails s t s'
unfolding AfterRead Follows finished halted remaining unanswered ahead ahead_of in_chunks joined lines_in to_come
step_goes (read held n input input' b s' g h a) =
    inl
    (record {
      well = refl;
      totals =
          λ chunks.
          continues_remaining a (ap (λ k. take k input') (length-take-le n input' h)) chunks ∙ ap (λ v. in_chunks (take held b.line) (take n input' ∷ v) b.scratch) (sym (continues_ahead a chunks));
      keeps = λ chunks. refl;
      awaits = λ chunks. continues_ahead a chunks;
    })
step_goes (end held input input' b s' a) =
    inl
    (record {
      well = refl;
      totals =
          λ chunks.
          ap (λ x. remaining x chunks) a ∙ append-nil _ ∙ take_overwrite (answers (last_line (take held b.line)) b.scratch).text b.out
          ∙ ap (λ (x : State). in_chunks (take held b.line) (ahead x.next chunks) b.scratch) (sym a);
      keeps = λ chunks. refl;
      awaits = λ chunks. ap (λ (x : State). ahead x.next chunks) a;
    })
step_goes (write p input b s' f a) = inl (write_well p.end input b s' p.rest f.rest_fits a)
step_goes (read_fails held input input' b s' a) = inr (record { ill = refl; unread = refl; unended = refl; begins = λ chunks. (_, refl); stop = ap (λ (x : State). x.next) a })
step_goes (write_fails p k input b s' h f a) =
    inr (record { ill = refl; unread = refl; unended = refl; begins = λ chunks. (drop k (take p.end b.out) ++ _, in_two k p.end b.out _ h); stop = ap (λ (x : State). x.next) a })

-- nothing is done after a stop
no_step : {s s' : State} {t : Trace} → Steps s t s' → s.next ≡ Stop → ⊥
no_step (read held n input input' b s' g h a) e = not_stop_read e
no_step (end held input input' b s' a) e = not_stop_read e
no_step (write p input b s' f a) e = not_stop_write e
no_step (read_fails held input input' b s' a) e = not_stop_read e
no_step (write_fails p k input b s' h f a) e = not_stop_write e

-- ---- a whole run

to_come_or : (u t : Bool) (chunks : List Bytes) → to_come u (to_come t chunks) ≡ to_come (u || t) chunks
unfolding to_come
to_come_or true t chunks = refl
to_come_or false t chunks = refl

-- nothing is to come where some chunk could: the input has ended
stopped_ended : (ended : Bool) → ◌≡◌ {A = List Bytes} [] (to_come ended ([] ∷ [])) → ended ≡ true
unfolding to_come
stopped_ended true e = refl
stopped_ended false e = absurd (let z : ◌≡◌ {A = ℕ} 0 1 = cc in omega arith)

module _ (input : Bytes) (b : Buffers) where
  abbrev start : State
  start = started input b

  -- nothing has failed: what was written, and what remains
  record RunWell (t : Trace) (s : State) : Type 0 where
    well : t.well ≡ true
    totals : (chunks : List Bytes) → t.text ++ remaining s chunks ≡ remaining start (t.chunks ++ ahead s.next chunks)
    awaits : (chunks : List Bytes) → ahead s.next chunks ≡ to_come t.ended chunks

  -- something failed: what was written is a beginning, however the input would have gone on
  record RunFailed (t : Trace) (s : State) : Type 0 where
    ill : t.well ≡ false
    stop : s.next ≡ Stop
    begins : (chunks : List Bytes) → (rest : Bytes) × (t.text ++ rest ≡ remaining start (t.chunks ++ to_come t.ended chunks))

  run_on : (t u : Trace) (s s' : State) → RunWell t s → StepWell s u s' → RunWell (followed_by t u) s'
  unfolding followed_by
  run_on t u s s' g a =
      record {
        well = ap₂ (λ v w. v && w) g.well a.well;
        totals =
            λ chunks.
            append_assoc t.text u.text _ ∙ ap (λ v. t.text ++ v) (a.totals chunks) ∙ g.totals (u.chunks ++ ahead s'.next chunks)
            ∙ ap (λ v. remaining start (t.chunks ++ v)) (a.keeps chunks) ∙ ap (remaining start) (sym (append_assoc t.chunks u.chunks _));
        awaits = λ chunks. a.awaits chunks ∙ ap (to_come u.ended) (g.awaits chunks) ∙ to_come_or u.ended t.ended chunks;
      }

  run_fails : (t u : Trace) (s s' : State) → RunWell t s → Fails s u s' → RunFailed (followed_by t u) s'
  unfolding followed_by
  run_fails t u s s' g f =
      record {
        ill = ap₂ (λ v w. v && w) g.well f.ill;
        stop = f.stop;
        begins =
            λ chunks.
            let (rest, e) = f.begins chunks in (
              rest,
              append_assoc t.text u.text rest ∙ ap (λ v. t.text ++ v) e ∙ g.totals chunks ∙ ap (λ v. remaining start (t.chunks ++ v)) (g.awaits chunks)
                  ∙ ap₂ (λ v w. remaining start (v ++ to_come w chunks)) (sym (append-nil t.chunks) ∙ ap (λ v. t.chunks ++ v) (sym f.unread)) (ap (λ w. w || t.ended) (sym f.unended)),
            );
      }

  runs_go : {turns : ℕ} {t : Trace} {s : State} → Runs start turns t s → RunWell t s ⊎ RunFailed t s
  unfolding started remaining ahead ahead_of to_come
  runs_go none = inl (record { well = refl; totals = λ chunks. refl; awaits = λ chunks. refl })
  runs_go (more turns t u s s' run step) =
      ⊎_elim (λ g. ⊎_elim (λ a. inl (run_on t u s s' g a)) (λ f. inr (run_fails t u s s' g f)) (step_goes step)) (λ d. absurd (no_step step d.stop)) (runs_go run)

  -- scratch is zeros at first
  start_remaining : Sound (record { next = Stop; input = input; buffers = b }) → (chunks : List Bytes) → remaining start chunks ≡ output (joined chunks)
  unfolding started remaining unanswered zeros joined in_chunks
  start_remaining y chunks =
      ap₂ (λ v s. v ++ in_chunks [] ([] ∷ chunks) s) (take_overwrite first_line b.out) (y.tidy.scratch_zero ∙ ap (λ n. replicate n 0) y.sized.scratch_full) ∙ chunks_hold ([] ∷ chunks)

  totals_then : (t : Trace) (s : State) → RunWell t s → (chunks : List Bytes) → t.text ++ remaining s chunks ≡ remaining start (t.chunks ++ to_come t.ended chunks)
  totals_then t s g chunks = g.totals chunks ∙ ap (λ v. remaining start (t.chunks ++ v)) (g.awaits chunks)

  module _ (fresh : Sound (record { next = Stop; input = input; buffers = b })) where
    -- what is written is always a beginning of the output, whatever fails and however the input goes on
    pub runs_begin : {turns : ℕ} {t : Trace} {s : State} → Runs start turns t s → (chunks : List Bytes) → (rest : Bytes) × (t.text ++ rest ≡ output (joined (t.chunks ++ to_come t.ended chunks)))
    runs_begin {t = t} {s} run chunks =
        ⊎_elim (λ g. (remaining s chunks, totals_then t s g chunks ∙ start_remaining fresh _)) (λ d. let (rest, e) = d.begins chunks in (rest, e ∙ start_remaining fresh _)) (runs_go run)

    -- and where nothing failed until it stopped the input had ended, and it is the output
    pub runs_hold : {turns : ℕ} {t : Trace} {s : State} → Runs start turns t s → t.well ≡ true → s.next ≡ Stop → (t.ended ≡ true) × (t.text ≡ output (joined t.chunks))
    unfolding remaining ahead to_come
    runs_hold {t = t} {s} run w e =
        ⊎_elim
        (λ g.
        let nothing : remaining s [] ≡ [] = rw e in
        let none_left : ahead s.next [] ≡ [] = rw e in (
          stopped_ended t.ended (rw e at (g.awaits ([] ∷ []))),
          sym (append-nil t.text) ∙ ap (λ v. t.text ++ v) (sym nothing) ∙ g.totals [] ∙ ap (λ v. remaining start (t.chunks ++ v)) none_left ∙ ap (remaining start) (append-nil t.chunks) ∙ start_remaining fresh t.chunks,
        ))
        (λ d. apart (sym w ∙ d.ill))
        (runs_go run)
