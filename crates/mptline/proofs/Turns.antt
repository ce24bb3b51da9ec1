-- The turns of the program's loop, each a step of its run, and what the run writes. Assumes nothing.
use mathlib.Core.Path.{◌≡◌, sym, ap, ◌∙◌}
use mathlib.Core.Bool.{true}
use mathlib.Core.List.{List, ◌++◌}
use Prim.Native.Nat.{ℕ, ◌+◌}
use Rattle.pattern.specs.Bytes.{Bytes}
use Rattle.lines.specs.Output.{output, joined}
use Rattle.lines.specs.Chunk.{Buffers}
use Rattle.lines.specs.Session.{State, started}
use Rattle.lines.specs.Trace.{Trace, followed_by, Runs, none, more, to_come}
use Rattle.lines.specs.Invariant.{Sized, Sound}
use Rattle.lines.specs.declared.session.Next.TheVariants.{Stop}
use Rattle.lines.proofs.Remaining.{runs_begin, runs_hold}
use Rattle.lines.proofs.Tidying.{steps_sound}
use Rattle.std.specs.Prelude.{Option, Some}
use Rattle.lines.proofs.Sessions.{apart}
use Rattle.mptline.specs.Run.{turn_limit, FromReader, ToWriter, WriteStep, ReadStep, RunPost}
use Rattle.mptline.proofs.Transfers.{takes_none, appends_none, took_more, gave_more, taken_whole, given_whole}

-- the run so far
pub record SoFar (first s : State) (left left' held held' : Option Bytes) (turns : ℕ) : Type 0 where
  pub trace : Trace
  pub runs : Runs first turns trace s
  pub took : FromReader trace left left'
  pub gave : ToWriter trace held held'
  pub sound : Sound s

pub so_far_none : {first : State} (left held : Option Bytes) → Sound first → SoFar first first left left held held 0
unfolding joined
so_far_none left held y =
    record { trace = _; runs = none; took = record { taken = takes_none left; whole = λ e. apart (sym e) }; gave = record { given = appends_none held }; sound = y }

module _ {first s : State} {left left' held held' : Option Bytes} {turns : ℕ} (g : SoFar first s left left' held held' turns) where
  pub so_far_write : {s' : State} {more : Option Bytes} → WriteStep s s' held' more → Sized s' → SoFar first s' left left' held more (turns + 1)
  so_far_write {s'} m z =
      record {
        trace = followed_by g.trace m.trace;
        runs = more turns g.trace m.trace s s' g.runs m.step;
        took = took_more g.took (m.took left');
        gave = gave_more g.gave m.gave;
        sound = steps_sound m.step g.sound z;
      }

  pub so_far_read : {s' : State} {rest : Option Bytes} → ReadStep s s' left' rest → Sized s' → SoFar first s' left rest held held' (turns + 1)
  so_far_read {s'} m z =
      record {
        trace = followed_by g.trace m.trace;
        runs = more turns g.trace m.trace s s' g.runs m.step;
        took = took_more g.took m.took;
        gave = gave_more g.gave (m.gave held');
        sound = steps_sound m.step g.sound z;
      }

  -- it was told to stop, or no turn is left
  pub so_far_stop : s.next ≡ Stop → RunPost first s left left' held held'
  so_far_stop e = record { turns = turns; trace = g.trace; runs = g.runs; took = g.took; gave = g.gave; until = λ f. absurd (f e); sound = g.sound }

  pub so_far_all : turns ≡ turn_limit → RunPost first s left left' held held'
  so_far_all e = record { turns = turns; trace = g.trace; runs = g.runs; took = g.took; gave = g.gave; until = λ f. e; sound = g.sound }

-- the program's run, from buffers of zeros: what its trace has as written is a beginning of the output, however the input goes on; and where nothing failed
-- and it was told to stop, the input had ended and it is the output
module _ (input : Bytes) (b : Buffers) (fresh : Sound (record { next = Stop; input = input; buffers = b })) {s : State} {left left' held held' : Option Bytes}
    (r : RunPost (started input b) s left left' held held') where
  pub ran_begins : (chunks : List Bytes) → (rest : Bytes) × (r.trace.text ++ rest ≡ output (joined (r.trace.chunks ++ to_come r.trace.ended chunks)))
  ran_begins = runs_begin input b fresh r.runs

  pub ran_holds : r.trace.well ≡ true → s.next ≡ Stop → (r.trace.ended ≡ true) × (r.trace.text ≡ output (joined r.trace.chunks))
  ran_holds = runs_hold input b fresh r.runs

-- and then, where the writer's bytes are known, whatever fails: it holds what it held and then a text that is a beginning of the output, however the input goes on
module _ (input : Bytes) (b : Buffers) (fresh : Sound (record { next = Stop; input = input; buffers = b })) {s : State} {left left' : Option Bytes} (before : Bytes) (held' : Option Bytes)
    (r : RunPost (started input b) s left left' (Some before) held') where
  pub ran_wrote : (text : Bytes) × (held' ≡ Some (before ++ text)) × ((chunks : List Bytes) → (rest : Bytes) × (text ++ rest ≡ output (joined (r.trace.chunks ++ to_come r.trace.ended chunks))))
  ran_wrote = (r.trace.text, given_whole r.trace before held' r.gave, ran_begins input b fresh r)

-- and then, where the reader's and the writer's bytes are known, the output of all that the reader had is put after what the writer held
module _ (input : Bytes) (b : Buffers) (fresh : Sound (record { next = Stop; input = input; buffers = b })) {s : State} (all before : Bytes) (left' held' : Option Bytes)
    (r : RunPost (started input b) s (Some all) left' (Some before) held') where
  pub ran_writes : r.trace.well ≡ true → s.next ≡ Stop → held' ≡ Some (before ++ output all)
  ran_writes w e =
      let (ended, text) = ran_holds input b fresh r w e in
      given_whole r.trace before held' r.gave ∙ ap (λ v. Some (before ++ v)) (text ∙ ap output (taken_whole r.trace all left' r.took ended))
