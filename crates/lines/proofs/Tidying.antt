-- "Patient data stays in no buffer": what each step of the line tool leaves in its buffers. Assumes nothing.
use mathlib.Core.Path.{◌≡◌, refl, sym, ap, ◌∙◌, subst}
use mathlib.Core.Bool.{Bool, true, false}
use mathlib.Core.List.{[], ◌∷◌}
use Prim.Native.Nat.{ℕ, ◌+◌, ◌-◌, ◌≤◌}
use native.Mathlib.Omega.{arith}
use lib.Dec.{eqb, ltb}
use lib.ListN.{length, take, drop, length-append}
use lib.Seq.{slice, drop-length, drop-drop, length-take-le}
use Rattle.pattern.specs.Bytes.{Bytes, overwrite, bytes, zeroed}
use Rattle.pattern.proofs.Stores.{puts_length}
use Rattle.replies.specs.Sizes.{newline_byte}
use Rattle.replies.specs.Stores.{Zero}
use Rattle.replies.proofs.Zeros.{drop_zero, rest_zeroed}
use Rattle.lines.specs.Output.{answers, last_line, first_line, hold, LinesIn, line_first, lines_in, wiped}
use Rattle.lines.specs.Chunk.{Buffers}
use Rattle.lines.specs.Session.{started, State, halted, Continues, finished, AfterRead, RestIn, written, waiting, GoesOn, Follows}
use Rattle.lines.specs.Trace.{Trace, Steps, read, end, write, read_fails, write_fails}
use Rattle.lines.specs.Invariant.{NextIn, Tidy, Sized, Sound}
use Rattle.lines.specs.declared.chunk.Rest.{Rest}
use Rattle.std.specs.Prelude.{Option, Some, None, IfSome, if◌then◌else◌}
use Rattle.lines.specs.declared.session.Next.TheVariants.{Write, Stop}
use Rattle.lines.proofs.Lines.{hold_longer}
use Rattle.pattern.proofs.Stores.{drop_overwrite}
use Rattle.lines.proofs.Answering.{drop_replied}
use Rattle.lines.proofs.Chunks.{answers_same}
use Rattle.lines.proofs.Sessions.{not_stop_read, not_stop_write}

-- ---- zeros

-- further on
later_zero : (i j : ℕ) (s : Bytes) → i ≤ j → Zero (drop i s) → Zero (drop j s)
later_zero i j s h z = let e : i + (j - i) ≡ j = omega arith in subst Zero (drop-drop (j - i) i s ∙ ap (λ k. drop k s) e) (drop_zero (j - i) (drop i s) z)

-- over all
all_zeroed : (s : Bytes) → Zero (zeroed (length s) s)
all_zeroed s = rest_zeroed (length s) s (subst Zero (sym (drop-length s)) refl)

-- past a text that is over zeros
past_zero : (v s : Bytes) → Zero s → Zero (drop (length v) (overwrite v s))
past_zero v s z = subst Zero (sym (drop_overwrite (length v) v s (omega arith))) (drop_zero (length v) s z)

-- past what is held of a line there are zeros, if there were
abbrev Blank : LinesIn → Bytes → Type 0
Blank l line = Zero (drop (length l.held) (wiped l.ended line))

wiped_zero : (held s line : Bytes) → Zero (drop (length held) line) → Blank (lines_in held s) line
unfolding lines_in line_first wiped
wiped_zero held [] line z = z
wiped_zero held (c ∷ s) line z =
    go (eqb c newline_byte) (wiped_zero [] s (zeroed (length held) line) (rest_zeroed (length held) line z))
    (wiped_zero (hold held c) s line (later_zero (length held) (length (hold held c)) line (hold_longer held c) z))
  where
    go : (b : Bool) → Blank (lines_in [] s) (zeroed (length held) line) → Blank (lines_in (hold held c) s) line → Blank (elim b [ true ↦ line_first held (lines_in [] s) | false ↦ lines_in (hold held c) s ]) line
    go true p q = p
    go false p q = q

-- ---- the states after a step

sound_as : {s t : State} → s ≡ t → (Sized t → Sound t) → Sized s → Sound s
sound_as e f z = subst (λ x. Sized x → Sound x) (sym e) f z

halted_sound : (input : Bytes) (b : Buffers) → Sized (halted input b) → Sound (halted input b)
unfolding halted NextIn
halted_sound input b z =
    record { ready = tt; tidy = record { line_zero = all_zeroed b.line; scratch_zero = all_zeroed b.scratch; out_zero = all_zeroed b.out; input_zero = λ e. all_zeroed input }; sized = z }

-- a line's bytes past those held, scratch and output are zero
module _ (held : ℕ) (input : Bytes) (b : Buffers) (line_zero : Zero (drop held b.line)) (scratch_zero : Zero b.scratch) (out_zero : Zero b.out) (fits : held ≤ length b.line) where
  continues_sound : {chunk : Bytes} {from : ℕ} (s : State) → Continues chunk from held input b s → length chunk ≤ length input → Sized s → Sound s
  unfolding NextIn
  continues_sound {chunk} {from} s a h z =
      let r = a.rest in
      let d = a.answered.done in
      let l = lines_in (take held b.line) (slice from r.from chunk) in
      let begun : Zero (drop (length (take held b.line)) b.line) = subst (λ n. Zero (drop n b.line)) (sym (length-take-le held b.line fits)) line_zero in
      sound_as a.state
      (λ y.
      record {
        ready =
            record {
              end_fits = omega (arith, d.replied.within.short, puts_length d.replied.within.stores);
              rest_fits =
                  record {
                    from_fits = a.answered.from_fits;
                    to_fits = omega (arith, a.answered.to);
                    lent = record { line_size = y.line_size; held_fits = d.held_fits; out_size = y.out_size };
                  };
            };
        tidy =
            record {
              line_zero =
                  subst Zero (sym (ap (drop r.held) d.line ∙ drop_overwrite r.held l.held _ (omega (arith, d.held)) ∙ ap (λ n. drop n (wiped l.ended b.line)) d.held))
                  (wiped_zero (take held b.line) (slice from r.from chunk) b.line begun);
              scratch_zero = subst Zero (sym (d.replied.works ∙ answers_same l.ended b.scratch scratch_zero)) scratch_zero;
              out_zero = subst Zero (sym (drop_replied d.replied)) (drop_zero a.end b.out out_zero);
              input_zero = not_stop_write;
            };
        sized = y;
      })
      z

  finished_sound : (lines : Bytes) → Sized (finished (answers (last_line lines) b.scratch) held input b) → Sound (finished (answers (last_line lines) b.scratch) held input b)
  unfolding finished overwrite NextIn
  finished_sound lines z =
      let r = answers (last_line lines) b.scratch in
      record {
        ready = record { end_fits = omega (arith, length-append r.text (drop (length r.text) b.out)); rest_fits = _ };
        tidy =
            record {
              line_zero = rest_zeroed held b.line line_zero;
              scratch_zero = subst Zero (sym (answers_same (last_line lines) b.scratch scratch_zero)) scratch_zero;
              out_zero = past_zero r.text b.out out_zero;
              input_zero = not_stop_write;
            };
        sized = z;
      }

-- what was written is zeroed
module _ (end : ℕ) (input : Bytes) (b : Buffers) where
  abbrev pending : Option Rest → State
  pending rest = record { next = Write (record { end = end; rest = rest }); input = input; buffers = b }

  goes_on_sound : (r : Rest) → RestIn r input b → Tidy (pending (Some r)) → (s : State) (more : Bool) → GoesOn more end r input b s → Sized s → Sound s
  unfolding GoesOn written waiting NextIn
  goes_on_sound r f t s true a z =
      continues_sound r.held input (written end b) t.line_zero t.scratch_zero (rest_zeroed end b.out t.out_zero) (omega (arith, f.lent.held_fits, f.lent.line_size)) s a
      (omega (arith, length-take-le r.to input f.to_fits, f.to_fits)) z
  goes_on_sound r f t s false a z =
      sound_as a
      (λ y.
      record {
        ready = f.lent.held_fits;
        tidy = record { line_zero = t.line_zero; scratch_zero = t.scratch_zero; out_zero = rest_zeroed end b.out t.out_zero; input_zero = not_stop_read };
        sized = y;
      })
      z

  write_sound : (s : State) (wrote : Bool) (rest : Option Rest) → IfSome rest (λ r. RestIn r input b) → Tidy (pending rest) → Follows (if wrote then rest else None) end input b s → Sized s → Sound s
  unfolding Follows
  write_sound s false rest f t a z = sound_as a (halted_sound input b) z
  write_sound s true None f t a z = sound_as a (halted_sound input b) z
  write_sound s true (Some r) f t a z = goes_on_sound r f t s (ltb r.from r.to) a z

-- what holds between steps holds after each, if the buffers keep their sizes
pub steps_sound : {s s' : State} {t : Trace} → Steps s t s' → Sound s → Sized s' → Sound s'
unfolding AfterRead NextIn
steps_sound (read held n input input' b s' g h a) y z =
    continues_sound held input' b y.tidy.line_zero y.tidy.scratch_zero y.tidy.out_zero (omega (arith, y.ready, y.sized.line_size)) s' a (omega (arith, length-take-le n input' h)) z
steps_sound (end held input input' b s' a) y z =
    sound_as a (finished_sound held input' b y.tidy.line_zero y.tidy.scratch_zero y.tidy.out_zero (omega (arith, y.ready, y.sized.line_size)) (take held b.line)) z
steps_sound (write p input b s' f a) y z = write_sound p.end input b s' true p.rest f.rest_fits y.tidy a z
steps_sound (read_fails held input input' b s' a) y z = sound_as a (halted_sound input' b) z
steps_sound (write_fails p k input b s' h f a) y z = write_sound p.end input b s' false p.rest f.rest_fits y.tidy a z

-- ---- in the program

pub sized_as : {s s' : State} → Sized s → length s'.input ≡ length s.input → length s'.buffers.line ≡ length s.buffers.line → length s'.buffers.scratch ≡ length s.buffers.scratch → length s'.buffers.out ≡ length s.buffers.out
    → Sized s'
sized_as z i l w o = record { input_some = omega (arith, z.input_some); line_size = l ∙ z.line_size; scratch_full = w ∙ z.scratch_full; out_size = omega (arith, z.out_size) }

-- at first, from buffers of zeros
pub start_sound : {input : Bytes} {b : Buffers} → Sound (record { next = Stop; input = input; buffers = b }) → Sized (started input b) → Sound (started input b)
unfolding started NextIn first_line bytes overwrite
start_sound {input} {b} y z =
    record {
      ready =
          record {
            end_fits = omega (arith, y.sized.out_size, z.out_size);
            rest_fits = record { from_fits = omega arith; to_fits = omega arith; lent = record { line_size = z.line_size; held_fits = omega arith; out_size = z.out_size } };
          };
      tidy = record { line_zero = y.tidy.line_zero; scratch_zero = y.tidy.scratch_zero; out_zero = past_zero first_line b.out y.tidy.out_zero; input_zero = not_stop_write };
      sized = z;
    }
