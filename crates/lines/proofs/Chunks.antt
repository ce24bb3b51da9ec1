-- Input taken in chunks gives the same output, though of a line no more than 1,025 bytes are held. Assumes nothing.
use mathlib.Core.Path.{◌≡◌, refl, sym, ap, ◌∙◌}
use mathlib.Core.Bool.{Bool, true, false}
use mathlib.Core.Logic.{⊎_elim}
use mathlib.Core.List.{List, [], ◌∷◌, ◌++◌, append_assoc}
use Prim.Native.Nat.{ℕ, ◌≤◌, ◌<◌}
use native.Mathlib.Omega.{arith}
use lib.Dec.{eqb}
use lib.ListN.{length, take, length-append}
use lib.Seq.{take_all, take-append-le, length-take-le}
use borrow.Author.Tests.{lt-ltb, le-ltb}
use Rattle.pattern.specs.Bytes.{Bytes, bytes}
use Rattle.pattern.proofs.Tests.{if_true, if_false, le_or_lt}
use Rattle.replies.specs.Sizes.{line_limit, held_limit, scratch_size, newline_byte}
use Rattle.replies.specs.Reply.{Reply, reply, answer_to, zeros}
use Rattle.replies.specs.Stores.{Zero}
use Rattle.replies.proofs.Zeros.{blank_zero, reply_same}
use Rattle.lines.specs.Output.{prefixed, answers, last_line, lines_after, split, first_line, output, hold, LinesIn, line_first, lines_in, joined}
use Rattle.lines.proofs.Lines.{lines_append}
use Rattle.lines.proofs.Answering.{answers_append}

-- scratch of zeros stays so
pub answers_same : (lines : List Bytes) (scratch : Bytes) → Zero scratch → (answers lines scratch).scratch ≡ scratch
unfolding answers prefixed answer_to
answers_same [] scratch z = refl
answers_same (line ∷ rest) scratch z = ap (λ s. (answers rest s).scratch) (reply_same scratch z line) ∙ answers_same rest scratch z

-- each line is answered as if it were alone
pub each_alone : (line : Bytes) (rest : List Bytes) → (answers (line ∷ rest) zeros).text ≡ (answer_to line zeros).text ++ (answers rest zeros).text
unfolding answers prefixed answer_to zeros
each_alone line rest = ap (λ s. (answer_to line zeros).text ++ (answers rest s).text) (reply_same zeros (blank_zero scratch_size zeros refl) line)

-- ---- what is held of a line is enough

abbrev held_part : Bytes → Bytes
held_part line = take held_limit line

-- "L for too long (looked at first)"
too_long : (line scratch : Bytes) → line_limit < length line → reply line scratch ≡ record { text = bytes "L"; scratch = scratch }
unfolding reply
too_long line scratch h = if_true _ _ _ (lt-ltb _ _ h)

-- a line that is cut to what is held has the same reply
answer_cap : (line scratch : Bytes) → answer_to (held_part line) scratch ≡ answer_to line scratch
unfolding answer_to
answer_cap line scratch = ap (λ (r : Reply). record { text = r.text ++ newline_byte ∷ []; scratch = r.scratch }) (⊎_elim short long (le_or_lt (length line) held_limit))
  where
    short : length line ≤ held_limit → reply (held_part line) scratch ≡ reply line scratch
    short h = ap (λ l. reply l scratch) (take_all held_limit line h)

    long : held_limit < length line → reply (held_part line) scratch ≡ reply line scratch
    long h = too_long (held_part line) scratch (omega (arith, length-take-le held_limit line (omega arith))) ∙ sym (too_long line scratch (omega arith))

-- a byte more
hold_cap : (line : Bytes) (c : ℕ) → hold (held_part line) c ≡ held_part (line ++ c ∷ [])
unfolding hold
hold_cap line c = ⊎_elim full room (le_or_lt held_limit (length line))
  where
    full : held_limit ≤ length line → hold (held_part line) c ≡ held_part (line ++ c ∷ [])
    full h =
        let l : length (held_part line) ≡ held_limit = length-take-le held_limit line h in
        if_false _ _ _ (le-ltb (length (held_part line)) held_limit (omega arith)) ∙ sym (take-append-le held_limit line (c ∷ []) h)

    room : length line < held_limit → hold (held_part line) c ≡ held_part (line ++ c ∷ [])
    room h =
        let e : held_part line ≡ line = take_all held_limit line (omega arith) in
        if_true _ _ _ (lt-ltb (length (held_part line)) held_limit (omega (arith, ap length e))) ∙ ap (λ v. v ++ c ∷ []) e ∙ sym (take_all held_limit (line ++ c ∷ []) (omega (arith, length-append line (c ∷ []))))

-- ---- all lines of an input that comes in chunks

abbrev all_lines : LinesIn → List Bytes
all_lines l = l.ended ++ last_line l.held

-- a line before others, cut to what is held
first_cap : (line : Bytes) (a b : List Bytes) (scratch : Bytes) → ((s : Bytes) → answers a s ≡ answers b s) → answers (held_part line ∷ a) scratch ≡ answers (line ∷ b) scratch
unfolding answers
first_cap line a b scratch f = ap (λ (r : Reply). prefixed r.text (answers a r.scratch)) (answer_cap line scratch) ∙ ap (prefixed (answer_to line scratch).text) (f (answer_to line scratch).scratch)

lines_cap : (begun s scratch : Bytes) → answers (all_lines (lines_in (held_part begun) s)) scratch ≡ answers (lines_after begun s) scratch
unfolding lines_in line_first lines_after last_line
lines_cap [] [] scratch = refl
lines_cap (c ∷ begun) [] scratch = first_cap (c ∷ begun) [] [] scratch (λ s. refl)
lines_cap begun (c ∷ s) scratch = go (eqb c newline_byte) (lines_cap [] s) (lines_cap (begun ++ c ∷ []) s scratch)
  where
    go : (b : Bool) → ((t : Bytes) → answers (all_lines (lines_in [] s)) t ≡ answers (lines_after [] s) t) → answers (all_lines (lines_in (held_part (begun ++ c ∷ [])) s)) scratch ≡ answers (lines_after (begun ++ c ∷ []) s) scratch
        → answers (all_lines (elim b [ true ↦ line_first (held_part begun) (lines_in [] s) | false ↦ lines_in (hold (held_part begun) c) s ])) scratch
        ≡ answers (elim b [ true ↦ begun ∷ lines_after [] s | false ↦ lines_after (begun ++ c ∷ []) s ]) scratch
    go true f x = first_cap begun (all_lines (lines_in [] s)) (lines_after [] s) scratch f
    go false f x = ap (λ h. answers (all_lines (lines_in h s)) scratch) (hold_cap begun c) ∙ x

-- what is written after a held line, if the input goes on with these chunks
unfoldable pub in_chunks : (held : Bytes) → List Bytes → (scratch : Bytes) → Bytes
in_chunks held chunks scratch = (answers (all_lines (lines_in held (joined chunks))) scratch).text

-- the lines of a chunk's first part, and then the rest
pub in_parts : (held s t scratch : Bytes) (chunks : List Bytes)
    → in_chunks held ((s ++ t) ∷ chunks) scratch ≡ (answers (lines_in held s).ended scratch).text ++ in_chunks (lines_in held s).held (t ∷ chunks) (answers (lines_in held s).ended scratch).scratch
unfolding in_chunks joined prefixed
in_parts held s t scratch chunks =
    let l = lines_in held s in
    let m = lines_in l.held (t ++ joined chunks) in
    ap (λ v. (answers (all_lines (lines_in held v)) scratch).text) (append_assoc s t (joined chunks)) ∙ ap (λ x. (answers (all_lines x) scratch).text) (lines_append held s (t ++ joined chunks))
    ∙ ap (λ v. (answers v scratch).text) (append_assoc l.ended m.ended (last_line m.held)) ∙ ap (λ (r : Reply). r.text) (answers_append l.ended (all_lines m) scratch)

-- the output of an input that comes in chunks
pub chunks_hold : (chunks : List Bytes) → first_line ++ in_chunks [] chunks zeros ≡ output (joined chunks)
unfolding output split in_chunks
chunks_hold chunks = ap (λ (r : Reply). first_line ++ r.text) (lines_cap [] (joined chunks) zeros)
