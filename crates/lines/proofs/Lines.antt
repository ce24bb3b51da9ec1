-- Laws of lines taken out of chunks. Assumes nothing.
use mathlib.Core.Path.{◌≡◌, refl, sym, ap, ◌∙◌}
use mathlib.Core.Bool.{Bool, true, false}
use mathlib.Core.List.{[], ◌∷◌, ◌++◌}
use Prim.Native.Nat.{ℕ, suc, ◌+◌, ◌≤◌, ◌<◌}
use native.Mathlib.Numerals.{add-one}
use native.Mathlib.Omega.{arith}
use lib.Dec.{eqb, ltb}
use lib.ListN.{length, get_or, take, drop, set, length-append, take-append-drop}
use lib.Seq.{slice, slice_empty, slice-cons, drop-append-le, take-take, take-suc-set, length-take-le}
use borrow.Author.Tests.{eq-eqb, ne_eqb, lt-ltb, le-ltb}
use Rattle.pattern.specs.Bytes.{Bytes}
use Rattle.pattern.proofs.Tests.{if_true, if_false}
use Rattle.replies.specs.Sizes.{held_limit, newline_byte}
use Rattle.lines.specs.Output.{hold, LinesIn, line_first, lines_in}
use Rattle.lines.specs.Taking.{one_line}

-- a chunk after another
abbrev chunk_after : LinesIn → Bytes → LinesIn
chunk_after l s = let m = lines_in l.held s in record { ended = l.ended ++ m.ended; held = m.held }

pub lines_append : (held s t : Bytes) → lines_in held (s ++ t) ≡ chunk_after (lines_in held s) t
unfolding lines_in line_first
lines_append held [] t = refl
lines_append held (c ∷ s) t = go (eqb c newline_byte) (lines_append [] s t) (lines_append (hold held c) s t)
  where
    go : (b : Bool) → lines_in [] (s ++ t) ≡ chunk_after (lines_in [] s) t → lines_in (hold held c) (s ++ t) ≡ chunk_after (lines_in (hold held c) s) t
        → (elim b [ true ↦ line_first held (lines_in [] (s ++ t)) | false ↦ lines_in (hold held c) (s ++ t) ]) ≡ chunk_after (elim b [ true ↦ line_first held (lines_in [] s) | false ↦ lines_in (hold held c) s ]) t
    go true x y = ap (line_first held) x
    go false x y = y

pub hold_longer : (held : Bytes) (c : ℕ) → length held ≤ length (hold held c)
unfolding hold
hold_longer held c = go (ltb (length held) held_limit)
  where
    go : (b : Bool) → length held ≤ length {A = ℕ} (elim b [ true ↦ held ++ c ∷ [] | false ↦ held ])
    go true = omega (arith, length-append held (c ∷ []))
    go false = omega arith

-- two parts of a list, one where the other ends
pub slice_join : (s : Bytes) (i j k : ℕ) → i ≤ j → j ≤ k → k ≤ length s → slice i k s ≡ slice i j s ++ slice j k s
slice_join s i j k h l m =
    ap (drop i) (sym (take-append-drop j (take k s)))
    ∙ drop-append-le i (take j (take k s)) (drop j (take k s)) (omega (arith, length-take-le j (take k s) (omega (arith, length-take-le k s m))))
    ∙ ap (λ (v : Bytes). drop i v ++ slice j k s) (take-take j k s l)

slice_one : (s : Bytes) (j : ℕ) → j < length s → slice j (j + 1) s ≡ get_or s j 0 ∷ []
slice_one s j l = slice-cons j (j + 1) s 0 (omega arith) (omega arith) ∙ ap (λ k. get_or s j 0 ∷ slice (suc j) k s) (add-one j) ∙ ap (λ v. get_or s j 0 ∷ v) (slice_empty (suc j) s)

-- a byte put after n held ones, where there is room, and where there is none
hold_room : (line : Bytes) (n b : ℕ) → n < held_limit → length line ≡ held_limit → hold (take n line) b ≡ take (n + 1) (set line n b)
unfolding hold
hold_room line n b h e =
    let l : length (take n line) ≡ n = length-take-le n line (omega arith) in
    if_true _ _ _ (lt-ltb (length (take n line)) held_limit (omega arith)) ∙ sym (ap (λ k. take k (set line n b)) (add-one n) ∙ take-suc-set line n b (omega arith))

hold_full : (line : Bytes) (n b : ℕ) → held_limit ≤ n → n ≤ length line → hold (take n line) b ≡ take n line
unfolding hold
hold_full line n b h e = let l : length (take n line) ≡ n = length-take-le n line e in if_false _ _ _ (le-ltb (length (take n line)) held_limit (omega arith))

pub taken_nothing : (held chunk : Bytes) (from : ℕ) → lines_in held (slice from from chunk) ≡ one_line false held
unfolding lines_in one_line
taken_nothing held chunk from = ap (lines_in held) (slice_empty from chunk)

-- a turn of taking: the byte at a place is a newline; or it is held, where there is room, and where there is none
module _ (held₀ chunk line : Bytes) (from at n : ℕ) (begun : lines_in held₀ (slice from at chunk) ≡ one_line false (take n line)) (before : from ≤ at) (more : at < length chunk) where
  one_more : lines_in held₀ (slice from (at + 1) chunk) ≡ lines_in (take n line) (get_or chunk at 0 ∷ [])
  unfolding one_line
  one_more =
      ap (lines_in held₀) (slice_join chunk from at (at + 1) before (omega arith) (omega arith)) ∙ lines_append held₀ (slice from at chunk) (slice at (at + 1) chunk)
      ∙ ap (λ l. chunk_after l (slice at (at + 1) chunk)) begun ∙ ap (lines_in (take n line)) (slice_one chunk at more)

  pub turn_newline : get_or chunk at 0 ≡ newline_byte → lines_in held₀ (slice from (at + 1) chunk) ≡ one_line true (take n line)
  unfolding lines_in line_first one_line
  turn_newline e = one_more ∙ if_true _ _ _ (eq-eqb _ _ e)

  module _ (byte : ¬ (get_or chunk at 0 ≡ newline_byte)) where
    held_more : lines_in held₀ (slice from (at + 1) chunk) ≡ one_line false (hold (take n line) (get_or chunk at 0))
    unfolding lines_in one_line
    held_more = one_more ∙ if_false _ _ _ (ne_eqb _ _ byte)

    pub turn_room : n < held_limit → length line ≡ held_limit → lines_in held₀ (slice from (at + 1) chunk) ≡ one_line false (take (n + 1) (set line n (get_or chunk at 0)))
    turn_room h e = held_more ∙ ap (one_line false) (hold_room line n _ h e)

    pub turn_full : held_limit ≤ n → n ≤ length line → lines_in held₀ (slice from (at + 1) chunk) ≡ one_line false (take n line)
    turn_full h e = held_more ∙ ap (one_line false) (hold_full line n _ h e)
