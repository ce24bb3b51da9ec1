-- The whole output of the line tool, and its lines as they come in chunks of input. To be believed.
use Rattle.std.specs.Prelude.{true, false, List, [], ◌∷◌, ◌++◌, ℕ, ltb, eqb, length}
use Rattle.pattern.specs.Bytes.{Bytes, bytes, zeroed}
use Rattle.replies.specs.Sizes.{held_limit, newline_byte}
use Rattle.replies.specs.Reply.{Reply, answer_to, zeros}

-- a text before that of a reply
unfoldable pub prefixed : Bytes → Reply → Reply
prefixed text r = record { text = text ++ r.text; scratch = r.scratch }

-- the answers to lines, scratch going from one to the next
unfoldable pub answers : List Bytes → (scratch : Bytes) → Reply
answers [] scratch = record { text = []; scratch = scratch }
answers (line ∷ rest) scratch = prefixed (answer_to line scratch).text (answers rest (answer_to line scratch).scratch)

-- "a last line without a newline counts if it has bytes"
unfoldable pub last_line : Bytes → List Bytes
last_line [] = []
last_line (c ∷ s) = (c ∷ s) ∷ []

-- the lines of an input after the first bytes of a line
unfoldable pub lines_after : (begun input : Bytes) → List Bytes
lines_after begun [] = last_line begun
lines_after begun (c ∷ s) = elim (eqb c newline_byte) [ true ↦ begun ∷ lines_after [] s | false ↦ lines_after (begun ++ c ∷ []) s ]

-- the lines of an input
unfoldable pub split : Bytes → List Bytes
split input = lines_after [] input

unfoldable pub first_line : Bytes
first_line = bytes "MPT 2" ++ newline_byte ∷ []

unfoldable pub output : (input : Bytes) → Bytes
output input = first_line ++ (answers (split input) zeros).text

-- ---- in chunks

-- one byte more of a held line, of which no more than held_limit bytes are kept
unfoldable pub hold : Bytes → ℕ → Bytes
hold held c = elim (ltb (length held) held_limit) [ true ↦ held ++ c ∷ [] | false ↦ held ]

-- the lines that end in a chunk, and what is held of a line after it
pub record LinesIn : Type 0 where
  pub ended : List Bytes
  pub held : Bytes

-- a line before others
unfoldable pub line_first : Bytes → LinesIn → LinesIn
line_first line l = record { ended = line ∷ l.ended; held = l.held }

-- the lines of a chunk after a held line
unfoldable pub lines_in : (held chunk : Bytes) → LinesIn
lines_in held [] = record { ended = []; held = held }
lines_in held (c ∷ s) = elim (eqb c newline_byte) [ true ↦ line_first held (lines_in [] s) | false ↦ lines_in (hold held c) s ]

-- the lent bytes in which lines were held one after the other, with zeros over each
unfoldable pub wiped : List Bytes → (line : Bytes) → Bytes
wiped [] line = line
wiped (l ∷ rest) line = wiped rest (zeroed (length l) line)

-- chunks one after the other
unfoldable pub joined : List Bytes → Bytes
joined [] = []
joined (chunk ∷ rest) = chunk ++ joined rest
