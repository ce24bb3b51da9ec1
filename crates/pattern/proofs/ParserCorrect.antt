-- The parser is right: a source is read as a tree just where the tree derives it; where reading stops, the bytes before begin some such source, and with the next byte they begin none. Assumes nothing.
use mathlib.Core.Path.{◌≡◌, refl, ◌∙◌}
use mathlib.Core.Logic.{◌↔◌}
use mathlib.Core.List.{[], ◌∷◌, ◌++◌, append_assoc}
use mathlib.Core.Option.{Option, none, some, none-ne-some}
use Prim.Native.Nat.{ℕ}
use Rattle.pattern.specs.Bytes.{Bytes, between}
use Rattle.pattern.specs.Syntax.{pattern, body, Syntax, literal}
use Rattle.pattern.specs.Grammar.{char_class, literal_class, Derives}
use Rattle.pattern.specs.Parser.{empty, first, pointed, second, Phase, counting, inside, after, Stack, top, within, ParserState, enter, leave, quoted, grow, counted, move, step, finish, read_from, start, read}
use Rattle.pattern.specs.Faults.{Viable}
use Rattle.pattern.proofs.ParserSound.{sound}
use Rattle.pattern.proofs.ParserComplete.{Leads, reads_on, complete}

-- a source is read as a tree just where the tree derives it
pub form : (s : Bytes) (t : Syntax pattern) → (read s ≡ some t) ↔ Derives t s
form s t = (λ e. rw e at (sound s), complete t s)

-- one tree only derives a source
pub one_tree : (s : Bytes) (t u : Syntax pattern) → Derives t s → Derives u s → t ≡ u
one_tree s t u h g = cc (complete t s h, complete u s g)

-- the bytes that close what is open
closers : Stack → Bytes
closers (top before) = []
closers (within k low high others before) = 41 ∷ closers k

closes : (k : Stack) (low : ℕ) (high : Option ℕ) (b : Syntax body) → (t : Syntax pattern) × (read_from (after low high b, k) (closers k) ≡ some t)
unfolding closers read_from step finish move char_class between leave
closes (top before) low high b = (_, refl)
closes (within k l h others before) low high b = closes k l h _

-- from every state some bytes lead to an end
completes : (p : Phase) (k : Stack) → (w : Bytes) × (t : Syntax pattern) × (read_from (p, k) w ≡ some t)
unfolding read_from step move grow counted enter quoted literal_class char_class between
completes (counting empty) k = let (t, e) = closes k 0 (some 0) (literal []) in (48 ∷ 34 ∷ 34 ∷ closers k, t, e)
completes (counting (first n)) k = let (t, e) = closes k n (some n) (literal []) in (34 ∷ 34 ∷ closers k, t, e)
completes (counting (pointed n)) k = let (t, e) = closes k n none (literal []) in (34 ∷ 34 ∷ closers k, t, e)
completes (counting (second n m)) k = let (t, e) = closes k n (some m) (literal []) in (34 ∷ 34 ∷ closers k, t, e)
completes (inside low high value) k = let (t, e) = closes k low high (literal value) in (34 ∷ closers k, t, e)
completes (after low high b) k = let (t, e) = closes k low high b in (closers k, t, e)

pub viable : (u : Bytes) (q : ParserState) → Leads start u q → Viable u
unfolding Viable read
viable u q h = let (w, t, e) = completes q.0 q.1 in (w, t, (form (u ++ w) t).0 (reads_on h w ∙ e))

pub not_viable : (u : Bytes) (q : ParserState) (c : ℕ) → Leads start u q → step q c ≡ none → ¬ Viable (u ++ c ∷ [])
unfolding Viable read read_from
not_viable u q c h e (w, t, s) =
    let a : read_from start (u ++ c ∷ w) ≡ some t = complete t (u ++ c ∷ w) (rw append_assoc at s) in
    let b : read_from q (c ∷ w) ≡ none = rw (e, read_from) in
    let z : ◌≡◌ {A = Option (Syntax pattern)} none (some t) = cc (reads_on h (c ∷ w)) in
    none-ne-some t z
