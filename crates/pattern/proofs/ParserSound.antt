-- Each state of the parser stands for what has been read: the tree of a source that is read derives it. Assumes nothing.
use mathlib.Core.Path.{◌≡◌, refl}
use mathlib.Core.List.{List, [], ◌∷◌, ◌++◌, append_assoc, append-nil}
use mathlib.Core.Option.{Option, none, some}
use Prim.Native.Nat.{ℕ}
use Rattle.pattern.specs.Bytes.{Bytes}
use Rattle.pattern.specs.Syntax.{pattern, atom, body, branches, Syntax, last, then, repeat, codes, literal, group, only, or}
use Rattle.pattern.specs.Meaning.{Cut}
use Rattle.pattern.specs.Grammar.{BodyStart, letter, quote, opening, BranchEnd, closing, comma, neither, CountChar, digit, point, CharClass, count_char, body_start, branch_end, char_class, LiteralClass, plain, quoting, barred, literal_class, Number, missing, given, Count, exact, from, range, Letters, start as opened, byte, quote as doubled, Derives}
use Rattle.pattern.specs.Parser.{CountState, empty, first, pointed, second, Phase, counting, inside, after, Stack, top, within, chain, fork, next, ParserState, enter, extend, leave, quoted, grow, counted, move, step, finish, read_from, start, read}
use Rattle.pattern.specs.ParserInvariant.{state_after, AtomsBefore, BranchesBefore, AtBranchStart, CountSoFar, StackSoFar, ReadSoFar}
use Rattle.pattern.proofs.Tests.{On}
use Rattle.pattern.proofs.Notation.{ByteIn, class_byte, TextByte, literal_byte}

chain_derives : (before : List (Syntax atom)) (p : Syntax pattern) (u w : Bytes) → AtomsBefore before u → Derives p w → Derives (chain before p) (u ++ w)
unfolding AtomsBefore chain Derives Cut
chain_derives [] p u w e h = rw e h
chain_derives (a ∷ before) p u w (x, y, e, b, s) h = rw (e, append_assoc) (chain_derives before (then a p) x (y ++ w) b (y, w, refl, s, h))

fork_derives : (others : List (Syntax pattern)) (bs : Syntax branches) (u w : Bytes) → BranchesBefore others u → Derives bs w → Derives (fork others bs) (u ++ w)
unfolding BranchesBefore fork Derives Cut
fork_derives [] bs u w e h = rw e h
fork_derives (p ∷ others) bs u w (x, y, e, o, s) h = rw e (simp append_assoc (fork_derives others (or p bs) x (y ++ 44 ∷ w) o (y, w, refl, s, h)))

pub next_stack : (k : Stack) (a : Syntax atom) (u w : Bytes) → StackSoFar k u → Derives a w → StackSoFar (next k a) (u ++ w)
unfolding StackSoFar next AtomsBefore Cut
next_stack (top before) a u v h s = (u, v, refl, h, s)
next_stack (within k low high others before) a u v (x, y, z, w, e, f, g, o, b) s =
    (x, y, z, w ++ v, rw e (simp append_assoc), f, g, o, (w, v, refl, b, s))

-- a count begins
first_so_far : (k : Stack) (m : CountChar) (c : ℕ) → char_class c ≡ count_char m → ByteIn (count_char m) c → On (grow empty m c) (λ r. CountSoFar k r (c ∷ []))
unfolding grow CountSoFar
first_so_far k digit c d e = Number.one c d
first_so_far k point c d e = ([], rw e, missing)

-- a count goes on
pub grow_so_far : (k : Stack) (r : CountState) (m : CountChar) (c : ℕ) (u : Bytes) → char_class c ≡ count_char m → ByteIn (count_char m) c → CountSoFar k r u → On (grow r m c) (λ r'. CountSoFar k r' (u ++ c ∷ []))
unfolding grow CountSoFar
grow_so_far k empty m c u d e (h, o) = rw h (unfold grow CountSoFar in first_so_far k m c d e)
grow_so_far k (first n) digit c u d e h = Number.more h c d
grow_so_far k (first n) point c u d e h = (u, rw e, given h)
grow_so_far k (pointed n) digit c u d e (x, f, h) = (x, c ∷ [], rw f (simp append_assoc), h, Number.one c d)
grow_so_far k (pointed n) point c u d e h = tt
grow_so_far k (second n m) digit c u d e (x, y, f, h, g) = (x, y ++ c ∷ [], rw f (simp append_assoc), h, Number.more g c d)
grow_so_far k (second n m) point c u d e h = tt

abbrev Landed : Option ParserState → Bytes → Type 0
Landed o u = On o (λ q. ReadSoFar q.0 q.1 u)

counted_lands : (k : Stack) (o : Option CountState) (u w : Bytes) → StackSoFar k u → On o (λ r. CountSoFar k r w) → Landed (counted k o) (u ++ w)
unfolding counted ReadSoFar Cut
counted_lands k none u w h g = tt
counted_lands k (some r) u w h g = (u, w, refl, h, g)

enter_lands : (low : ℕ) (high : Option ℕ) (k : Stack) (b : BodyStart) (c : ℕ) (u w : Bytes) → char_class c ≡ body_start b → ByteIn (body_start b) c → StackSoFar k u → Count low high w
    → Landed (some (enter low high k b c)) ((u ++ w) ++ c ∷ [])
unfolding enter ReadSoFar Derives Cut StackSoFar BranchesBefore AtomsBefore CountSoFar AtBranchStart
enter_lands low high k letter c u w d e h g = (u, w ++ c ∷ [], simp append_assoc, h, (w, c ∷ [], refl, g, Letters.one c d))
enter_lands low high k quote c u w d e h g = (u, w ++ c ∷ [], simp append_assoc, h, (w, c ∷ [], refl, g, rw e opened))
enter_lands low high k opening c u w d e h g = ((u ++ w) ++ c ∷ [], [], simp append-nil, (u, w, [], [], rw e (simp append_assoc), h, g, refl, refl), (refl, refl))

extend_lands : (low : ℕ) (high : Option ℕ) (b : Syntax body) (k : Stack) (x : BodyStart) (c : ℕ) (u : Bytes) → char_class c ≡ body_start x → ByteIn (body_start x) c → ReadSoFar (after low high b) k u
    → Landed (extend low high b k x c) (u ++ c ∷ [])
unfolding extend ReadSoFar Derives Cut
extend_lands low high (codes set) k letter c u d e (x, y, f, h, (z, w, g, n, s)) =
    (x, y ++ c ∷ [], rw f (simp append_assoc), h, (z, w ++ c ∷ [], rw g (simp append_assoc), n, Letters.more s c d))
extend_lands low high (codes set) k quote c u d e h = tt
extend_lands low high (codes set) k opening c u d e h = tt
extend_lands low high (literal value) k letter c u d e h = tt
extend_lands low high (literal value) k quote c u d e (x, y, f, h, (z, w, g, n, (q, i, s))) =
    (x, y ++ c ∷ [], rw f (simp append_assoc), h, (z, w ++ c ∷ [], rw g (simp append_assoc), n, rw (i, append_assoc, e) (doubled s)))
extend_lands low high (literal value) k opening c u d e h = tt
extend_lands low high (group bs) k x c u d e h = tt

leave_lands : (k : Stack) (a : Syntax atom) (x : BranchEnd) (c : ℕ) (u w : Bytes) → ByteIn (branch_end x) c → StackSoFar k u → Derives a w → Landed (leave k a x) ((u ++ w) ++ c ∷ [])
unfolding leave ReadSoFar Derives Cut StackSoFar BranchesBefore AtomsBefore CountSoFar AtBranchStart
leave_lands (top before) a e c u w d h s = tt
leave_lands (within k low high others before) a closing c u w d (x, y, z, v, e, f, g, o, b) s = (
  x,
  y ++ (40 ∷ (z ++ (v ++ w)) ++ 41 ∷ []),
  rw (e, d) (simp append_assoc),
  f,
  (y, 40 ∷ (z ++ (v ++ w)) ++ 41 ∷ [], refl, g, (z ++ (v ++ w), refl, fork_derives others (only (chain before (last a))) z (v ++ w) o (chain_derives before (last a) v w b s))),
)
leave_lands (within k low high others before) a comma c u w d (x, y, z, v, e, f, g, o, b) s = (
  (u ++ w) ++ c ∷ [],
  [],
  simp append-nil,
  (x, y, z ++ (v ++ w) ++ 44 ∷ [], [], rw (e, d) (simp (append_assoc, append-nil)), f, g, (z, v ++ w, refl, o, chain_derives before (last a) v w b s), refl),
  (refl, refl),
)
leave_lands (within k low high others before) a neither c u w d h s = tt

quoted_lands : (low : ℕ) (high : Option ℕ) (value : Bytes) (k : Stack) (x : LiteralClass) (c : ℕ) (u : Bytes) → literal_class c ≡ x → TextByte x c → ReadSoFar (inside low high value) k u
    → Landed (quoted low high value k x c) (u ++ c ∷ [])
unfolding quoted ReadSoFar Derives Cut
quoted_lands low high value k plain c u d e (x, y, f, h, (z, w, g, n, s)) =
    (x, y ++ c ∷ [], rw f (simp append_assoc), h, (z, w ++ c ∷ [], rw g (simp append_assoc), n, byte s c d))
quoted_lands low high value k quoting c u d e (x, y, f, h, (z, w, g, n, s)) =
    (x, y ++ c ∷ [], rw f (simp append_assoc), h, (z, w ++ c ∷ [], rw g (simp append_assoc), n, (w, rw e, s)))
quoted_lands low high value k barred c u d e h = tt

move_lands : (p : Phase) (k : Stack) (x : CharClass) (c : ℕ) (u : Bytes) → char_class c ≡ x → ByteIn x c → ReadSoFar p k u → Landed (move p k x c) (u ++ c ∷ [])
unfolding move ReadSoFar Cut CountSoFar
move_lands (counting r) k (count_char m) c u d e (x, y, f, h, g) = rw (f, append_assoc) (counted_lands k (grow r m c) x (y ++ c ∷ []) h (grow_so_far k r m c y d e g))
move_lands (counting empty) k (body_start b) c u d e h = tt
move_lands (counting (first n)) k (body_start b) c u d e (x, y, f, h, g) = rw f (enter_lands n (some n) k b c x y d e h (exact g))
move_lands (counting (pointed n)) k (body_start b) c u d e (x, y, f, h, (z, i, g)) = rw f (enter_lands n none k b c x y d e h (rw i (from g)))
move_lands (counting (second n m)) k (body_start b) c u d e (x, y, f, h, (z, w, i, g, j)) = rw f (enter_lands n (some m) k b c x y d e h (rw i (range g j)))
move_lands (counting r) k (branch_end b) c u d e h = tt
move_lands (inside low high value) k x c u d e h = quoted_lands low high value k (literal_class c) c u refl (literal_byte c) h
move_lands (after low high b) k (count_char m) c u d e (x, y, f, h, g) =
    rw f (counted_lands (next k (repeat low high b)) (grow empty m c) (x ++ y) (c ∷ []) (next_stack k (repeat low high b) x y h g) (first_so_far (next k (repeat low high b)) m c d e))
move_lands (after low high b) k (body_start x) c u d e h = extend_lands low high b k x c u d e h
move_lands (after low high b) k (branch_end x) c u d e (y, z, f, h, g) = rw f (leave_lands k (repeat low high b) x c y z e h g)

finish_derives : (p : Phase) (k : Stack) (u : Bytes) → ReadSoFar p k u → On (finish p k) (λ t. Derives t u)
unfolding finish ReadSoFar Cut StackSoFar Derives
finish_derives (counting r) k u h = tt
finish_derives (inside low high value) k u h = tt
finish_derives (after low high b) (top before) u (x, y, f, h, g) = rw f (chain_derives before (last (repeat low high b)) x y h g)
finish_derives (after low high b) (within k l h others before) u g = tt

-- a state that is reached stands for what was read
state_stands : (s : Bytes) (q : ParserState) (u : Bytes) → ReadSoFar q.0 q.1 u → On (state_after q s) (λ q'. ReadSoFar q'.0 q'.1 (u ++ s))
unfolding state_after step
state_stands [] q u h = rw append-nil h
state_stands (c ∷ s) q u h = go (move q.0 q.1 (char_class c) c) (move_lands q.0 q.1 (char_class c) c u refl (class_byte c) h) (λ q' g. state_stands s q' (u ++ c ∷ []) g)
  where
    go : (o : Option ParserState) → Landed o (u ++ c ∷ []) → ((q' : ParserState) → ReadSoFar q'.0 q'.1 (u ++ c ∷ []) → On (state_after q' s) (λ q''. ReadSoFar q''.0 q''.1 ((u ++ c ∷ []) ++ s)))
        → On {A = ParserState} (elim o [ none ↦ none | some q' ↦ state_after q' s ]) (λ q''. ReadSoFar q''.0 q''.1 (u ++ c ∷ s))
    go none l f = tt
    go (some q') l f = rw append_assoc at (f q' l)

pub reached_derives : (u : Bytes) → On (state_after start u) (λ q. ReadSoFar q.0 q.1 u)
unfolding ReadSoFar StackSoFar AtomsBefore Cut CountSoFar AtBranchStart
reached_derives u = state_stands u start [] ([], [], refl, refl, (refl, refl))

-- what is read from a state on, if it was reached
unfoldable pub read_on : Option ParserState → Bytes → Option (Syntax pattern)
read_on none rest = none
read_on (some q) rest = read_from q rest

pub read_after : (w : Bytes) (q : ParserState) (rest : Bytes) → read_from q (w ++ rest) ≡ read_on (state_after q w) rest
unfolding read_from state_after read_on
read_after [] q rest = refl
read_after (c ∷ w) q rest = go (step q c) (λ q'. read_after w q' rest)
  where
    go : (o : Option ParserState) → ((q' : ParserState) → read_from q' (w ++ rest) ≡ read_on (state_after q' w) rest)
        → elim o [ none ↦ none | some q' ↦ read_from q' (w ++ rest) ] ≡ read_on (elim o [ none ↦ none | some q' ↦ state_after q' w ]) rest
    go none f = refl
    go (some q') f = f q'

-- the tree of a source that is read derives it
pub sound : (s : Bytes) → On (read s) (λ t. Derives t s)
unfolding read read_from
sound s =
    let e : read_from start s ≡ read_on (state_after start s) [] = rw append-nil at (read_after s start []) in
    rw e (go (state_after start s) (reached_derives s))
  where
    go : (o : Option ParserState) → On o (λ q. ReadSoFar q.0 q.1 s) → On (read_on o []) (λ t. Derives t s)
    go none h = unfold read_on in tt
    go (some q) h = unfold read_on in finish_derives q.0 q.1 s h
