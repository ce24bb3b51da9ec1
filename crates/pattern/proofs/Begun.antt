-- The atoms begun in a state are those of the tree read so far. Assumes nothing.
use mathlib.Core.Path.{◌≡◌, refl}
use mathlib.Core.List.{List, [], ◌∷◌}
use mathlib.Core.Option.{Option, none, some}
use Prim.Native.Nat.{ℕ, suc, ◌+◌}
use native.Mathlib.Omega.{arith}
use Rattle.pattern.specs.Bytes.{Bytes}
use Rattle.pattern.specs.Syntax.{pattern, atom, body, branches, Syntax, last, then, repeat, codes, literal, group, only, or, size}
use Rattle.pattern.specs.Grammar.{BodyStart, letter, quote, opening, BranchEnd, closing, comma, neither, CountChar, digit, point, CharClass, count_char, body_start, branch_end, LiteralClass, plain, quoting, barred, literal_class}
use Rattle.pattern.specs.Parser.{CountState, empty, first, pointed, second, Phase, counting, inside, after, Stack, top, within, chain, fork, next, enter, extend, leave, quoted, grow, counted, move}
use Rattle.pattern.specs.ParserInvariant.{before_size, others_size, stack_size, begun_at}
use Rattle.pattern.specs.Scan.{body_begins, begins, begun}
use Rattle.pattern.proofs.Tests.{On}

pub chain_size : (before : List (Syntax atom)) (p : Syntax pattern) → size (chain before p) ≡ before_size before + size p
unfolding before_size chain size
chain_size [] p = omega arith
chain_size (a ∷ before) p = omega (arith, chain_size before (then a p))

pub fork_size : (others : List (Syntax pattern)) (bs : Syntax branches) → size (fork others bs) ≡ others_size others + size bs
unfolding others_size fork size
fork_size [] bs = omega arith
fork_size (p ∷ others) bs = omega (arith, fork_size others (or p bs))

pub next_size : (k : Stack) (a : Syntax atom) → stack_size (next k a) ≡ size a + stack_size k
unfolding stack_size next before_size
next_size (top before) a = refl
next_size (within k l h others before) a = omega arith

grow_count : (r : CountState) (m : CountChar) (c : ℕ) (k : Stack) → On (counted k (grow r m c)) (λ q. begun_at q.0 q.1 ≡ suc (stack_size k))
unfolding counted grow begun_at
grow_count empty digit c k = refl
grow_count empty point c k = refl
grow_count (first n) digit c k = refl
grow_count (first n) point c k = refl
grow_count (pointed n) digit c k = refl
grow_count (pointed n) point c k = tt
grow_count (second n m) digit c k = refl
grow_count (second n m) point c k = tt

enter_count : (l : ℕ) (h : Option ℕ) (k : Stack) (b : BodyStart) (c : ℕ) → begun_at (enter l h k b c).0 (enter l h k b c).1 ≡ begun (body_begins b) (suc (stack_size k))
unfolding enter begun_at stack_size size before_size others_size begun body_begins
enter_count l h k letter c = omega arith
enter_count l h k quote c = refl
enter_count l h k opening c = omega arith

extend_count : (l : ℕ) (h : Option ℕ) (b : Syntax body) (k : Stack) (x : BodyStart) (c : ℕ)
    → On (extend l h b k x c) (λ q. begun_at q.0 q.1 ≡ begun (body_begins x) (begun_at (after l h b) k))
unfolding extend begun_at size begun body_begins
extend_count l h (codes set) k letter c = refl
extend_count l h (codes set) k quote c = tt
extend_count l h (codes set) k opening c = tt
extend_count l h (literal value) k letter c = tt
extend_count l h (literal value) k quote c = omega arith
extend_count l h (literal value) k opening c = tt
extend_count l h (group bs) k x c = tt

pub leave_count : (k : Stack) (l : ℕ) (h : Option ℕ) (b : Syntax body) (x : BranchEnd) → On (leave k (repeat l h b) x) (λ q. begun_at q.0 q.1 ≡ begun_at (after l h b) k)
unfolding leave begun_at stack_size size before_size others_size
leave_count (top before) l h b x = tt
leave_count (within k u v others before) l h b closing =
    omega (arith, fork_size others (only (chain before (last (repeat l h b)))), chain_size before (last (repeat l h b)))
leave_count (within k u v others before) l h b comma = omega (arith, chain_size before (last (repeat l h b)))
leave_count (within k u v others before) l h b neither = tt

quoted_count : (l : ℕ) (h : Option ℕ) (value : Bytes) (k : Stack) (x : LiteralClass) (c : ℕ) → On (quoted l h value k x c) (λ q. begun_at q.0 q.1 ≡ suc (stack_size k))
unfolding quoted begun_at size
quoted_count l h value k plain c = refl
quoted_count l h value k quoting c = omega arith
quoted_count l h value k barred c = tt

-- one more byte keeps the counter right
pub move_count : (p : Phase) (k : Stack) (x : CharClass) (c : ℕ) → On (move p k x c) (λ q. begun_at q.0 q.1 ≡ begun (begins p x) (begun_at p k))
unfolding move begun_at begins begun size
move_count (counting empty) k (count_char m) c = grow_count empty m c k
move_count (counting (first n)) k (count_char digit) c = grow_count (first n) digit c k
move_count (counting (first n)) k (count_char point) c = grow_count (first n) point c k
move_count (counting (pointed n)) k (count_char m) c = grow_count (pointed n) m c k
move_count (counting (second n x)) k (count_char digit) c = grow_count (second n x) digit c k
move_count (counting (second n x)) k (count_char point) c = grow_count (second n x) point c k
move_count (counting empty) k (body_start b) c = tt
move_count (counting (first n)) k (body_start b) c = enter_count n (some n) k b c
move_count (counting (pointed n)) k (body_start b) c = enter_count n none k b c
move_count (counting (second n m)) k (body_start b) c = enter_count n (some m) k b c
move_count (counting r) k (branch_end e) c = tt
move_count (inside l h value) k x c = quoted_count l h value k (literal_class c) c
move_count (after l h b) k (count_char m) c = rw next_size at (grow_count empty m c (next k (repeat l h b)))
move_count (after l h b) k (body_start x) c = extend_count l h b k x c
move_count (after l h b) k (branch_end x) c = leave_count k l h b x
