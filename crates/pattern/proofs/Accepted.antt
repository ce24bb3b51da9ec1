-- A source is accepted just where it is not too long and a tree within the limits derives it. Assumes nothing.
use mathlib.Core.Path.{◌≡◌, refl, sym, ap}
use mathlib.Core.Logic.{◌↔◌, ⊎_elim}
use mathlib.Core.Bool.{Bool, true, false, cond}
use mathlib.Core.List.{List, [], ◌∷◌}
use mathlib.Core.Option.{Option, none, some, some-ne-none, none-ne-some}
use Prim.Native.Nat.{ℕ, suc, ◌+◌, ◌-◌, ◌*◌, ◌≤◌, ◌<◌}
use native.Mathlib.Omega.{arith}
use lib.Bits.{bit_or, or_lt, or_add_and, and_le_l, and_le_r}
use lib.Dec.{leb, leb→le, le→leb}
use lib.ListN.{length}
use Rattle.pattern.specs.Numbers.{source_limit, atom_limit, depth_limit, number_limit, set_limit, LONG, FORM, CODE, NUMBER, RANGE, ATOMS, DEPTH}
use Rattle.pattern.specs.Bytes.{Bytes}
use Rattle.pattern.specs.Codes.{bit}
use Rattle.pattern.specs.Syntax.{pattern, atom, body, branches, Syntax, last, then, repeat, codes, literal, group, only, or, size}
use Rattle.pattern.specs.Meaning.{UpTo}
use Rattle.pattern.specs.Grammar.{BodyStart, letter, quote, opening, BranchEnd, closing, comma, neither, CountChar, digit, point, CharClass, count_char, body_start, branch_end, char_class, LiteralClass, plain, quoting, barred, literal_class, Derives}
use Rattle.pattern.specs.Parser.{CountState, empty, first, pointed, second, Phase, counting, inside, after, Stack, top, within, chain, fork, next, ParserState, enter, extend, leave, quoted, grow, counted, move, step, finish, read_from, start, read}
use Rattle.pattern.specs.ParserInvariant.{before_size, others_size, stack_size, begun_at}
use Rattle.pattern.specs.Scan.{low, high, longest_count, depth, body_begins, an_atom, begins, begun, falls, refuse, fault, Outcome, refused, accepted, scan, outcome}
use Rattle.pattern.specs.Within.{Small, Fits, InLimits, Limited}
use Rattle.pattern.proofs.Tests.{Decides, On, on_map, le_or_lt, leb_decides, both, no_test}
use Rattle.pattern.proofs.Notation.{digit_byte}
use Rattle.pattern.proofs.Begun.{chain_size, next_size, leave_count, move_count}
use Rattle.pattern.proofs.ParserCorrect.{form}
use Rattle.pattern.proofs.TableRows.{atom_fault_is, atom_fault, BothFit}
use Rattle.pattern.proofs.LongestCounts.{longest_next, longest_stop, grow_fit}

-- a count whose first number fits has no lower second one
pub Rises : CountState → Type 0
Rises r = low r ≤ number_limit → UpTo (high r) (low r)

-- how far a count was looked at once it has begun: its numbers fit so far, and its longest run r rises
Looked : CountState → CountState → Type 0
Looked empty r = Unit {0}
Looked (first n) r = BothFit (first n) × Rises r
Looked (pointed n) r = BothFit (pointed n) × Rises r
Looked (second n m) r = BothFit (second n m) × Rises r

-- all that is on the stack is within the limits
Befores : ℕ → List (Syntax atom) → Type 0
Befores d [] = Unit {0}
Befores d (a ∷ before) = Befores d before × InLimits d a

Forks : ℕ → List (Syntax pattern) → Type 0
Forks d [] = Unit {0}
Forks d (p ∷ others) = Forks d others × InLimits d p

Holding : Stack → Type 0
Holding (top before) = Befores 0 before
Holding (within k l h others before) = Holding k × Fits l h × (depth k < depth_limit) × Forks (suc (depth k)) others × Befores (suc (depth k)) before

PhaseHolds : Phase → Stack → Bytes → Type 0
PhaseHolds (counting r) k s = Looked r (longest_count r s)
PhaseHolds (inside l h value) k s = Fits l h
PhaseHolds (after l h b) k s = Fits l h × InLimits (depth k) b

-- what is within the limits in a state with the source s to come
abbrev Holds : ParserState → Bytes → Type 0
Holds q s = (begun_at q.0 q.1 ≤ atom_limit) × Holding q.1 × PhaseHolds q.0 q.1 s

chain_good : (d : ℕ) (before : List (Syntax atom)) (p : Syntax pattern) → (Befores d before × InLimits d p) ↔ InLimits d (chain before p)
unfolding Befores chain InLimits
chain_good d [] p = (λ h. h.1, λ h. (tt, h))
chain_good d (a ∷ before) p =
    (λ ((x, y), z). (chain_good d before (then a p)).0 (x, (y, z)), λ h. let (x, (y, z)) = (chain_good d before (then a p)).1 h in ((x, y), z))

fork_good : (d : ℕ) (others : List (Syntax pattern)) (bs : Syntax branches) → (Forks d others × InLimits d bs) ↔ InLimits d (fork others bs)
unfolding Forks fork InLimits
fork_good d [] bs = (λ h. h.1, λ h. (tt, h))
fork_good d (p ∷ others) bs =
    (λ ((x, y), z). (fork_good d others (or p bs)).0 (x, (y, z)), λ h. let (x, (y, z)) = (fork_good d others (or p bs)).1 h in ((x, y), z))

next_holding : (k : Stack) (a : Syntax atom) → (Holding k × InLimits (depth k) a) ↔ Holding (next k a)
unfolding Holding next Befores depth
next_holding (top before) a = (λ h. h, λ h. h)
next_holding (within k l h others before) a = (λ ((x, y, z, u, v), g). (x, y, z, u, (v, g)), λ (x, y, z, u, (v, g)). ((x, y, z, u, v), g))

-- ---- tests that find no fault

-- a test passes just where what it looks for is not there
pass : {b : Bool} {X : Type 0} → Decides b X → (f : ℕ) (ts : List (Bool × ℕ)) → (refuse ((b, f) ∷ ts) ≡ none) ↔ (¬ X × (refuse ts ≡ none))
unfolding refuse
pass {b = true} x f ts = (λ e. absurd (some-ne-none f e), λ (h, e). absurd (h (x.sound tt)))
pass {b = false} x f ts = (λ e. (λ y. x.complete y, e), λ (h, e). e)

pass_last : {b : Bool} {X : Type 0} → Decides b X → (f : ℕ) → (refuse ((b, f) ∷ []) ≡ none) ↔ (¬ X)
unfolding refuse
pass_last x f = (λ e. ((pass x f []).0 e).0, λ h. (pass x f []).1 (h, refl))

-- the last test, of a number that must be below a limit
below : (a b f : ℕ) → (refuse ((leb a b, f) ∷ []) ≡ none) ↔ (b < a)
below a b f = let u = pass_last (leb_decides a b) f in
    (λ e. ⊎_elim (λ h. absurd (u.0 e h)) (λ h. h) (le_or_lt a b), λ h. u.1 (λ k. omega arith))

falls_decides : (n : ℕ) (h : Option ℕ) → Decides (falls n h) (¬ UpTo h n)
unfolding falls UpTo
falls_decides n none = no_test (λ f. f tt)
falls_decides n (some m) = record { sound = λ t u. omega (arith, leb→le (suc m) n t); complete = λ f. ⊎_elim (λ h. absurd (f h)) (λ h. le→leb (suc m) n h) (le_or_lt n m) }

-- what is not absent is there, of facts on numbers
upto_stable : (h : Option ℕ) (n : ℕ) → ¬ (¬ UpTo h n) → UpTo h n
unfolding UpTo
upto_stable none n f = tt
upto_stable (some m) n f = ⊎_elim (λ u. u) (λ u. absurd (f (λ v. omega arith))) (le_or_lt n m)

pub atom_pass : (n : ℕ) (r : CountState) → (atom_fault n r ≡ none) ↔ (Rises r × (n < atom_limit))
unfolding Rises
atom_pass n r =
    rw (atom_fault_is n r) (
    let u = pass (both (leb_decides (low r) number_limit) (falls_decides (low r) (high r))) RANGE ((leb atom_limit n, ATOMS) ∷ []) in
    let v = below atom_limit n ATOMS in (
      λ e. let (x, f) = u.0 e in (λ h. upto_stable (high r) (low r) (λ z. x (h, z)), v.0 f),
      λ (x, y). u.1 (λ (h, k). k (x h), v.1 y),
    ))

-- ---- the count

-- a count begins or goes on
grow_looks : (r : CountState) (m : CountChar) (c : ℕ) (s : Bytes) (d n : ℕ) → char_class c ≡ count_char m
    → On (grow r m c) (λ r'. ((n ≤ atom_limit) × Looked r (longest_count r (c ∷ s)) × (fault (begins (counting r) (count_char m)) d n c s ≡ none))
    ↔ ((begun (begins (counting r) (count_char m)) n ≤ atom_limit) × Looked r' (longest_count r' s)))
unfolding grow Looked begins begun fault low high Small
grow_looks empty digit c s d n e =
    let u = atom_pass n (longest_count (first (c - 48)) s) in
    let h : c - 48 ≤ number_limit = omega (arith, digit_byte c e) in
    rw (longest_next empty (first (c - 48)) digit c s e refl) (λ (a, x, g). let (p, z) = u.0 g in (z, ((h, h), p)), λ (z, (y, p)). (omega arith, tt, u.1 (p, z)))
grow_looks empty point c s d n e =
    let u = atom_pass n (longest_count (pointed 0) s) in
    rw (longest_next empty (pointed 0) point c s e refl) (λ (a, x, g). let (p, z) = u.0 g in (z, ((omega arith, tt), p)), λ (z, (y, p)). (omega arith, tt, u.1 (p, z)))
grow_looks (first x) digit c s d n e =
    let u = below (suc number_limit) (10 * x + (c - 48)) NUMBER in
    let f = grow_fit (first x) digit c in
    rw (longest_next (first x) (first (10 * x + (c - 48))) digit c s e refl) (λ (a, (y, p), g). let h = u.0 g in (a, ((omega arith, omega arith), p)), λ (a, (y, p)). (a, (f y, p), u.1 (omega (arith, y.0))))
grow_looks (first x) point c s d n e = rw (longest_next (first x) (pointed x) point c s e refl) (λ (a, (y, p), g). (a, ((y.0, tt), p)), λ (a, ((y, z), p)). (a, ((y, y), p), refl))
grow_looks (pointed x) digit c s d n e = rw (longest_next (pointed x) (second x (c - 48)) digit c s e refl) (λ (a, (y, p), g). (a, ((y.0, omega (arith, digit_byte c e)), p)), λ (a, (y, p)). (a, ((y.0, tt), p), refl))
grow_looks (pointed x) point c s d n e = tt
grow_looks (second x y) digit c s d n e =
    let u = below (suc number_limit) (10 * y + (c - 48)) NUMBER in
    let f = grow_fit (second x y) digit c in
    rw (longest_next (second x y) (second x (10 * y + (c - 48))) digit c s e refl) (λ (a, (z, p), g). let h = u.0 g in (a, ((z.0, omega arith), p)), λ (a, (z, p)). (a, (f z, p), u.1 (omega (arith, z.1))))
grow_looks (second x y) point c s d n e = tt

-- the same in a state
counted_holds : (o : Option CountState) (k : Stack) (s : Bytes) (n n' : ℕ) (X G : Type 0) → On o (λ r. ((n ≤ atom_limit) × X × G) ↔ ((n' ≤ atom_limit) × Looked r (longest_count r s)))
    → On (counted k o) (λ q. begun_at q.0 q.1 ≡ n') → On (counted k o) (λ q. (((n ≤ atom_limit) × Holding k × X) × G) ↔ Holds q s)
unfolding counted PhaseHolds
counted_holds none k s n n' X G e c = tt
counted_holds (some r) k s n n' X G e c =
    (λ ((a, h, x), g). let (b, y) = e.0 (a, x, g) in (rw c b, h, y), λ (b, h, y). let (a, x, g) = e.1 (rw c at b, y) in ((a, h, x), g))

-- a count ends where a body begins
ended_fits : (r : CountState) → (BothFit r × Rises r) ↔ Fits (low r) (high r)
unfolding Rises
ended_fits r = (λ ((x, z), y). (x, z, y x), λ (x, z, y). ((x, z), λ h. y))

count_fits : (r : CountState) (b : BodyStart) (c : ℕ) (s : Bytes) → char_class c ≡ body_start b → (BothFit r × Rises (longest_count r (c ∷ s))) ↔ Fits (low r) (high r)
count_fits r b c s e = rw (longest_stop r b c s e) (ended_fits r)

-- ---- one byte

or_small : (a b : ℕ) → ((a < set_limit) × (b < set_limit)) ↔ (bit_or a b < set_limit)
or_small a b = (λ (x, y). or_lt 7 a b x y, λ h. (omega (arith, or_add_and a b, and_le_r a b), omega (arith, or_add_and a b, and_le_l a b)))

enter_holds : (l : ℕ) (h : Option ℕ) (k : Stack) (b : BodyStart) (c n : ℕ) (s : Bytes)
    → (((suc (stack_size k) ≤ atom_limit) × Holding k × Fits l h) × (fault (body_begins b) (depth k) n c s ≡ none)) ↔ Holds (enter l h k b c) s
unfolding enter fault body_begins begun_at stack_size before_size others_size size Holding PhaseHolds Looked InLimits Forks Befores
enter_holds l h k letter c n s =
    let u = below set_limit (bit c) CODE in
    (λ ((n, x, y), g). (omega arith, x, (y, u.0 g)), λ (n, x, (y, z)). ((omega arith, x, y), u.1 z))
enter_holds l h k quote c n s = (λ (x, g). x, λ x. (x, refl))
enter_holds l h k opening c n s =
    let u = below depth_limit (depth k) DEPTH in
    (λ ((n, x, y), g). (omega arith, (x, y, u.0 g, tt, tt), tt), λ (n, (x, y, z, v, w), i). ((omega arith, x, y), u.1 z))

extend_holds : (l : ℕ) (h : Option ℕ) (b : Syntax body) (k : Stack) (x : BodyStart) (c n : ℕ) (s : Bytes)
    → On (extend l h b k x c) (λ q. (((begun_at (after l h b) k ≤ atom_limit) × Holding k × (Fits l h × InLimits (depth k) b)) × (fault (body_begins x) (depth k) n c s ≡ none)) ↔ Holds q s)
unfolding extend fault body_begins begun_at size PhaseHolds InLimits
extend_holds l h (codes set) k letter c n s =
    let u = below set_limit (bit c) CODE in
    let v = or_small set (bit c) in
    (λ ((n, x, (y, z)), g). (n, x, (y, v.0 (z, u.0 g))), λ (n, x, (y, z)). ((n, x, (y, (v.1 z).0)), u.1 (v.1 z).1))
extend_holds l h (codes set) k quote c n s = tt
extend_holds l h (codes set) k opening c n s = tt
extend_holds l h (literal value) k letter c n s = tt
extend_holds l h (literal value) k quote c n s = (λ ((n, x, (y, z)), g). (omega arith, x, y), λ (n, x, y). ((omega arith, x, (y, tt)), refl))
extend_holds l h (literal value) k opening c n s = tt
extend_holds l h (group bs) k x c n s = tt

leave_holds : (k : Stack) (l : ℕ) (h : Option ℕ) (b : Syntax body) (x : BranchEnd) (s : Bytes)
    → On (leave k (repeat l h b) x) (λ q. ((begun_at (after l h b) k ≤ atom_limit) × Holding k × (Fits l h × InLimits (depth k) b)) ↔ Holds q s)
unfolding leave Holding PhaseHolds Looked InLimits Forks Befores depth
leave_holds (top before) l h b x s = tt
leave_holds (within k u v others before) l h b closing s =
    let a : Syntax pattern = last (repeat l h b) in
    let d : ℕ = suc (depth k) in
    let e : begun_at (after u v (group (fork others (only (chain before a))))) k ≡ begun_at (after l h b) (within k u v others before) =
    leave_count (within k u v others before) l h b closing in
    let i = chain_good d before a in
    let j = fork_good d others (only (chain before a)) in (
      λ (n, (x, y, z, w, t), g). (omega arith, x, (y, (z, j.0 (w, i.0 (t, g))))),
      λ (n, x, (y, (z, f))). let (w, o) = j.1 f in let (t, g) = i.1 o in (omega arith, (x, y, z, w, t), g),
    )
leave_holds (within k u v others before) l h b comma s =
    let a : Syntax pattern = last (repeat l h b) in
    let e : begun_at (counting empty) (within k u v (chain before a ∷ others) []) ≡ begun_at (after l h b) (within k u v others before) =
    leave_count (within k u v others before) l h b comma in
    let i = chain_good (suc (depth k)) before a in (
      λ (n, (x, y, z, w, t), g). (omega arith, (x, y, z, (w, i.0 (t, g)), tt), tt),
      λ (n, (x, y, z, (w, f), o), p). let (t, g) = i.1 f in (omega arith, (x, y, z, w, t), g),
    )
leave_holds (within k u v others before) l h b neither s = tt

quoted_holds : (l : ℕ) (h : Option ℕ) (value : Bytes) (k : Stack) (x : LiteralClass) (c : ℕ) (s : Bytes)
    → On (quoted l h value k x c) (λ q. ((suc (stack_size k) ≤ atom_limit) × Holding k × Fits l h) ↔ Holds q s)
unfolding quoted begun_at size PhaseHolds InLimits
quoted_holds l h value k plain c s = (λ x. x, λ x. x)
quoted_holds l h value k quoting c s = (λ (n, x, y). (omega arith, x, (y, tt)), λ (n, x, (y, z)). (omega arith, x, y))
quoted_holds l h value k barred c s = tt

-- an atom is over
next_holds : (k : Stack) (l : ℕ) (h : Option ℕ) (b : Syntax body) (s : Bytes) → Holds (after l h b, k) s ↔ Holds (counting empty, next k (repeat l h b)) s
unfolding begun_at PhaseHolds Looked size InLimits
next_holds k l h b s =
    let i = next_holding k (repeat l h b) in
    let e = next_size k (repeat l h b) in
    (λ (n, x, y). (omega arith, i.0 (x, y), tt), λ (n, x, y). let (z, w) = i.1 x in (omega arith, z, w))

-- the same with another count
by_fits : {n : ℕ} {H X Y G Z : Type 0} → X ↔ Y → (((n ≤ atom_limit) × H × Y) × G) ↔ Z → (((n ≤ atom_limit) × H × X) × G) ↔ Z
by_fits e f = (λ ((n, h, x), g). f.0 ((n, h, e.0 x), g), λ z. let ((n, h, y), g) = f.1 z in ((n, h, e.1 y), g))

no_fault : {X : Type 0} → (X × (◌≡◌ {A = Option ℕ} none none)) ↔ X
no_fault = (λ (x, g). x, λ y. (y, refl))

on_via : (o : Option ParserState) (s : Bytes) {X Z : Type 0} → Z ↔ X → On o (λ q. X ↔ Holds q s) → On o (λ q. Z ↔ Holds q s)
on_via o s e h = on_map o (λ q (f, g). (λ z. f (e.0 z), λ y. e.1 (g y))) h

counting_holds : (r : CountState) (k : Stack) (m : CountChar) (c : ℕ) (s : Bytes) → char_class c ≡ count_char m
    → On (counted k (grow r m c)) (λ q. (Holds (counting r, k) (c ∷ s) × (fault (begins (counting r) (count_char m)) (depth k) (begun_at (counting r) k) c s ≡ none)) ↔ Holds q s)
unfolding PhaseHolds move
counting_holds r k m c s e =
    let n : ℕ = begun_at (counting r) k in
    counted_holds (grow r m c) k s n (begun (begins (counting r) (count_char m)) n) _ _ (grow_looks r m c s (depth k) n e) (move_count (counting r) k (count_char m) c)

after_holds : (m : CountChar) (c : ℕ) (s : Bytes) (k : Stack) (l : ℕ) (h : Option ℕ) (b : Syntax body) → char_class c ≡ count_char m
    → On (counted (next k (repeat l h b)) (grow empty m c)) (λ q. (Holds (after l h b, k) (c ∷ s) × (fault an_atom (depth k) (begun_at (after l h b) k) c s ≡ none)) ↔ Holds q s)
unfolding begins fault
after_holds m c s k l h b e =
    let i = next_holds k l h b (c ∷ s) in
    let f : begun_at (after l h b) k ≡ begun_at (counting empty) (next k (repeat l h b)) = unfold begun_at size in sym (next_size k (repeat l h b)) in
    on_via (counted (next k (repeat l h b)) (grow empty m c)) s (λ (x, g). (i.0 x, rw f at g), λ (y, g). (i.1 y, rw f g)) (counting_holds empty (next k (repeat l h b)) m c s e)

-- a byte brings no fault, and all before is good, just where all is good after it
move_holds : (p : Phase) (k : Stack) (x : CharClass) (c : ℕ) (s : Bytes) → char_class c ≡ x
    → On (move p k x c) (λ q. (Holds (p, k) (c ∷ s) × (fault (begins p x) (depth k) (begun_at p k) c s ≡ none)) ↔ Holds q s)
unfolding move begins fault begun_at PhaseHolds Looked low high
move_holds (counting empty) k (count_char m) c s e = counting_holds empty k m c s e
move_holds (counting (first n)) k (count_char m) c s e = counting_holds (first n) k m c s e
move_holds (counting (pointed n)) k (count_char m) c s e = counting_holds (pointed n) k m c s e
move_holds (counting (second n x)) k (count_char m) c s e = counting_holds (second n x) k m c s e
move_holds (counting empty) k (body_start b) c s e = tt
move_holds (counting (first n)) k (body_start b) c s e = by_fits (count_fits (first n) b c s e) (enter_holds n (some n) k b c (suc (stack_size k)) s)
move_holds (counting (pointed n)) k (body_start b) c s e = by_fits (count_fits (pointed n) b c s e) (enter_holds n none k b c (suc (stack_size k)) s)
move_holds (counting (second n m)) k (body_start b) c s e = by_fits (count_fits (second n m) b c s e) (enter_holds n (some m) k b c (suc (stack_size k)) s)
move_holds (counting r) k (branch_end b) c s e = tt
move_holds (inside l h value) k x c s e = on_via (quoted l h value k (literal_class c) c) s no_fault (quoted_holds l h value k (literal_class c) c s)
move_holds (after l h b) k (count_char m) c s e = after_holds m c s k l h b e
move_holds (after l h b) k (body_start x) c s e = extend_holds l h b k x c (suc (size b) + stack_size k) s
move_holds (after l h b) k (branch_end x) c s e = on_via (leave k (repeat l h b) x) s no_fault (leave_holds k l h b x s)

-- ---- the whole source

finish_holds : (p : Phase) (k : Stack) → On (finish p k) (λ t. Holds (p, k) [] ↔ Limited t)
unfolding finish begun_at stack_size size Holding PhaseHolds InLimits depth
finish_holds (counting r) k = tt
finish_holds (inside l h value) k = tt
finish_holds (after l h b) (top before) =
    let a : Syntax pattern = last (repeat l h b) in
    let e = chain_size before a in
    let i = chain_good 0 before a in (
      λ (n, x, y). record { tree = i.0 (x, y); atoms = omega arith },
      λ t. let (x, y) = i.1 t.tree in (omega (arith, t.atoms), x, y),
    )
finish_holds (after l h b) (within k u v others before) = tt

module _ (t : Syntax pattern) where
  -- no fault is found from a state on, and all before is within the limits, just where the source is read as a tree within the limits
  Agrees : ParserState → ℕ → Bytes → Type 0
  Agrees q i s = ((scan q i (begun_at q.0 q.1) s ≡ accepted t) × Holds q s) ↔ ((read_from q s ≡ some t) × Limited t)

  at_end : (o : Option (Syntax pattern)) (i : ℕ) (X : Type 0) → On o (λ u. X ↔ Limited u)
      → ((◌≡◌ {A = Outcome} (elim o [ none ↦ refused FORM i | some u ↦ accepted u ]) (accepted t)) × X) ↔ ((o ≡ some t) × Limited t)
  at_end none i X h = (λ (e, x). absurd (let z : ◌≡◌ {A = ℕ} 0 1 = cc in omega arith), λ (e, x). absurd (none-ne-some t e))
  at_end (some u) i X h =
      (λ (e, x). let f : u ≡ t = cc in (ap some f, rw f at (h.0 x)), λ (e, x). let f : u ≡ t = cc in (ap accepted f, h.1 (rw f x)))

  at_byte : (o : Option ParserState) (f : Option ℕ) (i n : ℕ) (s : Bytes) (X : Type 0) → On o (λ q. (X × (f ≡ none)) ↔ Holds q s) → On o (λ q. begun_at q.0 q.1 ≡ n) → ((q : ParserState) → Agrees q (suc i) s)
      → ((◌≡◌ {A = Outcome} (elim o [ none ↦ refused FORM i | some q ↦ elim f [ some x ↦ refused x i | none ↦ scan q (suc i) n s ] ]) (accepted t)) × X)
      ↔ ((◌≡◌ {A = Option (Syntax pattern)} (elim o [ none ↦ none | some q ↦ read_from q s ]) (some t)) × Limited t)
  unfolding Agrees
  at_byte none f i n s X h c g = (λ (e, x). absurd (let z : ◌≡◌ {A = ℕ} 0 1 = cc in omega arith), λ (e, x). absurd (none-ne-some t e))
  at_byte (some q) none i n s X h c g = (
    λ (e, x). (g q).0 (rw c e, h.0 (x, refl)),
    λ r. let (e, x) = (g q).1 r in (rw c at e, (h.1 x).0),
  )
  at_byte (some q) (some x) i n s X h c g = (
    λ (e, x). absurd (let z : ◌≡◌ {A = ℕ} 0 1 = cc in omega arith),
    λ r. absurd (some-ne-none x (h.1 ((g q).1 r).1).1),
  )

  agrees : (s : Bytes) (q : ParserState) (i : ℕ) → Agrees q i s
  unfolding Agrees scan read_from step
  agrees [] q i = at_end (finish q.0 q.1) i (Holds q []) (finish_holds q.0 q.1)
  agrees (c ∷ s) q i =
      let n : ℕ = begun_at q.0 q.1 in
      at_byte (move q.0 q.1 (char_class c) c) (fault (begins q.0 (char_class c)) (depth q.1) n c s) i (begun (begins q.0 (char_class c)) n) s
      (Holds q (c ∷ s)) (move_holds q.0 q.1 (char_class c) c s refl) (move_count q.0 q.1 (char_class c) c) (λ q'. agrees s q' (suc i))

-- no fault is found just where the source is read as a tree within the limits
pub no_faults : (s : Bytes) (t : Syntax pattern) → (scan start 0 0 s ≡ accepted t) ↔ ((read s ≡ some t) × Limited t)
unfolding begun_at stack_size before_size Holding PhaseHolds Befores Looked Agrees read
no_faults s t = let a = agrees t s start 0 in (λ e. a.0 (e, (omega arith, tt, tt)), λ r. (a.1 r).0)

-- accepted exactly: a source is accepted with a tree just where it is not too long and the tree derives it and is within the limits
pub accepted_exactly : (s : Bytes) (t : Syntax pattern) → (outcome s ≡ accepted t) ↔ ((length s ≤ source_limit) × Derives t s × Limited t)
unfolding outcome
accepted_exactly s t = go (leb (length s) source_limit) (leb_decides (length s) source_limit)
  where
    go : (b : Bool) → Decides b (length s ≤ source_limit) → (cond b (scan start 0 0 s) (refused LONG source_limit) ≡ accepted t) ↔ ((length s ≤ source_limit) × Derives t s × Limited t)
    go true u = (λ e. let (f, x) = (no_faults s t).0 e in (u.sound tt, (form s t).0 f, x), λ (h, x, y). (no_faults s t).1 ((form s t).1 x, y))
    go false u = (λ e. absurd (let z : ◌≡◌ {A = ℕ} 0 1 = cc in omega arith), λ (h, x, y). absurd (u.complete h))
