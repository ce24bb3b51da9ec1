-- The places of RANGE and ATOMS, where an atom begins, by what the bytes spell. Assumes nothing.
use mathlib.Core.Path.{◌≡◌, refl, sym}
use mathlib.Core.Logic.{◌↔◌, inl, inr, ⊎_elim}
use mathlib.Core.Bool.{not, ◌&&◌}
use mathlib.Core.List.{[], ◌∷◌, ◌++◌, append_assoc, append-nil}
use mathlib.Core.Option.{Option, none, some, none-ne-some}
use Prim.Native.Nat.{ℕ, suc, ◌≤◌, ◌<◌}
use native.Mathlib.Omega.{arith}
use lib.Dec.{T, leb, eqb}
use lib.ListN.{take, drop}
use Rattle.pattern.specs.Numbers.{opening_byte, atom_limit, number_limit, FORM, CODE, NUMBER, RANGE, ATOMS, DEPTH}
use Rattle.pattern.specs.Bytes.{Bytes}
use Rattle.pattern.specs.Syntax.{repeat, size}
use Rattle.pattern.specs.Meaning.{Cut}
use Rattle.pattern.specs.Grammar.{BodyStart, letter, quote, opening, CountChar, digit, point, CharClass, count_char, body_start, branch_end, char_class}
use Rattle.pattern.specs.Parser.{CountState, empty, first, pointed, second, Phase, counting, inside, after, Stack, top, within, next, ParserState, grow, counted, move, step, start}
use Rattle.pattern.specs.ParserInvariant.{state_after, AtomsBefore, AtBranchStart, CountSoFar, StackSoFar, ReadSoFar, stack_size, begun_at}
use Rattle.pattern.specs.Scan.{low, high, longest_count, depth, Begins, an_atom, a_digit, a_code, a_group, nothing, body_begins, begins, falls, atom_rows, rows, refused, outcome}
use Rattle.pattern.specs.Faults.{form_row, rows_there, rows_at, Applies, Least, RangeAt, AtomBegins, AtomsAt}
use Rattle.pattern.proofs.Tests.{neither_holds, Decides, both, via, no_test, leb_decides}
use Rattle.pattern.proofs.TableRows.{lacking, end_row, range_row}
use Rattle.pattern.proofs.Begun.{next_size}
use Rattle.pattern.proofs.ParserSound.{next_stack}
use Rattle.pattern.proofs.ParserComplete.{state_exactly}
use Rattle.pattern.proofs.Least.{named_least}
use Rattle.pattern.proofs.LongestCounts.{longest_stop, count_longest, longest_one}

-- ---- the states in which an atom may begin

-- an atom may begin in this phase and stack, and its stack is k'
unfoldable Before : Phase → Stack → Stack → Type 0
Before (counting empty) k k' = k ≡ k'
Before (counting (first n)) k k' = ⊥
Before (counting (pointed n)) k k' = ⊥
Before (counting (second n m)) k k' = ⊥
Before (inside l h value) k k' = ⊥
Before (after l h b) k k' = next k (repeat l h b) ≡ k'

-- all that has been read is all that is before the atom
before_reads : (p : Phase) (k k' : Stack) (u : Bytes) → Before p k k' → ReadSoFar p k u → StackSoFar k' u
unfolding Before ReadSoFar Cut CountSoFar
before_reads (counting empty) k k' u e (x, y, f, h, (g, o)) = rw (← e, f, g, append-nil) h
before_reads (counting (first n)) k k' u e h = absurd e
before_reads (counting (pointed n)) k k' u e h = absurd e
before_reads (counting (second n m)) k k' u e h = absurd e
before_reads (inside l z value) k k' u e h = absurd e
before_reads (after l z b) k k' u e (x, y, f, h, g) = rw (← e, f) (next_stack k (repeat l z b) x y h g)

-- and all that is before an atom leads to such a state
reads_before : (k : Stack) (u : Bytes) → StackSoFar k u → (q : ParserState) × Before q.0 q.1 k × ReadSoFar q.0 q.1 u
unfolding Before ReadSoFar StackSoFar AtomsBefore Cut CountSoFar AtBranchStart next
reads_before (top []) u h = ((counting empty, top []), refl, (u, [], sym (append-nil u), h, (refl, refl)))
reads_before (top (repeat l z b ∷ before)) u h = ((after l z b, top before), refl, h)
reads_before (within k l z others []) u h = ((counting empty, within k l z others []), refl, (u, [], sym (append-nil u), h, (refl, refl)))
reads_before (within k l z others (repeat i j b ∷ before)) u (x, y, v, w, e, f, c, o, (a, d, g, h, t)) =
    ((after i j b, within k l z others before), refl, (x ++ y ++ opening_byte ∷ v ++ a, d, rw (e, g) (simp append_assoc refl), (x, y, v, a, refl, f, c, o, h), t))

-- as many atoms have begun as are before it
before_begun : (p : Phase) (k k' : Stack) → Before p k k' → begun_at p k ≡ stack_size k'
unfolding Before begun_at size
before_begun (counting empty) k k' e = rw e refl
before_begun (counting (first n)) k k' e = absurd e
before_begun (counting (pointed n)) k k' e = absurd e
before_begun (counting (second n m)) k k' e = absurd e
before_begun (inside l h value) k k' e = absurd e
before_begun (after l h b) k k' e = rw (← e) (sym (next_size k (repeat l h b)))

-- ---- a row that only an atom has

-- no atom begins
abbrev Atomless : Begins → Type 0
Atomless an_atom = ⊥
Atomless (a_digit v) = Unit {0}
Atomless a_code = Unit {0}
Atomless a_group = Unit {0}
Atomless nothing = Unit {0}

body_atomless : (b : BodyStart) → Atomless (body_begins b)
unfolding body_begins
body_atomless letter = tt
body_atomless quote = tt
body_atomless opening = tt

-- an atom begins with a byte of this class, and its stack is k'
abbrev StartsAtom : Phase → Stack → CharClass → Stack → Type 0
StartsAtom p k (count_char m) k' = Before p k k'
StartsAtom p k (body_start b) k' = ⊥
StartsAtom p k (branch_end e) k' = ⊥

starts_so : (p : Phase) (k k' : Stack) (x : CharClass) → StartsAtom p k x k' → Before p k k' × ((m : CountChar) × (x ≡ count_char m))
starts_so p k k' (count_char m) b = (b, (m, refl))
starts_so p k k' (body_start x) b = absurd b
starts_so p k k' (branch_end x) b = absurd b

-- f is the number of a row that an atom has just where F holds of the atoms before it and of its count, and that nothing else has
module _ (f : ℕ) (F : ℕ → CountState → Type 0) (row : (n : ℕ) (r : CountState) → Applies (atom_rows n r) f ↔ F n r)
    (form : T (not (eqb FORM f))) (code : T (not (eqb CODE f))) (number : T (not (eqb NUMBER f))) (group : T (not (eqb DEPTH f))) where
  no_atom : (b : Begins) (d n c : ℕ) (s : Bytes) → Atomless b → ¬ Applies (rows b d n c s) f
  unfolding rows
  no_atom an_atom d n c s h = absurd h
  no_atom (a_digit v) d n c s h = lacking _ f (number, tt)
  no_atom a_code d n c s h = lacking _ f (code, tt)
  no_atom a_group d n c s h = lacking _ f (group, tt)
  no_atom nothing d n c s h = lacking [] f tt

  module _ (d c : ℕ) (s : Bytes) where
    -- the row applies just where an atom begins of which F holds
    AtomRow : Phase → Stack → CharClass → Option ParserState → Type 0
    AtomRow p k x o =
        Applies (elim o [ none ↦ form_row | some q ↦ rows (begins p x) d (begun_at p k) c s ]) f
        ↔ ((k' : Stack) × StartsAtom p k x k' × F (stack_size k') (longest_count empty (c ∷ s)))

    no_start : (p : Phase) (k : Stack) (x : CharClass) (o : Option ParserState) → Atomless (begins p x) → ((k' : Stack) → ¬ StartsAtom p k x k') → AtomRow p k x o
    unfolding AtomRow
    no_start p k x none h g = neither_holds (lacking form_row f (form, tt)) (λ (k', e, y). g k' e)
    no_start p k x (some q) h g = neither_holds (no_atom (begins p x) d (begun_at p k) c s h) (λ (k', e, y). g k' e)

    starts : (p : Phase) (k k' : Stack) (m : CountChar) (q : ParserState) → begins p (count_char m) ≡ an_atom → Before p k k' → ((k'' : Stack) → Before p k k'' → k' ≡ k'') → AtomRow p k (count_char m) (some q)
    unfolding AtomRow rows
    starts p k k' m q a b g =
        let (i, j) = row (stack_size k') (longest_count empty (c ∷ s)) in
        rw (a, before_begun p k k' b) (λ h. (k', b, i h), λ (k'', e, y). j (rw (g k'' e) y))

    atom_move : (p : Phase) (k : Stack) (x : CharClass) → AtomRow p k x (move p k x c)
    unfolding move begins counted grow Before
    atom_move (counting empty) k (count_char digit) = starts _ k k digit _ refl refl (λ k' e. e)
    atom_move (counting empty) k (count_char point) = starts _ k k point _ refl refl (λ k' e. e)
    atom_move (counting (first v)) k (count_char digit) = no_start _ _ _ _ tt (λ k' e. e)
    atom_move (counting (first v)) k (count_char point) = no_start _ _ _ _ tt (λ k' e. e)
    atom_move (counting (pointed v)) k (count_char m) = no_start _ _ _ _ tt (λ k' e. e)
    atom_move (counting (second v w)) k (count_char digit) = no_start _ _ _ _ tt (λ k' e. e)
    atom_move (counting (second v w)) k (count_char point) = no_start _ _ _ _ tt (λ k' e. e)
    atom_move (counting r) k (body_start b) = no_start _ _ _ _ (body_atomless b) (λ k' e. e)
    atom_move (counting r) k (branch_end x) = no_start _ _ _ _ tt (λ k' e. e)
    atom_move (inside l h value) k (count_char m) = no_start _ _ _ _ tt (λ k' e. e)
    atom_move (inside l h value) k (body_start b) = no_start _ _ _ _ tt (λ k' e. e)
    atom_move (inside l h value) k (branch_end x) = no_start _ _ _ _ tt (λ k' e. e)
    atom_move (after l h b) k (count_char digit) = starts _ k (next k (repeat l h b)) digit _ refl refl (λ k' e. e)
    atom_move (after l h b) k (count_char point) = starts _ k (next k (repeat l h b)) point _ refl refl (λ k' e. e)
    atom_move (after l h b) k (body_start x) = no_start _ _ _ _ (body_atomless x) (λ k' e. e)
    atom_move (after l h b) k (branch_end x) = no_start _ _ _ _ tt (λ k' e. e)

  -- the same for the rows in a state
  atom_state : (o : Option ParserState) (s : Bytes)
      → Applies (rows_there o s) f ↔ ((q : ParserState) × (k : Stack) × (o ≡ some q) × Before q.0 q.1 k × AtomBegins s × F (stack_size k) (longest_count empty s))
  unfolding rows_there Applies AtomBegins AtomRow step
  atom_state none s = neither_holds (λ a. a) (λ (q, k, e, b, x, y). none-ne-some q e)
  atom_state (some q) [] = neither_holds (end_row f (form, tt) (some q)) (λ (q, k, e, b, x, y). x)
  atom_state (some q) (c ∷ s) =
      let (i, j) = atom_move (depth q.1) c s q.0 q.1 (char_class c) in (
        λ a. let (k, b, y) = i a in
            let (z, x) = starts_so q.0 q.1 k (char_class c) b in
            (q, k, refl, z, x, y),
        λ (q', k, e, b, (m, x), y). let g : q ≡ q' = cc in j (k, rw (x, g) b, y),
      )

  atom_exactly : (s : Bytes) (p : ℕ) → Applies (rows_at s p) f ↔ ((k : Stack) × StackSoFar k (take p s) × AtomBegins (drop p s) × F (stack_size k) (longest_count empty (drop p s)))
  unfolding rows_at
  atom_exactly s p =
      let (i, j) = atom_state (state_after start (take p s)) (drop p s) in (
        λ a. let (q, k, e, b, x, y) = i a in (k, before_reads q.0 q.1 k (take p s) b ((state_exactly (take p s) q).0 e), x, y),
        λ (k, h, x, y). let (q, b, r) = reads_before k (take p s) h in j (q, k, (state_exactly (take p s) q).1 r, b, x, y),
      )

-- ---- RANGE and ATOMS

-- both numbers fit and the second is less
FitsAndFalls : CountState → Type 0
FitsAndFalls r = (n m : ℕ) × (r ≡ second n m) × (n ≤ number_limit) × (m ≤ number_limit) × (m < n)

not_second : (r : CountState) → ((n m : ℕ) → ¬ (r ≡ second n m)) → ¬ FitsAndFalls r
unfolding FitsAndFalls
not_second r f (n, m, e, x, y, z) = f n m e

no_count : ¬ FitsAndFalls empty
no_count = not_second empty (λ n m e. let z : ◌≡◌ {A = ℕ} 0 1 = cc in omega arith)

range_decides : (r : CountState) → Decides (leb (low r) number_limit && falls (low r) (high r)) (FitsAndFalls r)
unfolding FitsAndFalls low high falls
range_decides empty = no_test no_count
range_decides (first x) = via (both (leb_decides x number_limit) (leb_decides (suc x) x)) (neither_holds (λ (a, b). omega arith) (not_second (first x) (λ n m e. let z : ◌≡◌ {A = ℕ} 0 1 = cc in omega arith)))
range_decides (pointed x) = via (both (leb_decides x number_limit) (no_test (λ b. b))) (neither_holds (λ (a, b). b) (not_second (pointed x) (λ n m e. let z : ◌≡◌ {A = ℕ} 0 1 = cc in omega arith)))
range_decides (second x y) =
    via (both (leb_decides x number_limit) (leb_decides (suc y) x)) (
      λ (a, b). (x, y, refl, a, omega arith, b),
      λ (n, m, e, a, b, c). let f : n ≡ x = cc in let g : m ≡ y = cc in (omega arith, omega arith),
    )

range_of_atom : (n : ℕ) (r : CountState) → Applies (atom_rows n r) RANGE ↔ FitsAndFalls r
unfolding atom_rows Applies
range_of_atom n r = (
  ⊎_elim (λ (t, e). (range_decides r).sound (rw (range_row (low r) (high r)) at t)) (⊎_elim (λ (t, e). absurd (omega arith)) (λ b. absurd b)),
  λ h. inl (rw (range_row (low r) (high r)) ((range_decides r).complete h), refl),
)

atoms_of_atom : (n : ℕ) (r : CountState) → Applies (atom_rows n r) ATOMS ↔ (atom_limit ≤ n)
unfolding atom_rows Applies
atoms_of_atom n r = (⊎_elim (λ (t, e). absurd (omega arith)) (⊎_elim (λ (t, e). (leb_decides atom_limit n).sound t) (λ b. absurd b)), λ h. inr (inl ((leb_decides atom_limit n).complete h, refl)))

-- where there is a count, an atom begins
falls_begins : (s : Bytes) → FitsAndFalls (longest_count empty s) → AtomBegins s
unfolding longest_count AtomBegins
falls_begins [] h = absurd (no_count h)
falls_begins (c ∷ s) h = go (char_class c) refl
  where
    go : (x : CharClass) → char_class c ≡ x → (m : CountChar) × (char_class c ≡ count_char m)
    go (count_char m) e = (m, e)
    go (body_start b) e = absurd (no_count (rw (longest_stop empty b c s e) at h))
    go (branch_end b) e = absurd (no_count (rw (e, longest_count) at h))

-- RANGE applies at a position just where an atom begins with a count whose numbers both fit and whose second is less
pub range_exactly : (s : Bytes) (p : ℕ) → Applies (rows_at s p) RANGE ↔ RangeAt s p
unfolding RangeAt FitsAndFalls
range_exactly s p =
    let (i, j) = atom_exactly RANGE (λ n r. FitsAndFalls r) range_of_atom tt tt tt tt s p in (
      λ a. let (k, h, x, (n, m, e, y, z, l)) = i a in (k, h, n, m, rw e at (count_longest (drop p s)), y, z, l),
      λ (k, h, n, m, l, x, y, z). let g : FitsAndFalls (longest_count empty (drop p s)) = (n, m, sym (longest_one (drop p s) (second n m) l), x, y, z) in j (k, h, falls_begins (drop p s) g, g),
    )

-- ATOMS applies just where an atom begins after 256 others or more
pub atoms_exactly : (s : Bytes) (p : ℕ) → Applies (rows_at s p) ATOMS ↔ AtomsAt s p
unfolding AtomsAt
atoms_exactly s p =
    let (i, j) = atom_exactly ATOMS (λ n r. atom_limit ≤ n) atoms_of_atom tt tt tt tt s p in
    (λ a. let (k, h, x, y) = i a in (k, h, y, x), λ (k, h, y, x). j (k, h, x, y))

-- "an ATOMS fault at the same count now comes first", and so does RANGE: neither stands before the digit at which NUMBER is named
pub atom_first : (s : Bytes) (p : ℕ) → outcome s ≡ refused NUMBER p → (j : ℕ) → j < p → (¬ RangeAt s j) × (¬ AtomsAt s j)
unfolding Least
atom_first s p e j h =
    let (l, (a, b, c)) = named_least s NUMBER p (omega arith) e in
    (λ x. c j RANGE h ((range_exactly s j).1 x), λ x. c j ATOMS h ((atoms_exactly s j).1 x))
