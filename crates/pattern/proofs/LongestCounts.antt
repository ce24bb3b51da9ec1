-- A count is taken as the longest run, and where the numbers of the run fit they fit all along. Assumes nothing.
use mathlib.Core.Path.{◌≡◌, refl, sym, ap, ◌∙◌}
use mathlib.Core.Logic.{◌⊎◌, inl, inr, ⊎_elim}
use mathlib.Core.List.{[], ◌∷◌, ◌++◌, append_assoc, append-nil}
use mathlib.Core.Option.{Option, none, some, none-ne-some}
use Prim.Native.Nat.{ℕ}
use native.Mathlib.Omega.{arith}
use Rattle.pattern.specs.Numbers.{point_byte}
use Rattle.pattern.specs.Bytes.{Bytes, between}
use Rattle.pattern.specs.Meaning.{Cut}
use Rattle.pattern.specs.Grammar.{BodyStart, CountChar, digit, point, CharClass, count_char, body_start, branch_end, char_class, Number, Low, missing, given}
use Rattle.pattern.specs.Parser.{CountState, empty, first, pointed, second, counting, Stack, top, ParserState, grow, counted, move, step, start}
use Rattle.pattern.specs.ParserInvariant.{state_after, AtomsBefore, AtBranchStart, CountSoFar, StackSoFar, ReadSoFar}
use Rattle.pattern.specs.Scan.{low, high, longest_count}
use Rattle.pattern.specs.Within.{Small}
use Rattle.pattern.specs.Faults.{Over, LongestCount}
use Rattle.pattern.proofs.Tests.{On}
use Rattle.pattern.proofs.Notation.{ByteIn, class_byte}
use Rattle.pattern.proofs.TableRows.{BothFit}
use Rattle.pattern.proofs.ParserSound.{grow_so_far}
use Rattle.pattern.proofs.ParserComplete.{state_on, state_append, state_exactly}

-- the next byte does not belong to the count
CountEnds : CountState → Bytes → Type 0
CountEnds r [] = Unit {0}
CountEnds r (c ∷ s) = (m : CountChar) → char_class c ≡ count_char m → grow r m c ≡ none

-- the count that bytes u have begun goes on for some bytes of s, and then ends
Extends : CountState → Bytes → Bytes → Type 0
Extends r u s = (w rest : Bytes) × (s ≡ w ++ rest) × CountSoFar (top []) r (u ++ w) × CountEnds r rest

extends : (s : Bytes) (r : CountState) (u : Bytes) → CountSoFar (top []) r u → Extends (longest_count r s) u s
unfolding Extends longest_count CountEnds
extends [] r u h = ([], [], refl, rw append-nil h, tt)
extends (c ∷ s) r u h = go (char_class c) refl (class_byte c) (λ r' l. extends s r' (u ++ c ∷ []) l)
  where
    more : (m : CountChar) → char_class c ≡ count_char m → (o : Option CountState) → grow r m c ≡ o → On o (λ r'. CountSoFar (top []) r' (u ++ c ∷ []))
        → ((r' : CountState) → CountSoFar (top []) r' (u ++ c ∷ []) → Extends (longest_count r' s) (u ++ c ∷ []) s) → Extends (elim o [ none ↦ r | some r' ↦ longest_count r' s ]) u (c ∷ s)
    more m k none g l f = ([], c ∷ s, refl, rw append-nil h, λ m' e. let z : m ≡ m' = cc in rw z at g)
    more m k (some r') g l f =
        let (w, rest, e, x, y) = f r' l in
        (c ∷ w, rest, rw e, rw append_assoc at x, y)

    go : (x : CharClass) → char_class c ≡ x → ByteIn x c → ((r' : CountState) → CountSoFar (top []) r' (u ++ c ∷ []) → Extends (longest_count r' s) (u ++ c ∷ []) s)
        → Extends (elim x [ count_char m ↦ elim (grow r m c) [ none ↦ r | some r' ↦ longest_count r' s ] | body_start b ↦ r | branch_end e ↦ r ]) u (c ∷ s)
    go (count_char m) k b f = more m k (grow r m c) refl (grow_so_far (top []) r m c u k b h) f
    go (body_start b) k e f = ([], c ∷ s, refl, rw append-nil h, λ m i. absurd (let z : ◌≡◌ {A = ℕ} 0 1 = cc in omega arith))
    go (branch_end b) k e f = ([], c ∷ s, refl, rw append-nil h, λ m i. absurd (let z : ◌≡◌ {A = ℕ} 0 1 = cc in omega arith))

-- ---- one byte

pub longest_next : (r r' : CountState) (m : CountChar) (c : ℕ) (s : Bytes) → char_class c ≡ count_char m → grow r m c ≡ some r' → longest_count r (c ∷ s) ≡ longest_count r' s
unfolding longest_count
longest_next r r' m c s e g = rw (e, longest_count) (rw g)

pub count_step : (r r' : CountState) (m : CountChar) (c : ℕ) → char_class c ≡ count_char m → grow r m c ≡ some r' → (k : Stack) → step (counting r, k) c ≡ some (counting r', k)
unfolding step move counted
count_step r r' m c e g k = rw e (rw g)

pub longest_stop : (r : CountState) (b : BodyStart) (c : ℕ) (s : Bytes) → char_class c ≡ body_start b → longest_count r (c ∷ s) ≡ r
unfolding longest_count
longest_stop r b c s e = rw (e, longest_count)

-- ---- the numbers so far

-- where both numbers fit after one more byte, they fit before it
pub grow_fit : (r : CountState) (m : CountChar) (c : ℕ) → On (grow r m c) (λ r'. BothFit r' → BothFit r)
unfolding grow low high Small
grow_fit empty digit c = λ h. (omega arith, tt)
grow_fit empty point c = λ h. (omega arith, tt)
grow_fit (first n) digit c = λ (x, y). (omega arith, omega arith)
grow_fit (first n) point c = λ (x, y). (x, x)
grow_fit (pointed n) digit c = λ (x, y). (x, tt)
grow_fit (pointed n) point c = tt
grow_fit (second n m) digit c = λ (x, y). (x, omega arith)
grow_fit (second n m) point c = tt

-- and so where they fit in the longest run
pub longest_fit : (s : Bytes) (r : CountState) → BothFit (longest_count r s) → BothFit r
unfolding longest_count
longest_fit [] r h = h
longest_fit (c ∷ s) r h = go (char_class c) (λ r'. longest_fit s r') h
  where
    more : (o : Option CountState) → On o (λ r'. BothFit r' → BothFit r) → ((r' : CountState) → BothFit (longest_count r' s) → BothFit r')
        → BothFit (elim o [ none ↦ r | some r' ↦ longest_count r' s ]) → BothFit r
    more none g f h = h
    more (some r') g f h = g (f r' h)

    go : (x : CharClass) → ((r' : CountState) → BothFit (longest_count r' s) → BothFit r')
        → BothFit (elim x [ count_char m ↦ elim (grow r m c) [ none ↦ r | some r' ↦ longest_count r' s ] | body_start b ↦ r | branch_end e ↦ r ]) → BothFit r
    go (count_char m) f h = more (grow r m c) (grow_fit r m c) f h
    go (body_start b) f h = h
    go (branch_end e) f h = h

-- those that end in a number over the limit do not
pub over_unfit : (r : CountState) → Over r → ¬ BothFit r
unfolding Over low high Small
over_unfit empty o h = o
over_unfit (first n) o (x, y) = omega arith
over_unfit (pointed n) o h = o
over_unfit (second n m) o (x, y) = omega arith

-- ---- no longer count

-- every byte is a digit or a point
CountChars : Bytes → Type 0
CountChars [] = Unit {0}
CountChars (c ∷ s) = ((m : CountChar) × (char_class c ≡ count_char m)) × CountChars s

count_chars_append : (u v : Bytes) → CountChars u → CountChars v → CountChars (u ++ v)
unfolding CountChars
count_chars_append [] v h g = g
count_chars_append (c ∷ u) v (k, h) g = (k, count_chars_append u v h g)

number_chars : {n : ℕ} {s : Bytes} → Number n s → CountChars s
unfolding CountChars
number_chars (Number.one c k) = ((digit, k), tt)
number_chars (Number.more {n} {s} h c k) = count_chars_append s _ (number_chars h) ((digit, k), tt)

low_chars : {n : ℕ} {s : Bytes} → Low n s → CountChars s
low_chars missing = unfold CountChars in tt
low_chars (given h) = number_chars h

point_chars : (v : Bytes) → CountChars v → CountChars (point_byte ∷ v)
unfolding CountChars char_class between
point_chars v h = ((point, refl), h)

so_far_chars : (r : CountState) (u : Bytes) → CountSoFar (top []) r u → CountChars u
unfolding CountSoFar
so_far_chars empty u (e, o) = rw e (unfold CountChars in tt)
so_far_chars (first n) u h = number_chars h
so_far_chars (pointed n) u (x, e, h) = rw e (count_chars_append x _ (low_chars h) (point_chars [] (unfold CountChars in tt)))
so_far_chars (second n m) u (x, y, e, h, g) = rw e (count_chars_append x _ (low_chars h) (point_chars y (number_chars g)))

count_char_at : (u : Bytes) (c : ℕ) (v : Bytes) → CountChars (u ++ c ∷ v) → (m : CountChar) × (char_class c ≡ count_char m)
unfolding CountChars
count_char_at [] c v h = h.0
count_char_at (x ∷ u) c v h = count_char_at u c v h.1

-- where a count leads
count_state_leads : (r : CountState) (u : Bytes) → CountSoFar (top []) r u → state_after start u ≡ some (counting r, top [])
unfolding ReadSoFar Cut StackSoFar AtomsBefore
count_state_leads r u h = (state_exactly u (counting r, top [])).1 ([], u, refl, refl, h)

no_step : (q : ParserState) (c : ℕ) (x : Bytes) → step q c ≡ none → state_after q (c ∷ x) ≡ none
unfolding state_after
no_step q c x e = rw (state_after, e)

no_longer : (r r' : CountState) (w : Bytes) (c : ℕ) (x y : Bytes) → CountSoFar (top []) r w → CountEnds r (c ∷ x ++ y) → ¬ CountSoFar (top []) r' (w ++ c ∷ x)
unfolding CountEnds step move counted state_on
no_longer r r' w c x y h halts g =
    let (m, k) = count_char_at w c x (so_far_chars r' (w ++ c ∷ x) g) in
    let q : ParserState = (counting r, top []) in
    let e : step q c ≡ none = ap (λ z. move (counting r) (top []) z c) k ∙ ap (counted (top [])) (halts m k) in
    none-ne-some _ (sym (no_step q c x e) ∙ sym (state_append w start (c ∷ x) ∙ ap (λ o. state_on o (c ∷ x)) (count_state_leads r w h)) ∙ count_state_leads r' (w ++ c ∷ x) g)

-- the count that the scan looks at is the longest
pub count_longest : (s : Bytes) → LongestCount (longest_count empty s) s
unfolding LongestCount Extends CountSoFar AtBranchStart
count_longest s =
    let (w, rest, e, h, halts) = extends s empty [] (refl, refl) in
    (w, rest, e, h, λ x y r' f g. go w rest h halts x y r' f g)
  where
    go : (w rest : Bytes) → CountSoFar (top []) (longest_count empty s) w → CountEnds (longest_count empty s) rest → (x y : Bytes) (r' : CountState) → rest ≡ x ++ y → CountSoFar (top []) r' (w ++ x) → x ≡ []
    go w rest h halts [] y r' f g = refl
    go w rest h halts (c ∷ x) y r' f g = absurd (no_longer (longest_count empty s) r' w c x y h (rw f at halts) g)

-- of two prefixes of the same bytes, one goes on from the other
prefixes : (u v x y : Bytes) → u ++ x ≡ v ++ y → ((z : Bytes) × (v ≡ u ++ z) × (x ≡ z ++ y)) ⊎ ((z : Bytes) × (u ≡ v ++ z) × (y ≡ z ++ x))
prefixes [] v x y e = inl (v, refl, e)
prefixes (a ∷ u) [] x y e = inr (a ∷ u, refl, sym e)
prefixes (a ∷ u) (b ∷ v) x y e =
    let h : a ≡ b = cc in
    ⊎_elim (λ (z, f, g). inl (z, rw (h, f), g)) (λ (z, f, g). inr (z, rw (h, f), g)) (prefixes u v x y cc)

-- and there is only one longest
pub longest_one : (s : Bytes) (r : CountState) → LongestCount r s → r ≡ longest_count empty s
unfolding LongestCount
longest_one s r (w, x, e, h, f) =
    let (v, y, g, i, j) = count_longest s in
    let same : v ≡ w =
    ⊎_elim
    (λ (z, a, b). a ∙ rw (f z y (longest_count empty s) b (rw a at i)) (append-nil w))
    (λ (z, a, b). sym (a ∙ rw (j z x r b (rw a at h)) (append-nil v)))
    (prefixes w v x y (sym e ∙ g)) in
    let k = sym (count_state_leads r w h) ∙ ap (state_after start) (sym same) ∙ count_state_leads (longest_count empty s) v i in
    let l : ◌≡◌ {A = ParserState} (counting r, top []) (counting (longest_count empty s), top []) = cc in
    let m = ap (λ q. q.0) l in
    cc
