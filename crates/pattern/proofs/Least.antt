-- The refusal of a source is the least position with a fault, and there the lowest number. Assumes nothing.
use mathlib.Core.Path.{◌≡◌, refl, ◌∙◌}
use mathlib.Core.Logic.{◌↔◌, ◌⊎◌, inl, inr, ⊎_elim}
use mathlib.Core.Bool.{Bool, true, false, cond}
use mathlib.Core.List.{[], ◌∷◌}
use mathlib.Core.Option.{Option, none, some}
use Prim.Native.Nat.{ℕ, zero, suc, ◌+◌, ◌≤◌, ◌<◌}
use native.Mathlib.Nat.{eq-or-lt_of_le}
use native.Mathlib.Omega.{arith}
use lib.Dec.{leb}
use lib.ListN.{length, take, drop}
use Rattle.pattern.specs.Numbers.{source_limit, LONG, FORM}
use Rattle.pattern.specs.Bytes.{Bytes}
use Rattle.pattern.specs.Syntax.{pattern, Syntax}
use Rattle.pattern.specs.Grammar.{char_class}
use Rattle.pattern.specs.Parser.{ParserState, move, step, finish, start}
use Rattle.pattern.specs.ParserInvariant.{state_after, before_size, stack_size, begun_at}
use Rattle.pattern.specs.Scan.{depth, begins, fault, begun, refuse, Outcome, refused, accepted, scan, outcome}
use Rattle.pattern.specs.Faults.{rows_there, rows_at, Applies, Least}
use Rattle.pattern.proofs.Tests.{Decides, On, leb_decides, le_or_lt}
use Rattle.pattern.proofs.Begun.{move_count}
use Rattle.pattern.proofs.TableRows.{refuse_applies, refuse_none, refuse_lowest, found, found_there, found_rows, rows_ascend}

-- the same for faults that are found by f, and positions counted from i on
From : (ℕ → Option ℕ) → ℕ → Outcome → Type 0
From f i (refused x p) = (d : ℕ) × (p ≡ i + d) × (f d ≡ some x) × ((j : ℕ) → j < d → f j ≡ none)
From f i (accepted t) = (j : ℕ) → f j ≡ none

-- a position without a fault, and then the others
later : (f g : ℕ → Option ℕ) (i : ℕ) (o : Outcome) → f zero ≡ none → ((j : ℕ) → f (suc j) ≡ g j) → From g (suc i) o → From f i o
unfolding From
later f g i (refused x p) e m (d, a, h, k) = (suc d, omega arith, m d ∙ h, λ j. elim j as (λ j. j < suc d → f j ≡ none) [ zero ↦ λ l. e | suc n ↦ λ l. m n ∙ k n (omega arith) ])
later f g i (accepted t) e m h = λ j. elim j as (λ j. f j ≡ none) [ zero ↦ e | suc n ↦ m n ∙ h n ]

first_of : (f : ℕ → Option ℕ) (i x : ℕ) → f zero ≡ some x → From f i (refused x i)
unfolding From
first_of f i x e = (0, omega arith, e, λ j l. absurd (omega arith))

-- the faults from a state on
faults : ParserState → Bytes → ℕ → Option ℕ
faults q s j = found_there (state_after q (take j s)) (drop j s)

at_end : (o : Option (Syntax pattern)) (f : ℕ → Option ℕ) (i : ℕ) → ((j : ℕ) → f j ≡ elim o [ none ↦ some FORM | some t ↦ none ]) → From f i (elim o [ none ↦ refused FORM i | some t ↦ accepted t ])
unfolding From
at_end none f i e = first_of f i FORM (e 0)
at_end (some t) f i e = e

at_byte : (o : Option ParserState) (x : Option ℕ) (f : ℕ → Option ℕ) (i n : ℕ) (s : Bytes)
    → f zero ≡ elim o [ none ↦ some FORM | some q ↦ x ] → ((j : ℕ) → f (suc j) ≡ found_there (elim o [ none ↦ none | some q ↦ state_after q (take j s) ]) (drop j s))
    → On o (λ q. begun_at q.0 q.1 ≡ n) → ((q : ParserState) → From (faults q s) (suc i) (scan q (suc i) (begun_at q.0 q.1) s))
    → From f i (elim o [ none ↦ refused FORM i | some q ↦ elim x [ some y ↦ refused y i | none ↦ scan q (suc i) n s ] ])
unfolding faults
at_byte none x f i n s e h c g = first_of f i FORM e
at_byte (some q) none f i n s e h c g = later f (faults q s) i (scan q (suc i) n s) e h (rw c at (g q))
at_byte (some q) (some y) f i n s e h c g = first_of f i y e

same_end : (q : ParserState) (j : ℕ) → faults q [] j ≡ found q []
unfolding faults found_there state_after
same_end q zero = refl
same_end q (suc j) = refl

least_from : (s : Bytes) (q : ParserState) (i : ℕ) → From (faults q s) i (scan q i (begun_at q.0 q.1) s)
unfolding scan found step
least_from [] q i = at_end (finish q.0 q.1) (faults q []) i (same_end q)
least_from (c ∷ s) q i =
    let n : ℕ = begun_at q.0 q.1 in
    at_byte (move q.0 q.1 (char_class c) c) (fault (begins q.0 (char_class c)) (depth q.1) n c s) (faults q (c ∷ s)) i (begun (begins q.0 (char_class c)) n) s
    (unfold faults found_there state_after in refl) (λ j. unfold faults state_after in refl) (move_count q.0 q.1 (char_class c) c) (λ q'. least_from s q' (suc i))

-- what is found is the lowest row that applies
lowest : (s : Bytes) (p f : ℕ) → faults start s p ≡ some f → Applies (rows_at s p) f × ((g : ℕ) → Applies (rows_at s p) g → f ≤ g)
unfolding faults rows_at
lowest s p f e =
    let o = state_after start (take p s) in
    let r : refuse (rows_there o (drop p s)) ≡ some f = found_rows o (drop p s) ∙ e in
    (refuse_applies _ f r, λ g a. refuse_lowest _ 0 f g (rows_ascend o (drop p s)) r a)

nowhere : (s : Bytes) (p g : ℕ) → faults start s p ≡ none → ¬ Applies (rows_at s p) g
unfolding faults rows_at
nowhere s p g e = let o = state_after start (take p s) in refuse_none _ g (found_rows o (drop p s) ∙ e)

from_start : (s : Bytes) (o : Outcome) → From (faults start s) 0 o → Least s o
unfolding From Least
from_start s (refused f p) (d, e, h, k) =
    let a : p ≡ d = omega arith in
    let (x, y) = lowest s d f h in
    rw a (x, y, λ j g l. nowhere s j g (k j l))
from_start s (accepted t) h = λ j g. nowhere s j g (h j)

pub least : (s : Bytes) → Least s (scan start 0 0 s)
unfolding begun_at stack_size before_size
least s = from_start s (scan start 0 0 s) (least_from s start 0)

-- the least fault is one
least_one : (s : Bytes) (o : Outcome) (f p : ℕ) → Least s o → Least s (refused f p) → o ≡ refused f p
unfolding Least
least_one s (refused g r) f p (a, b, c) (x, y, z) =
    ⊎_elim
    (λ h. ⊎_elim
    (λ e. let u : g ≤ f = b f (rw e x) in let v : f ≤ g = y g (rw e at a) in let w : g ≡ f = omega arith in cc)
    (λ d. absurd (z r g d a))
    (eq-or-lt_of_le h))
    (λ d. absurd (c p f d x))
    (le_or_lt r p)
least_one s (accepted t) f p h (x, y, z) = absurd (h p f x)

-- the scan refuses so just where this is the least fault
pub scan_refused : (s : Bytes) (f p : ℕ) → (scan start 0 0 s ≡ refused f p) ↔ Least s (refused f p)
scan_refused s f p = (λ e. rw e at (least s), least_one s (scan start 0 0 s) f p (least s))

-- refused exactly: LONG at the source limit where the source is longer, else the least position with a fault and the lowest number there
pub refused_exactly : (s : Bytes) (f p : ℕ)
    → (outcome s ≡ refused f p) ↔ (((source_limit < length s) × (f ≡ LONG) × (p ≡ source_limit)) ⊎ ((length s ≤ source_limit) × Least s (refused f p)))
unfolding outcome
refused_exactly s f p = go (leb (length s) source_limit) (leb_decides (length s) source_limit)
  where
    go : (b : Bool) → Decides b (length s ≤ source_limit)
        → (cond b (scan start 0 0 s) (refused LONG source_limit) ≡ refused f p) ↔ (((source_limit < length s) × (f ≡ LONG) × (p ≡ source_limit)) ⊎ ((length s ≤ source_limit) × Least s (refused f p)))
    go true u = (λ e. inr (u.sound tt, (scan_refused s f p).0 e), ⊎_elim (λ (h, x, y). absurd (let k = u.sound tt in omega arith)) (λ (h, x). (scan_refused s f p).1 x))
    go false u = (
      λ e. inl (⊎_elim (λ h. absurd (u.complete h)) (λ h. h) (le_or_lt (length s) source_limit), cc, cc),
      ⊎_elim (λ (h, x, y). cc) (λ (h, x). absurd (u.complete h)),
    )

-- any other number than LONG is that of the least fault
pub named_least : (s : Bytes) (f p : ℕ) → LONG < f → outcome s ≡ refused f p → (length s ≤ source_limit) × Least s (refused f p)
named_least s f p l e = ⊎_elim (λ (h, x, y). absurd (omega arith)) (λ h. h) ((refused_exactly s f p).0 e)
