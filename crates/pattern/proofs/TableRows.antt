-- The scan's fault in a state is the lowest of the refusal table's rows that apply there; those of an atom, by whether its numbers fit. Assumes nothing.
use mathlib.Core.Path.{◌≡◌, refl, ap, ◌∙◌}
use mathlib.Core.Logic.{◌⊎◌, inl, inr, ⊎_elim}
use mathlib.Core.Bool.{Bool, true, false, not, ◌&&◌}
use mathlib.Core.List.{List, [], ◌∷◌}
use mathlib.Core.Option.{Option, none, some, none-ne-some, some-ne-none}
use Prim.Native.Nat.{ℕ, suc, ◌≤◌, ◌<◌}
use native.Mathlib.Omega.{arith}
use lib.Dec.{T, leb, ltb, leb→le, eqb, eqb_refl, T_not}
use borrow.Author.Tests.{le-leb, lt-ltb}
use Rattle.pattern.specs.Numbers.{atom_limit, number_limit, FORM, RANGE, ATOMS, DEPTH}
use Rattle.pattern.specs.Bytes.{Bytes}
use Rattle.pattern.specs.Syntax.{pattern, Syntax}
use Rattle.pattern.specs.Grammar.{char_class}
use Rattle.pattern.specs.Parser.{CountState, ParserState, step, finish}
use Rattle.pattern.specs.ParserInvariant.{begun_at}
use Rattle.pattern.specs.Scan.{low, high, depth, Begins, an_atom, a_digit, a_code, a_group, nothing, begins, large, falls, refuse, atom_rows, rows, fault}
use Rattle.pattern.specs.Within.{Small}
use Rattle.pattern.specs.Faults.{form_row, rows_there, Applies}
use Rattle.pattern.proofs.Tests.{le_or_lt}

-- ---- the first test that passes

pub refuse_applies : (ts : List (Bool × ℕ)) (f : ℕ) → refuse ts ≡ some f → Applies ts f
unfolding refuse Applies
refuse_applies [] f e = absurd (none-ne-some f e)
refuse_applies (t ∷ ts) f e = go t.0 (refuse_applies ts f) e
  where
    go : (b : Bool) → (refuse ts ≡ some f → Applies ts f) → ◌≡◌ {A = Option ℕ} (elim b [ true ↦ some t.1 | false ↦ refuse ts ]) (some f) → (T b × (t.1 ≡ f)) ⊎ Applies ts f
    go true h e = inl (tt, cc)
    go false h e = inr (h e)

pub refuse_none : (ts : List (Bool × ℕ)) (g : ℕ) → refuse ts ≡ none → ¬ Applies ts g
unfolding refuse Applies
refuse_none [] g e a = a
refuse_none (t ∷ ts) g e a = go t.0 (refuse_none ts g) e a
  where
    go : (b : Bool) → (refuse ts ≡ none → ¬ Applies ts g) → ◌≡◌ {A = Option ℕ} (elim b [ true ↦ some t.1 | false ↦ refuse ts ]) none → ¬ ((T b × (t.1 ≡ g)) ⊎ Applies ts g)
    go true h e a = some-ne-none t.1 e
    go false h e a = ⊎_elim (λ (x, y). x) (h e) a

-- the numbers of the tests ascend
abbrev pub Above : ℕ → List (Bool × ℕ) → Type 0
Above f [] = Unit {0}
Above f (t ∷ ts) = T (ltb f t.1) × Above t.1 ts

above_applies : (ts : List (Bool × ℕ)) (f g : ℕ) → Above f ts → Applies ts g → f < g
unfolding Applies
above_applies [] f g h a = absurd a
above_applies (t ∷ ts) f g (h, k) a =
    let l = leb→le (suc f) t.1 h in
    ⊎_elim (λ (x, y). omega arith) (λ b. let m = above_applies ts t.1 g k b in omega arith) a

pub refuse_lowest : (ts : List (Bool × ℕ)) (d f g : ℕ) → Above d ts → refuse ts ≡ some f → Applies ts g → f ≤ g
unfolding refuse Applies
refuse_lowest [] d f g h e a = absurd a
refuse_lowest (t ∷ ts) d f g (h, k) e a = go t.0 (refuse_lowest ts t.1 f g k) e a
  where
    go : (b : Bool) → (refuse ts ≡ some f → Applies ts g → f ≤ g) → ◌≡◌ {A = Option ℕ} (elim b [ true ↦ some t.1 | false ↦ refuse ts ]) (some f) → (T b × (t.1 ≡ g)) ⊎ Applies ts g → f ≤ g
    go true i e a = let z : t.1 ≡ f = cc in ⊎_elim (λ (x, y). omega arith) (λ b. let m = above_applies ts t.1 g k b in omega arith) a
    go false i e a = ⊎_elim (λ (x, y). absurd x) (i e) a

-- no test has this number
abbrev pub Lacks : ℕ → List (Bool × ℕ) → Type 0
Lacks f [] = Unit {0}
Lacks f (t ∷ ts) = T (not (eqb t.1 f)) × Lacks f ts

pub lacking : (ts : List (Bool × ℕ)) (f : ℕ) → Lacks f ts → ¬ Applies ts f
unfolding Applies
lacking [] f h a = a
lacking (t ∷ ts) f (h, k) a = ⊎_elim (λ (x, y). T_not (eqb t.1 f) h (rw y (eqb_refl f))) (lacking ts f k) a

-- at the end of the source there is FORM only
pub end_row : (f : ℕ) → Lacks f form_row → (o : Option ParserState) → ¬ Applies (rows_there o []) f
unfolding rows_there Applies
end_row f l none a = a
end_row f l (some q) a = go (finish q.0 q.1) a
  where
    go : (o : Option (Syntax pattern)) → ¬ Applies (elim o [ none ↦ form_row | some t ↦ [] ]) f
    go none = lacking form_row f l
    go (some t) = λ a. a

-- ---- the rows of an atom, by whether the numbers of its count fit

-- where the first number fits and the second is less, both fit
pub range_row : (l : ℕ) (h : Option ℕ) → leb l number_limit && not (large h) && falls l h ≡ leb l number_limit && falls l h
unfolding large falls
range_row l none = go (leb l number_limit)
  where
    go : (b : Bool) → b && true && false ≡ b && false
    go true = refl
    go false = refl
range_row l (some m) = go (leb l number_limit) (ltb number_limit m) (ltb m l) (leb→le l number_limit) (leb→le (suc number_limit) m) (leb→le (suc m) l)
  where
    go : (a b c : Bool) → (T a → l ≤ number_limit) → (T b → number_limit < m) → (T c → m < l) → a && not b && c ≡ a && c
    go false b c f g h = refl
    go true false c f g h = refl
    go true true false f g h = refl
    go true true true f g h = absurd (let x = f tt in let y = g tt in let z = h tt in omega arith)

-- the lowest fault of an atom that begins after n others with this count
abbrev pub atom_fault : ℕ → CountState → Option ℕ
atom_fault n r = refuse (atom_rows n r)

-- the same without the test that is implied
pub atom_fault_is : (n : ℕ) (r : CountState) → atom_fault n r ≡ refuse ((leb (low r) number_limit && falls (low r) (high r), RANGE) ∷ (leb atom_limit n, ATOMS) ∷ [])
unfolding atom_rows
atom_fault_is n r = ap (λ b. refuse ((b, RANGE) ∷ (leb atom_limit n, ATOMS) ∷ [])) (range_row (low r) (high r))

-- both numbers of a count fit
abbrev pub BothFit : CountState → Type 0
BothFit r = (low r ≤ number_limit) × Small (high r)

-- a first number that fits
pub fit_fault : (n : ℕ) (r : CountState) → low r ≤ number_limit → atom_fault n r ≡ refuse ((falls (low r) (high r), RANGE) ∷ (leb atom_limit n, ATOMS) ∷ [])
fit_fault n r h = atom_fault_is n r ∙ rw (le-leb (low r) number_limit h)

not_large : (h : Option ℕ) → T (not (large h)) → Small h
unfolding large Small
not_large none t = tt
not_large (some m) t = ⊎_elim (λ l. l) (λ l. absurd (rw (lt-ltb number_limit m l) at t)) (le_or_lt m number_limit)

-- a count whose numbers do not both fit is no range
pub unfit_fault : (n : ℕ) (r : CountState) → ¬ BothFit r → atom_fault n r ≡ refuse ((leb atom_limit n, ATOMS) ∷ [])
unfolding refuse atom_rows
unfit_fault n r h = go (leb (low r) number_limit) (not (large (high r))) (falls (low r) (high r)) (λ a b. h (leb→le (low r) number_limit a, not_large (high r) b))
  where
    go : (a b c : Bool) → (T a → ¬ T b) → refuse ((a && b && c, RANGE) ∷ (leb atom_limit n, ATOMS) ∷ []) ≡ refuse ((leb atom_limit n, ATOMS) ∷ [])
    go false b c f = refl
    go true false c f = refl
    go true true c f = absurd (f tt tt)

-- the lowest fault in a state, in the scan's order
unfoldable pub found : ParserState → Bytes → Option ℕ
found q [] = elim (finish q.0 q.1) [ none ↦ some FORM | some t ↦ none ]
found q (c ∷ s) = elim (step q c) [ none ↦ some FORM | some q' ↦ fault (begins q.0 (char_class c)) (depth q.1) (begun_at q.0 q.1) c s ]

unfoldable pub found_there : Option ParserState → Bytes → Option ℕ
found_there none s = none
found_there (some q) s = found q s

pub found_rows : (o : Option ParserState) (s : Bytes) → refuse (rows_there o s) ≡ found_there o s
unfolding rows_there found_there found refuse fault
found_rows none s = refl
found_rows (some q) [] = go (finish q.0 q.1)
  where
    go : (o : Option (Syntax pattern)) → refuse (elim o [ none ↦ form_row | some t ↦ [] ]) ≡ elim o [ none ↦ some FORM | some t ↦ none ]
    go none = refl
    go (some t) = refl
found_rows (some q) (c ∷ s) = go (step q c) _ refl
  where
    go : (o : Option ParserState) (rows : List (Bool × ℕ)) {y : Option ℕ} → refuse rows ≡ y
        → refuse (elim o [ none ↦ form_row | some q' ↦ rows ]) ≡ elim o [ none ↦ some FORM | some q' ↦ y ]
    go none rows e = refl
    go (some q') rows e = e

-- the numbers of the rows ascend
ascend : (b : Begins) (d n c : ℕ) (s : Bytes) → Above 0 (rows b d n c s)
unfolding rows
ascend an_atom d n c s = (tt, (tt, tt))
ascend (a_digit v) d n c s = (tt, tt)
ascend a_code d n c s = (tt, tt)
ascend a_group d n c s = (tt, tt)
ascend nothing d n c s = tt

pub rows_ascend : (o : Option ParserState) (s : Bytes) → Above 0 (rows_there o s)
unfolding rows_there
rows_ascend none s = tt
rows_ascend (some q) [] = go (finish q.0 q.1)
  where
    go : (o : Option (Syntax pattern)) → Above 0 (elim o [ none ↦ form_row | some t ↦ [] ])
    go none = (tt, tt)
    go (some t) = tt
rows_ascend (some q) (c ∷ s) = go (step q c) _ (ascend (begins q.0 (char_class c)) (depth q.1) (begun_at q.0 q.1) c s)
  where
    go : (o : Option ParserState) (rows : List (Bool × ℕ)) → Above 0 rows → Above 0 (elim o [ none ↦ form_row | some q' ↦ rows ])
    go none rows h = (tt, tt)
    go (some q') rows h = h

-- the numbers of the rows are 2 to 7
Numbered : List (Bool × ℕ) → ℕ → Type 0
Numbered rows f = Applies rows f → (FORM ≤ f) × (f ≤ DEPTH)

form_number : (f : ℕ) → Numbered form_row f
unfolding Numbered Applies
form_number f a = ⊎_elim (λ (x, y). (omega arith, omega arith)) (λ b. absurd b) a

rows_number : (b : Begins) (d n c : ℕ) (s : Bytes) (f : ℕ) → Numbered (rows b d n c s) f
unfolding Numbered Applies rows
rows_number an_atom d n c s f a = ⊎_elim (λ (x, y). (omega arith, omega arith)) (⊎_elim (λ (x, y). (omega arith, omega arith)) (λ b. absurd b)) a
rows_number (a_digit v) d n c s f a = ⊎_elim (λ (x, y). (omega arith, omega arith)) (λ b. absurd b) a
rows_number a_code d n c s f a = ⊎_elim (λ (x, y). (omega arith, omega arith)) (λ b. absurd b) a
rows_number a_group d n c s f a = ⊎_elim (λ (x, y). (omega arith, omega arith)) (λ b. absurd b) a
rows_number nothing d n c s f a = absurd a

pub row_number : (o : Option ParserState) (s : Bytes) (f : ℕ) → Applies (rows_there o s) f → (FORM ≤ f) × (f ≤ DEPTH)
unfolding rows_there Numbered
row_number none s f a = unfold Applies in absurd a
row_number (some q) [] f a = go (finish q.0 q.1) a
  where
    go : (o : Option (Syntax pattern)) → Numbered (elim o [ none ↦ form_row | some t ↦ [] ]) f
    go none = form_number f
    go (some t) = λ b. unfold Applies in absurd b
row_number (some q) (c ∷ s) f a = go (step q c) _ (rows_number (begins q.0 (char_class c)) (depth q.1) (begun_at q.0 q.1) c s f) a
  where
    go : (o : Option ParserState) (rows : List (Bool × ℕ)) → Numbered rows f → Numbered (elim o [ none ↦ form_row | some q' ↦ rows ]) f
    go none rows h = form_number f
    go (some q') rows h = h
