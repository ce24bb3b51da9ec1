-- NUMBER is settled by its digit: with it what follows does not matter, with a letter in its place NUMBER stands later if at all. Assumes nothing.
use mathlib.Core.Path.{◌≡◌, refl, ap, ◌∙◌}
use mathlib.Core.Logic.{◌⊎◌, inl, inr, ⊎_elim}
use mathlib.Core.Bool.{Bool}
use mathlib.Core.List.{List, [], ◌∷◌, ◌++◌}
use mathlib.Core.Option.{Option, none, some}
use Prim.Native.Nat.{ℕ, suc, ◌+◌, ◌≤◌, ◌<◌}
use native.Mathlib.Nat.{eq-or-lt_of_le}
use native.Mathlib.Omega.{arith}
use lib.ListN.{length, take}
use lib.Seq.{length-take-le, take-append-le, take-take, take_at, drop_at}
use Rattle.pattern.specs.Numbers.{source_limit, FORM, NUMBER}
use Rattle.pattern.specs.Bytes.{Bytes}
use Rattle.pattern.specs.Syntax.{pattern, Syntax, repeat}
use Rattle.pattern.specs.Grammar.{letter, CountChar, digit, point, CharClass, count_char, body_start, branch_end, char_class}
use Rattle.pattern.specs.Parser.{CountState, empty, first, pointed, second, Phase, counting, inside, after, Stack, next, ParserState, grow, move, step, finish, start}
use Rattle.pattern.specs.Scan.{longest_count, depth, Begins, an_atom, a_digit, a_code, a_group, nothing, body_begins, begins, begun, refuse, rows, fault, Outcome, refused, accepted, scan, outcome}
use Rattle.pattern.specs.ParserInvariant.{state_after, begun_at}
use Rattle.pattern.specs.Faults.{Over, NumberAt, form_row, rows_there, rows_at, Applies}
use Rattle.pattern.proofs.Tests.{le_or_lt}
use Rattle.pattern.proofs.TableRows.{refuse_applies, lacking, unfit_fault}
use Rattle.pattern.proofs.Least.{scan_refused, refused_exactly, named_least}
use Rattle.pattern.proofs.ByteAt.{InOver, step_number, number_exactly, number_first}
use Rattle.pattern.proofs.LongestCounts.{longest_next, count_step, longest_stop, over_unfit, longest_fit}
use Rattle.pattern.proofs.Accepted.{Rises, atom_pass}

-- the longest run of a count that ends so far in a number over 9,999 is no fault of RANGE
over_rises : (r : CountState) (s : Bytes) → Over r → Rises (longest_count r s)
unfolding refuse
over_rises r s o = ((atom_pass 0 (longest_count r s)).0 (unfit_fault 0 _ (λ h. over_unfit r o (longest_fit s r h)))).0

-- a byte ends a count, or the count goes on
Goes : CountState → ℕ → Type 0
Goes r c =
    ((s : Bytes) → longest_count r (c ∷ s) ≡ r)
    ⊎ ((r' : CountState) × ((s : Bytes) → longest_count r (c ∷ s) ≡ longest_count r' s) × ((k : Stack) → step (counting r, k) c ≡ some (counting r', k)))

goes : (r : CountState) (c : ℕ) → Goes r c
unfolding Goes longest_count
goes r c = go (char_class c) refl
  where
    more : (m : CountChar) → char_class c ≡ count_char m → (o : Option CountState) → grow r m c ≡ o → Goes r c
    more m e none g = inl (λ s. rw (e, longest_count) (rw g))
    more m e (some r') g = inr (r', λ s. longest_next r r' m c s e g, λ k. count_step r r' m c e g k)

    go : (x : CharClass) → char_class c ≡ x → Goes r c
    go (count_char m) e = more m e (grow r m c) refl
    go (body_start b) e = inl (λ s. longest_stop r b c s e)
    go (branch_end b) e = inl (λ s. rw (e, longest_count))

-- the scan at a byte c of class x
abbrev scan_at : (i n c : ℕ) → Bytes → Phase → Stack → CharClass → Outcome
scan_at i n c s a k x =
    elim (move a k x c) [ none ↦ refused FORM i | some q ↦ elim (fault (begins a x) (depth k) n c s) [ some f ↦ refused f i | none ↦ scan q (suc i) (begun (begins a x) n) s ] ]

-- NUMBER stands at this byte, or later
abbrev HereOrLater : (i n : ℕ) → Bytes → ℕ → Option ParserState → Option ℕ → Type 0
HereOrLater i n s p o x = (q : ParserState) × (o ≡ some q) × (((x ≡ some NUMBER) × (p ≡ i)) ⊎ ((x ≡ none) × (scan q (suc i) n s ≡ refused NUMBER p)))

here_or_later : (q : ParserState) (i n c : ℕ) (s : Bytes) (p : ℕ) → scan q i n (c ∷ s) ≡ refused NUMBER p
    → HereOrLater i (begun (begins q.0 (char_class c)) n) s p (step q c) (fault (begins q.0 (char_class c)) (depth q.1) n c s)
unfolding scan
here_or_later q i n c s p h = go (step q c) _ _ h
  where
    go : (o : Option ParserState) (x : Option ℕ) (n : ℕ) → elim o [ none ↦ refused FORM i | some q ↦ elim x [ some f ↦ refused f i | none ↦ scan q (suc i) n s ] ] ≡ refused NUMBER p → HereOrLater i n s p o x
    go none x n h = absurd (let z : FORM ≡ NUMBER = cc in omega arith)
    go (some q) none n h = (q, refl, inr (refl, h))
    go (some q) (some f) n h = (q, refl, inl (cc, cc))

-- it does not stand before the place where the scan begins
scan_from : (s : Bytes) (q : ParserState) (i n p : ℕ) → scan q i n s ≡ refused NUMBER p → i ≤ p
scan_from [] q i n p h = go (finish q.0 q.1) (unfold scan in h)
  where
    go : (o : Option (Syntax pattern)) → elim o [ none ↦ refused FORM i | some t ↦ accepted t ] ≡ refused NUMBER p → i ≤ p
    go none h = absurd (let z : FORM ≡ NUMBER = cc in omega arith)
    go (some t) h = absurd (let z : ◌≡◌ {A = ℕ} 0 1 = cc in omega arith)
scan_from (c ∷ s) q i n p h =
    let (q', e, x) = here_or_later q i n c s p h in
    ⊎_elim (λ (f, y). omega arith) (λ (f, y). let l = scan_from s q' (suc i) _ p y in omega arith) x

module _ (w w' : Bytes) (p : ℕ) where
  -- a count that is no fault of RANGE with w is none with w'
  run_settled : (u : Bytes) (r : CountState) (k : Stack) (i n : ℕ) → p < i + length u → scan (counting r, k) i n (u ++ w) ≡ refused NUMBER p
      → Rises (longest_count r (u ++ w)) → Rises (longest_count r (u ++ w'))
  unfolding Goes InOver step fault
  run_settled [] r k i n l h f = absurd (omega (arith, scan_from w (counting r, k) i n p h))
  run_settled (c ∷ u) r k i n l h f =
      let (q, e, y) = here_or_later (counting r, k) i n c (u ++ w) p h in
      let row = step_number n c (u ++ w) (counting r, k) in
      ⊎_elim (λ a. rw (a (u ++ w')) (rw (a (u ++ w)) at f)) (λ (r', a, b).
      let d : q ≡ (counting r', k) = let z = b k in cc in
      rw (a (u ++ w')) (⊎_elim (λ (x, y). over_rises r' (u ++ w') ((rw (b k) at row).0 (refuse_applies _ NUMBER x)))
      (λ (x, g). run_settled u r' k (suc i) _ (omega arith) (rw d at g) (rw (a (u ++ w)) at f)) y))
      (goes r c)

  -- NUMBER at a byte, or no fault, is so with w' too
  module _ (i n c : ℕ) (u : Bytes) (l : p < i + suc (length u)) where
    abbrev SameFault : Begins → ℕ → Type 0
    SameFault b d = (fault b d n c (u ++ w) ≡ some NUMBER → fault b d n c (u ++ w') ≡ some NUMBER) × (fault b d n c (u ++ w) ≡ none → fault b d n c (u ++ w') ≡ none)

    kept : (b : Begins) (d : ℕ) → (Rises (longest_count empty (c ∷ u ++ w)) → Rises (longest_count empty (c ∷ u ++ w'))) → SameFault b d
    unfolding fault rows
    kept an_atom d f = (λ e. absurd (lacking (rows an_atom d n c (u ++ w)) NUMBER (tt, (tt, tt)) (refuse_applies _ NUMBER e)), λ e. let (x, y) = (atom_pass n _).0 e in (atom_pass n _).1 (f x, y))
    kept (a_digit v) d f = (λ e. e, λ e. e)
    kept a_code d f = (λ e. e, λ e. e)
    kept a_group d f = (λ e. e, λ e. e)
    kept nothing d f = (λ e. e, λ e. e)

    is_table_in : (a : Phase) (k : Stack) (x : CharClass) → char_class c ≡ x → scan_at i n c (u ++ w) a k x ≡ refused NUMBER p → SameFault (begins a x) (depth k)
    unfolding begins begun fault scan step move longest_count
    is_table_in a k (body_start b) e h = kept (begins a (body_start b)) (depth k) (λ f. rw (e, longest_count) (rw (e, longest_count) at f))
    is_table_in a k (branch_end b) e h = kept (begins a (branch_end b)) (depth k) (λ f. rw (e, longest_count) (rw (e, longest_count) at f))
    is_table_in (counting empty) k (count_char m) e h = kept an_atom (depth k) (run_settled (c ∷ u) empty k i n l (ap (scan_at i n c (u ++ w) (counting empty) k) e ∙ h))
    is_table_in (counting (first v)) k (count_char digit) e h = (λ e. e, λ e. e)
    is_table_in (counting (first v)) k (count_char point) e h = (λ e. e, λ e. e)
    is_table_in (counting (pointed v)) k (count_char m) e h = (λ e. e, λ e. e)
    is_table_in (counting (second v z)) k (count_char digit) e h = (λ e. e, λ e. e)
    is_table_in (counting (second v z)) k (count_char point) e h = (λ e. e, λ e. e)
    is_table_in (inside v z value) k (count_char m) e h = (λ e. e, λ e. e)
    is_table_in (after v z b) k (count_char m) e h =
        let t : Stack = next k (repeat v z b) in
        kept an_atom (depth k) (run_settled (c ∷ u) empty t i n l (ap (scan_at i n c (u ++ w) (counting empty) t) e ∙ h))

  -- and so the scan finds NUMBER with w' too
  settled : (u : Bytes) (q : ParserState) (i n : ℕ) → p < i + length u → scan q i n (u ++ w) ≡ refused NUMBER p → scan q i n (u ++ w') ≡ refused NUMBER p
  unfolding scan step
  settled [] q i n l h = absurd (omega (arith, scan_from w q i n p h))
  settled (c ∷ u) q i n l h =
      let (q', e, y) = here_or_later q i n c (u ++ w) p h in
      let (a, b) = is_table_in i n c u l q.0 q.1 (char_class c) refl h in
      rw (e, scan) (⊎_elim (λ (f, z). rw (a f) cc) (λ (f, g). rw (b f) (settled u q' (suc i) _ (omega arith) g)) y)

-- where NUMBER stands in u, it stands so whatever follows u
pub number_settled : (u w w' : Bytes) (p : ℕ) → p < length u → length (u ++ w') ≤ source_limit → outcome (u ++ w) ≡ refused NUMBER p → outcome (u ++ w') ≡ refused NUMBER p
number_settled u w w' p l m h =
    let x = named_least (u ++ w) NUMBER p (omega arith) h in
    (refused_exactly (u ++ w') NUMBER p).1 (inr (m, (scan_refused (u ++ w') NUMBER p).0 (settled w w' p u start 0 0 (omega arith) ((scan_refused (u ++ w) NUMBER p).1 x.1))))

-- a letter is no place of NUMBER
letter_row : (q : Phase) (d n c : ℕ) (s : Bytes) → char_class c ≡ body_start letter → ¬ Applies (rows (begins q (char_class c)) d n c s) NUMBER
unfolding begins body_begins rows
letter_row (counting r) d n c s e = rw e (lacking (rows a_code d n c s) NUMBER (tt, tt))
letter_row (inside l h v) d n c s e = lacking [] NUMBER tt
letter_row (after l h b) d n c s e = rw e (lacking (rows a_code d n c s) NUMBER (tt, tt))

letter_there : (o : Option ParserState) (c : ℕ) (s : Bytes) → char_class c ≡ body_start letter → ¬ Applies (rows_there o (c ∷ s)) NUMBER
unfolding rows_there
letter_there none c s e = λ a. unfold Applies in a
letter_there (some q) c s e = go (step q c) _ (letter_row q.0 (depth q.1) (begun_at q.0 q.1) c s e)
  where
    go : (o : Option ParserState) (rs : List (Bool × ℕ)) → ¬ Applies rs NUMBER → ¬ Applies (elim o [ none ↦ form_row | some q ↦ rs ]) NUMBER
    go none rs f = lacking form_row NUMBER (tt, tt)
    go (some q) rs f = f

-- with a letter in place of its digit, and whatever after it, NUMBER stands later if at all
pub number_needed : (s w : Bytes) (p j c : ℕ) → char_class c ≡ body_start letter → outcome s ≡ refused NUMBER p → outcome (take p s ++ c ∷ w) ≡ refused NUMBER j → p < j
unfolding NumberAt rows_at
number_needed s w p j c e g h =
    let (x, f) = number_first s p g in
    let (y, z) = number_first (take p s ++ c ∷ w) j h in
    let n : length (take p s) ≡ p = length-take-le p s (omega (arith, x.0)) in
    ⊎_elim
    (λ l. absurd (⊎_elim
    (λ (d : j ≡ p).
    let a : Applies (rows_at (take p s ++ c ∷ w) p) NUMBER = (number_exactly (take p s ++ c ∷ w) p).1 (rw d at y) in
    letter_there (state_after start (take p s)) c w e (rw (take_at (take p s) (c ∷ w) p n, drop_at (take p s) (c ∷ w) p n) at a))
    (λ (d : j < p).
    let t : take (suc j) (take p s ++ c ∷ w) ≡ take (suc j) s = take-append-le (suc j) (take p s) (c ∷ w) (omega arith) ∙ take-take (suc j) p s d in
    let (b, r, k, o, q) = y in
    f j d (omega (arith, x.0), r, k, o, rw t at q))
    (eq-or-lt_of_le l)))
    (λ l. l)
    (le_or_lt j p)
