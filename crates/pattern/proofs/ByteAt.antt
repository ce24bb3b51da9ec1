-- The places of CODE, NUMBER and DEPTH, by what the bytes up to and with the faulty one spell. Assumes nothing.
use mathlib.Core.Path.{◌≡◌, refl, sym, ap, ◌∙◌}
use mathlib.Core.Logic.{◌↔◌, ⊎_elim, inl}
use mathlib.Core.Bool.{Bool, not}
use mathlib.Core.List.{List, [], ◌∷◌, append-nil}
use mathlib.Core.Option.{Option, none, some, none-ne-some}
use Prim.Native.Nat.{ℕ, suc, ◌+◌, ◌-◌, ◌*◌, ◌≤◌, ◌<◌}
use native.Mathlib.Omega.{arith}
use lib.Dec.{T, leb, leb→le, le→leb, eqb}
use lib.ListN.{length, take, drop, get_or, drop_of_length-le}
use lib.Seq.{drop-cons, take-suc}
use Rattle.pattern.specs.Numbers.{depth_limit, number_limit, set_limit, FORM, CODE, NUMBER, DEPTH}
use Rattle.pattern.specs.Bytes.{Bytes}
use Rattle.pattern.specs.Codes.{bit}
use Rattle.pattern.specs.Syntax.{atom, body, Syntax, codes, literal, group}
use Rattle.pattern.specs.Meaning.{Cut}
use Rattle.pattern.specs.Grammar.{BodyStart, letter, quote, opening, BranchEnd, closing, comma, neither, CountChar, digit, point, CharClass, count_char, body_start, branch_end, char_class, LiteralClass, plain, quoting, barred, literal_class}
use Rattle.pattern.specs.Parser.{CountState, empty, first, pointed, second, Phase, counting, inside, after, Stack, top, within, ParserState, enter, extend, leave, quoted, grow, counted, move, step, start}
use Rattle.pattern.specs.ParserInvariant.{state_after, AtBranchStart, CountSoFar, StackSoFar, ReadSoFar, begun_at}
use Rattle.pattern.specs.Scan.{depth, Begins, an_atom, a_digit, a_code, nothing, body_begins, begins, rows, refused, outcome}
use Rattle.pattern.specs.Faults.{Over, NumberAt, CodeAt, DepthAt, form_row, rows_there, rows_at, Applies, Least}
use Rattle.pattern.proofs.Tests.{neither_holds, On, on_map, le_or_lt}
use Rattle.pattern.proofs.TableRows.{Lacks, lacking, end_row}
use Rattle.pattern.proofs.Notation.{digit_byte}
use Rattle.pattern.proofs.Least.{named_least}
use Rattle.pattern.proofs.ParserComplete.{state_on, state_append, state_exactly}

-- ---- what the state after a byte says of it

-- it is in a count that ends in a number over 9,999
unfoldable pub InOver : Phase → Type 0
InOver (counting r) = Over r
InOver (inside l h value) = ⊥
InOver (after l h b) = ⊥

-- code letters were read last
unfoldable InCodes : Phase → Type 0
InCodes (counting r) = ⊥
InCodes (inside l h value) = ⊥
InCodes (after l h (codes set)) = Unit {0}
InCodes (after l h (literal value)) = ⊥
InCodes (after l h (group bs)) = ⊥

-- a group was opened last, inside 8 others or more
unfoldable OpenedDeep : Phase → Stack → Type 0
OpenedDeep (counting empty) (top before) = ⊥
OpenedDeep (counting empty) (within k l h [] []) = depth_limit ≤ depth k
OpenedDeep (counting empty) (within k l h [] (a ∷ before)) = ⊥
OpenedDeep (counting empty) (within k l h (p ∷ others) before) = ⊥
OpenedDeep (counting (first n)) k = ⊥
OpenedDeep (counting (pointed n)) k = ⊥
OpenedDeep (counting (second n m)) k = ⊥
OpenedDeep (inside l h value) k = ⊥
OpenedDeep (after l h b) k = ⊥

-- the three rows apply just where the byte leads to such a state
record RowsRight (b : Begins) (d n c : ℕ) (s : Bytes) (q : ParserState) : Type 0 where
  code : Applies (rows b d n c s) CODE ↔ (InCodes q.0 × (set_limit ≤ bit c))
  number : Applies (rows b d n c s) NUMBER ↔ InOver q.0
  deep : Applies (rows b d n c s) DEPTH ↔ OpenedDeep q.0 q.1

-- one row with one test
one_row : (a b f : ℕ) → Applies ((leb a b, f) ∷ []) f ↔ (a ≤ b)
unfolding Applies
one_row a b f = (⊎_elim (λ (x, y). leb→le a b x) (λ z. absurd z), λ h. inl (le→leb a b h, refl))

module _ (d n c : ℕ) (s : Bytes) where
  -- a byte with none of the three
  quiet : (b : Begins) (q : ParserState) → Lacks CODE (rows b d n c s) → Lacks NUMBER (rows b d n c s) → Lacks DEPTH (rows b d n c s)
      → ¬ InCodes q.0 → ¬ InOver q.0 → ¬ OpenedDeep q.0 q.1 → RowsRight b d n c s q
  quiet b q x y z f g h =
      record { code = neither_holds (lacking _ CODE x) (λ (i, j). f i); number = neither_holds (lacking _ NUMBER y) g; deep = neither_holds (lacking _ DEPTH z) h }

  begun_row : (r : CountState) (k : Stack) → ¬ Over r → ¬ OpenedDeep (counting r) k → RowsRight an_atom d n c s (counting r, k)
  unfolding rows InCodes InOver
  begun_row r k f g = quiet an_atom (counting r, k) (tt, (tt, tt)) (tt, (tt, tt)) (tt, (tt, tt)) (λ h. h) f g

  digit_row : (v : ℕ) (r : CountState) (k : Stack) → (number_limit < 10 * v + (c - 48)) ↔ Over r → ¬ OpenedDeep (counting r) k → RowsRight (a_digit v) d n c s (counting r, k)
  unfolding rows InCodes InOver
  digit_row v r k (i, j) g =
      let (f, h) = one_row (suc number_limit) (10 * v + (c - 48)) NUMBER in
      record { code = neither_holds (lacking _ CODE (tt, tt)) (λ (x, y). x); number = (λ a. i (f a), λ o. h (j o)); deep = neither_holds (lacking _ DEPTH (tt, tt)) g }

  code_row : (l : ℕ) (h : Option ℕ) (set : ℕ) (k : Stack) → RowsRight a_code d n c s (after l h (codes set), k)
  unfolding rows InCodes InOver OpenedDeep
  code_row l h set k =
      let (f, g) = one_row set_limit (bit c) CODE in
      record { code = (λ a. (tt, f a), λ (x, y). g y); number = neither_holds (lacking _ NUMBER (tt, tt)) (λ x. x); deep = neither_holds (lacking _ DEPTH (tt, tt)) (λ x. x) }

  nothing_row : (q : ParserState) → ¬ InCodes q.0 → ¬ InOver q.0 → ¬ OpenedDeep q.0 q.1 → RowsRight nothing d n c s q
  unfolding rows
  nothing_row q f g h = quiet nothing q tt tt tt f g h

  grow_row : (r : CountState) (m : CountChar) (k : Stack) → char_class c ≡ count_char m → On (counted k (grow r m c)) (RowsRight (begins (counting r) (count_char m)) d n c s)
  unfolding begins counted grow InCodes InOver OpenedDeep Over
  grow_row empty digit k e = begun_row _ k (λ h. omega (arith, digit_byte c e)) (λ h. h)
  grow_row empty point k e = begun_row _ k (λ h. h) (λ h. h)
  grow_row (first x) digit k e = digit_row x _ k (λ h. h, λ h. h) (λ h. h)
  grow_row (first x) point k e = nothing_row _ (λ h. h) (λ h. h) (λ h. h)
  grow_row (pointed x) digit k e = nothing_row _ (λ h. h) (λ h. omega (arith, digit_byte c e)) (λ h. h)
  grow_row (pointed x) point k e = tt
  grow_row (second x y) digit k e = digit_row y _ k (λ h. h, λ h. h) (λ h. h)
  grow_row (second x y) point k e = tt

  extend_row : (l : ℕ) (h : Option ℕ) (b : Syntax body) (k : Stack) (x : BodyStart) → On (extend l h b k x c) (RowsRight (body_begins x) d n c s)
  unfolding body_begins extend InCodes InOver OpenedDeep
  extend_row l h (codes set) k letter = code_row l h _ k
  extend_row l h (codes set) k quote = tt
  extend_row l h (codes set) k opening = tt
  extend_row l h (literal value) k letter = tt
  extend_row l h (literal value) k quote = nothing_row _ (λ h. h) (λ h. h) (λ h. h)
  extend_row l h (literal value) k opening = tt
  extend_row l h (group bs) k x = tt

  leave_row : (k : Stack) (a : Syntax atom) (x : BranchEnd) → On (leave k a x) (RowsRight nothing d n c s)
  unfolding leave InCodes InOver OpenedDeep Over
  leave_row (top before) a x = tt
  leave_row (within k l h others before) a closing = nothing_row _ (λ h. h) (λ h. h) (λ h. h)
  leave_row (within k l h others before) a comma = nothing_row _ (λ h. h) (λ h. h) (λ h. h)
  leave_row (within k l h others before) a neither = tt

  quoted_row : (l : ℕ) (h : Option ℕ) (value : Bytes) (k : Stack) (x : LiteralClass) → On (quoted l h value k x c) (RowsRight nothing d n c s)
  unfolding quoted InCodes InOver OpenedDeep
  quoted_row l h value k plain = nothing_row _ (λ h. h) (λ h. h) (λ h. h)
  quoted_row l h value k quoting = nothing_row _ (λ h. h) (λ h. h) (λ h. h)
  quoted_row l h value k barred = tt

module _ (n c : ℕ) (s : Bytes) where
  enter_row : (l : ℕ) (h : Option ℕ) (k : Stack) (b : BodyStart) → RowsRight (body_begins b) (depth k) n c s (enter l h k b c)
  unfolding body_begins enter rows InCodes InOver OpenedDeep Over
  enter_row l h k letter = code_row (depth k) n c s l h _ k
  enter_row l h k quote = nothing_row (depth k) n c s _ (λ x. x) (λ x. x) (λ x. x)
  enter_row l h k opening =
      record { code = neither_holds (lacking _ CODE (tt, tt)) (λ (x, y). x); number = neither_holds (lacking _ NUMBER (tt, tt)) (λ x. x); deep = one_row depth_limit (depth k) DEPTH }

  move_rows : (p : Phase) (k : Stack) (x : CharClass) → char_class c ≡ x → On (move p k x c) (RowsRight (begins p x) (depth k) n c s)
  unfolding move begins
  move_rows (counting empty) k (count_char m) e = grow_row (depth k) n c s empty m k e
  move_rows (counting (first x)) k (count_char m) e = grow_row (depth k) n c s (first x) m k e
  move_rows (counting (pointed x)) k (count_char m) e = grow_row (depth k) n c s (pointed x) m k e
  move_rows (counting (second x y)) k (count_char m) e = grow_row (depth k) n c s (second x y) m k e
  move_rows (counting empty) k (body_start b) e = tt
  move_rows (counting (first x)) k (body_start b) e = enter_row x (some x) k b
  move_rows (counting (pointed x)) k (body_start b) e = enter_row x none k b
  move_rows (counting (second x y)) k (body_start b) e = enter_row x (some y) k b
  move_rows (counting r) k (branch_end x) e = tt
  move_rows (inside l h value) k x e = quoted_row (depth k) n c s l h value k (literal_class c)
  move_rows (after l h b) k (count_char m) e = grow_row (depth k) n c s empty m _ e
  move_rows (after l h b) k (body_start x) e = extend_row (depth k) n c s l h b k x
  move_rows (after l h b) k (branch_end x) e = leave_row (depth k) n c s k _ x

-- ---- the rows at a position

-- f is the number of a row that applies just where the byte c leads to a state of which P holds
module _ (f : ℕ) (form : T (not (eqb FORM f))) (P : ℕ → ParserState → Type 0)
    (right : (q : ParserState) (c : ℕ) (s : Bytes) → On (step q c) (λ q'. Applies (rows (begins q.0 (char_class c)) (depth q.1) (begun_at q.0 q.1) c s) f ↔ P c q')) where
  row_leads : (c : ℕ) (o : Option ParserState) (rs : List (Bool × ℕ)) → On o (λ q. Applies rs f ↔ P c q)
      → Applies (elim o [ none ↦ form_row | some q ↦ rs ]) f ↔ ((q : ParserState) × (◌≡◌ {A = Option ParserState} (elim o [ none ↦ none | some q ↦ some q ]) (some q)) × P c q)
  row_leads c none rs h = neither_holds (lacking form_row f (form, tt)) (λ (q, e, x). none-ne-some q e)
  row_leads c (some q) rs h = (λ a. (q, refl, h.0 a), λ (q', e, x). let g : q ≡ q' = cc in h.1 (rw g x))

  there : (o : Option ParserState) (c : ℕ) (s : Bytes) → Applies (rows_there o (c ∷ s)) f ↔ ((q : ParserState) × (state_on o (c ∷ []) ≡ some q) × P c q)
  unfolding rows_there state_on state_after Applies
  there none c s = neither_holds (λ a. a) (λ (q, e, x). none-ne-some q e)
  there (some q) c s = row_leads c (step q c) _ (right q c s)

  -- the bytes up to and with the one at p lead to such a state
  abbrev LeadsAt : Bytes → ℕ → Type 0
  LeadsAt s p = (p < length s) × (q : ParserState) × P (get_or s p 0) q × ReadSoFar q.0 q.1 (take (suc p) s)

  byte_exactly : (s : Bytes) (p : ℕ) → Applies (rows_at s p) f ↔ LeadsAt s p
  unfolding rows_at
  byte_exactly s p = ⊎_elim short within_it (le_or_lt (length s) p)
    where
      o : Option ParserState
      o = state_after start (take p s)

      short : length s ≤ p → Applies (rows_there o (drop p s)) f ↔ LeadsAt s p
      short l = neither_holds (λ a. end_row f (form, tt) o (rw (drop_of_length-le s l) at a)) (λ (h, q, x, y). omega arith)

      within_it : p < length s → Applies (rows_there o (drop p s)) f ↔ LeadsAt s p
      within_it l =
          let e : state_after start (take (suc p) s) ≡ state_on o (get_or s p 0 ∷ []) = ap (state_after start) (take-suc s p 0 l) ∙ state_append (take p s) start (get_or s p 0 ∷ []) in
          let (i, j) = there o (get_or s p 0) (drop (suc p) s) in
          rw (drop-cons s p 0 l) (
            λ a. let (q, g, x) = i a in (l, q, x, (state_exactly (take (suc p) s) q).0 (e ∙ g)),
            λ (h, q, x, y). j (q, sym e ∙ (state_exactly (take (suc p) s) q).1 y, x),
          )

-- the law of the three in a state, and NUMBER's by itself
rows_right : (n c : ℕ) (s : Bytes) (q : ParserState) → On (step q c) (RowsRight (begins q.0 (char_class c)) (depth q.1) n c s)
unfolding step
rows_right n c s q = move_rows n c s q.0 q.1 (char_class c) refl

pub step_number : (n c : ℕ) (s : Bytes) (q : ParserState) → On (step q c) (λ q'. Applies (rows (begins q.0 (char_class c)) (depth q.1) n c s) NUMBER ↔ InOver q'.0)
step_number n c s q = on_map (step q c) (λ q' r. r.number) (rows_right n c s q)

-- NUMBER applies at a position just where the bytes up to and with it end in a count so far whose last number is over 9,999
pub number_exactly : (s : Bytes) (p : ℕ) → Applies (rows_at s p) NUMBER ↔ NumberAt s p
unfolding NumberAt InOver
number_exactly s p =
    let (i, j) = byte_exactly NUMBER tt (λ c q. InOver q.0) (λ q c s. step_number (begun_at q.0 q.1) c s q) s p in
    (λ a. let (l, q, x, h) = i a in let (r, k, y, z) = over_read q.0 q.1 (take (suc p) s) x h in (l, r, k, y, z), λ (l, r, k, x, h). j (l, (counting r, k), x, h))
  where
    over_read : (p : Phase) (k : Stack) (u : Bytes) → InOver p → ReadSoFar p k u → (r : CountState) × (l : Stack) × Over r × ReadSoFar (counting r) l u
    over_read (counting r) k u x h = (r, k, x, h)
    over_read (inside l h value) k u x g = absurd x
    over_read (after l h b) k u x g = absurd x

-- CODE applies just where they end in code letters of which the last is none of the seven
pub code_exactly : (s : Bytes) (p : ℕ) → Applies (rows_at s p) CODE ↔ CodeAt s p
unfolding CodeAt InCodes
code_exactly s p =
    let (i, j) = byte_exactly CODE tt (λ c q. InCodes q.0 × (set_limit ≤ bit c)) (λ q c s. on_map (step q c) (λ q' r. r.code) (rows_right (begun_at q.0 q.1) c s q)) s p in (
      λ a. let (l, q, (x, b), h) = i a in let (n, m, set, k, z) = codes_read q.0 q.1 (take (suc p) s) x h in (l, b, n, m, set, k, z),
      λ (l, b, n, m, set, k, h). j (l, (after n m (codes set), k), (tt, b), h),
    )
  where
    codes_read : (p : Phase) (k : Stack) (u : Bytes) → InCodes p → ReadSoFar p k u → (l : ℕ) × (h : Option ℕ) × (set : ℕ) × (k' : Stack) × ReadSoFar (after l h (codes set)) k' u
    codes_read (counting r) k u x h = absurd x
    codes_read (inside l h value) k u x g = absurd x
    codes_read (after l h (codes set)) k u x g = (l, h, set, k, g)
    codes_read (after l h (literal value)) k u x g = absurd x
    codes_read (after l h (group bs)) k u x g = absurd x

-- DEPTH applies just where they open a group inside 8 others or more
pub depth_exactly : (s : Bytes) (p : ℕ) → Applies (rows_at s p) DEPTH ↔ DepthAt s p
unfolding DepthAt OpenedDeep ReadSoFar Cut CountSoFar AtBranchStart
depth_exactly s p =
    let (i, j) = byte_exactly DEPTH tt (λ c q. OpenedDeep q.0 q.1) (λ q c s. on_map (step q c) (λ q' r. r.deep) (rows_right (begun_at q.0 q.1) c s q)) s p in (
      λ a. let (l, q, x, h) = i a in let (k, n, m, y, z) = group_read q.0 q.1 (take (suc p) s) x h in (l, k, n, m, y, z),
      λ (l, k, n, m, x, h). j (l, (counting empty, within k n m [] []), x, (take (suc p) s, [], sym (append-nil (take (suc p) s)), h, (refl, refl))),
    )
  where
    group_read : (p : Phase) (k : Stack) (u : Bytes) → OpenedDeep p k → ReadSoFar p k u → (k' : Stack) × (l : ℕ) × (h : Option ℕ) × (depth_limit ≤ depth k') × StackSoFar (within k' l h [] []) u
    group_read (counting empty) (top before) u x g = absurd x
    group_read (counting empty) (within k l h [] []) u x (v, w, e, f, (g, o)) = (k, l, h, x, rw (e, g, append-nil) f)
    group_read (counting empty) (within k l h [] (a ∷ before)) u x g = absurd x
    group_read (counting empty) (within k l h (p ∷ others) before) u x g = absurd x
    group_read (counting (first n)) k u x g = absurd x
    group_read (counting (pointed n)) k u x g = absurd x
    group_read (counting (second n m)) k u x g = absurd x
    group_read (inside l h value) k u x g = absurd x
    group_read (after l h b) k u x g = absurd x

-- a source refused with NUMBER is refused at the first such place
pub number_first : (s : Bytes) (p : ℕ) → outcome s ≡ refused NUMBER p → NumberAt s p × ((j : ℕ) → j < p → ¬ NumberAt s j)
unfolding Least
number_first s p e =
    let (l, (a, b, c)) = named_least s NUMBER p (omega arith) e in
    ((number_exactly s p).0 a, λ j h x. c j NUMBER h ((number_exactly s j).1 x))
