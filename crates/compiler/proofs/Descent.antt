-- How the scan goes on through an atom, a pattern and a group. Assumes nothing.
use mathlib.Core.Path.{◌≡◌, refl, sym, ap, ◌∙◌}
use mathlib.Core.Logic.{⊎_elim}
use mathlib.Core.List.{List, [], ◌∷◌}
use mathlib.Core.Option.{Option, none, some}
use Prim.Native.Nat.{ℕ, suc, ◌<◌, ◌≤◌}
use native.Mathlib.Omega.{arith}
use lib.ListN.{length, drop, get_or}
use lib.Seq.{drop-cons, drop-length}
use borrow.Author.Tests.{le-leb, lt-leb, lt-ltb, le-ltb}
use Rattle.pattern.specs.Numbers.{depth_limit, closing_byte, comma_byte, FORM, DEPTH}
use Rattle.pattern.specs.Bytes.{Bytes, between}
use Rattle.pattern.specs.Syntax.{pattern, atom, body, Syntax, last, then, repeat, codes, literal, group, only}
use Rattle.pattern.specs.Grammar.{BodyStart, letter, quote, opening, BranchEnd, closing, comma, neither, CountChar, CharClass, count_char, body_start, branch_end, char_class}
use Rattle.pattern.specs.Parser.{CountState, empty, first, pointed, second, counting, inside, after, Stack, top, within, chain, fork, next, ParserState, enter, extend, leave, grow, counted, move, step, finish}
use Rattle.pattern.specs.Scan.{low, high, depth, body_begins, begins, begun, refuse, fault, Outcome, refused, accepted, scan}
use Rattle.pattern.proofs.Tests.{le_or_lt}
use Rattle.pattern.proofs.Notation.{class_byte}
use Rattle.pattern.proofs.ParserComplete.{after_pattern, ended_closes, ended_parts}
use Rattle.scanner.specs.Places.{class_at, ends_class, ends_at, ClassNot}
use Rattle.scanner.specs.Scans.{scanned}
use Rattle.compiler.specs.Readers.{BodyEnds, tail}
use Rattle.scanner.proofs.Steps.{fault_here, begun_here, onward, faulty, stuck, short}

-- a body may begin after a count
enters : (r : CountState) (k : Stack) (b : BodyStart) (c : ℕ) → ¬ (r ≡ empty) → char_class c ≡ body_start b → step (counting r, k) c ≡ some (enter (low r) (high r) k b c)
unfolding step move low high
enters empty k b c o e = absurd (o refl)
enters (first n) k b c o e = rw e
enters (pointed n) k b c o e = rw e
enters (second n m) k b c o e = rw e

body_begun : (r : CountState) (b : BodyStart) → begins (counting r) (body_start b) ≡ body_begins b
unfolding begins
body_begun empty b = refl
body_begun (first n) b = refl
body_begun (pointed n) b = refl
body_begun (second n m) b = refl

-- what the scan answers at a byte, from where it leads
led : Option ParserState → Option ℕ → (i n : ℕ) → Bytes → Outcome
led o f i n s = elim o [ none ↦ refused FORM i | some q ↦ elim f [ some x ↦ refused x i | none ↦ scan q (suc i) n s ] ]

scan_led : (s : Bytes) (i n : ℕ) → i < length s → (q : ParserState) → scanned s q i n ≡ led (step q (get_or s i 0)) (fault_here s q i n) i (begun_here s q i n) (drop (suc i) s)
unfolding scan led
scan_led s i n l q = rw (drop-cons s i 0)

-- two places from which the next byte leads the same way
same_way : (s : Bytes) (i n : ℕ) → i < length s → (q q' : ParserState)
    → step q (get_or s i 0) ≡ step q' (get_or s i 0) → fault_here s q i n ≡ fault_here s q' i n → begun_here s q i n ≡ begun_here s q' i n → scanned s q i n ≡ scanned s q' i n
same_way s i n l q q' a b c =
    scan_led s i n l q
    ∙ ap (λ x. led x (fault_here s q i n) i (begun_here s q i n) (drop (suc i) s)) a
    ∙ ap (λ x. led (step q' (get_or s i 0)) x i (begun_here s q i n) (drop (suc i) s)) b
    ∙ ap (λ x. led (step q' (get_or s i 0)) (fault_here s q' i n) i x (drop (suc i) s)) c
    ∙ sym (scan_led s i n l q')

module _ (s : Bytes) (i n : ℕ) (k : Stack) (r : CountState) (o : ¬ (r ≡ empty)) where
  -- code letters, as after codes with no bit
  pub codes_enter : i < length s → class_at s i ≡ body_start letter → scanned s (counting r, k) i n ≡ scanned s (after (low r) (high r) (codes 0), k) i n
  unfolding step move extend enter begins
  codes_enter l e = same_way s i n l (counting r, k) (after (low r) (high r) (codes 0), k)
      (enters r k letter (get_or s i 0) o e ∙ rw e)
      (rw (e, body_begun r letter))
      (rw (e, body_begun r letter))

  pub literal_enter : i < length s → class_at s i ≡ body_start quote → scanned s (counting r, k) i n ≡ scanned s (inside (low r) (high r) [], k) (suc i) n
  unfolding enter body_begins fault begun
  literal_enter l e = onward s i n l (counting r, k) (inside (low r) (high r) [], k) (enters r k quote (get_or s i 0) o e) (rw (e, body_begun r quote)) (rw (e, body_begun r quote))

  module _ (l : i < length s) (e : class_at s i ≡ body_start opening) where
    pub group_enter : depth k < depth_limit → scanned s (counting r, k) i n ≡ scanned s (counting empty, within k (low r) (high r) [] []) (suc i) n
    unfolding enter body_begins fault begun refuse
    group_enter h = onward s i n l (counting r, k) (counting empty, within k (low r) (high r) [] []) (enters r k opening (get_or s i 0) o e) (rw (e, body_begun r opening) (rw (lt-leb depth_limit (depth k) h))) (rw (e, body_begun r opening))

    pub group_deep : depth_limit ≤ depth k → scanned s (counting r, k) i n ≡ refused DEPTH i
    unfolding enter body_begins fault begun refuse
    group_deep h = faulty s i n l (counting r, k) (counting empty, within k (low r) (high r) [] []) DEPTH (enters r k opening (get_or s i 0) o e) (rw (e, body_begun r opening) (rw (le-leb depth_limit (depth k) h)))

  -- no body begins where the longest run ends
  no_body : (x : CharClass) (c : ℕ) → char_class c ≡ x → ((m : CountChar) → char_class c ≡ count_char m → grow r m c ≡ none) → ¬ (x ≡ body_start letter) → ¬ (x ≡ body_start quote) → ¬ (x ≡ body_start opening)
      → step (counting r, k) c ≡ none
  unfolding step move counted
  no_body (count_char m) c e g u v w = rw e (rw (g m e))
  no_body (body_start letter) c e g u v w = absurd (u refl)
  no_body (body_start quote) c e g u v w = absurd (v refl)
  no_body (body_start opening) c e g u v w = absurd (w refl)
  no_body (branch_end x) c e g u v w = rw e

  pub body_form : ((m : CountChar) → i < length s → class_at s i ≡ count_char m → grow r m (get_or s i 0) ≡ none)
      → ClassNot s i (body_start letter) → ClassNot s i (body_start quote) → ClassNot s i (body_start opening) → scanned s (counting r, k) i n ≡ refused FORM i
  unfolding finish
  body_form g u v w = ⊎_elim
      (λ h. short s i n h (counting r, k) refl)
      (λ h. stuck s i n h (counting r, k) (no_body (class_at s i) (get_or s i 0) refl (λ m e. g m h e) (u.not h) (v.not h) (w.not h)))
      (le_or_lt (length s) i)

-- after an atom the next one begins as at any place
pub atom_next : (s : Bytes) (j m : ℕ) (k : Stack) (l : ℕ) (h : Option ℕ) (b : Syntax body) (x : CountChar) → j < length s → class_at s j ≡ count_char x
    → scanned s (after l h b, k) j m ≡ scanned s (counting empty, next k (repeat l h b)) j m
unfolding step move begins fault
atom_next s j m k l h b x w e = same_way s j m w (after l h b, k) (counting empty, next k (repeat l h b)) (rw e) (rw e) (rw e)

pub depth_next : (k : Stack) (a : Syntax atom) → depth (next k a) ≡ depth k
unfolding depth next
depth_next (top before) a = refl
depth_next (within k l h others before) a = refl

-- an atom begins just where the flag is 0
pub flag_count : (s : Bytes) (j : ℕ) → ends_at s j ≡ 0 → (x : CountChar) × (j < length s) × (class_at s j ≡ count_char x)
unfolding ends_at
flag_count s j = ⊎_elim (λ h. rw (le-ltb j (length s) h) (λ e. absurd (omega arith))) (λ h. rw (lt-ltb j (length s) h) (λ e. go h (class_at s j) refl e)) (le_or_lt (length s) j)
  where
    go : j < length s → (y : CharClass) → class_at s j ≡ y → ends_class y ≡ 0 → (x : CountChar) × (j < length s) × (class_at s j ≡ count_char x)
    go h (count_char x) e f = (x, h, e)
    go h (body_start b) e f = absurd (omega arith)
    go h (branch_end b) e f = absurd (omega arith)

-- at the end of a branch no other fault is looked for
module _ (s : Bytes) (j m : ℕ) (w : j < length s) (e : BranchEnd) (f : class_at s j ≡ branch_end e) where
  ended_quiet : (t : Syntax pattern) (k : Stack) → (fault_here s (after_pattern k t) j m ≡ none) × (begun_here s (after_pattern k t) j m ≡ m)
  unfolding after_pattern begins fault begun
  ended_quiet (last (repeat l h b)) k = (rw f, rw f)
  ended_quiet (then a t) k = ended_quiet t (next k a)

  branch_next : (t : Syntax pattern) (k : Stack) (q : ParserState) → step (after_pattern k t) (get_or s j 0) ≡ some q → scanned s (after_pattern k t) j m ≡ scanned s q (suc j) m
  branch_next t k q g = let (x, y) = ended_quiet t k in onward s j m w (after_pattern k t) q g x y

module _ (s : Bytes) (j m : ℕ) (t : Syntax pattern) (k : Stack) (l : ℕ) (h : Option ℕ) (others : List (Syntax pattern)) where
  -- a closing parenthesis after a branch
  pub group_closes : j < length s → closing_byte ≡ get_or s j 0 → scanned s (after_pattern (within k l h others []) t) j m ≡ scanned s (after l h (group (fork others (only t))), k) (suc j) m
  unfolding char_class between chain
  group_closes w e = branch_next s j m w closing (ap char_class (sym e)) t (within k l h others []) _ (rw e at (ended_closes k l h others t []))

  -- a comma
  pub pattern_parts : j < length s → comma_byte ≡ get_or s j 0 → scanned s (after_pattern (within k l h others []) t) j m ≡ scanned s (counting empty, within k l h (t ∷ others) []) (suc j) m
  unfolding char_class between chain
  pattern_parts w e = branch_next s j m w comma (ap char_class (sym e)) t (within k l h others []) _ (rw e at (ended_parts k l h others t []))

-- the byte does not end a branch here: outside all groups nothing does
Ends-not : Stack → CharClass → Type 0
Ends-not (top before) x = Unit {0}
Ends-not (within k l h others before) x = ¬ (x ≡ branch_end closing) × ¬ (x ≡ branch_end comma)

next_not : (k : Stack) (a : Syntax atom) (x : CharClass) → Ends-not k x → Ends-not (next k a) x
unfolding next Ends-not
next_not (top before) a x o = tt
next_not (within k l h others before) a x o = o

leave_none : (k : Stack) (a : Syntax atom) (e : BranchEnd) → Ends-not k (branch_end e) → leave k a e ≡ none
unfolding leave Ends-not
leave_none (top before) a e o = refl
leave_none (within k l h others before) a closing o = absurd (o.0 refl)
leave_none (within k l h others before) a comma o = absurd (o.1 refl)
leave_none (within k l h others before) a neither o = refl

idle : (s : Bytes) (j : ℕ) (l : ℕ) (h : Option ℕ) (b : Syntax body) (k : Stack) (x : BodyStart) (c : ℕ) → j < length s → class_at s j ≡ body_start x → BodyEnds s j b → extend l h b k x c ≡ none
unfolding extend BodyEnds
idle s j l h (codes set) k letter c w e o = absurd (o.not w e)
idle s j l h (codes set) k quote c w e o = refl
idle s j l h (codes set) k opening c w e o = refl
idle s j l h (literal value) k letter c w e o = refl
idle s j l h (literal value) k quote c w e o = absurd (o.not w e)
idle s j l h (literal value) k opening c w e o = refl
idle s j l h (group bs) k x c w e o = refl

-- nothing goes on after a pattern that rests
module _ (s : Bytes) (j : ℕ) (w : j < length s) where
  at_rest : (t : Syntax pattern) (k : Stack) (x : CharClass) → class_at s j ≡ x → BodyEnds s j (tail t) → ends_class x ≡ 1 → Ends-not k x → move (after_pattern k t).0 (after_pattern k t).1 x (get_or s j 0) ≡ none
  unfolding after_pattern tail move
  at_rest (last (repeat l h b)) k (count_char m) e o f d = absurd (omega arith)
  at_rest (last (repeat l h b)) k (body_start x) e o f d = idle s j l h b k x (get_or s j 0) w e o
  at_rest (last (repeat l h b)) k (branch_end x) e o f d = leave_none k (repeat l h b) x d
  at_rest (then a t) k x e o f d = at_rest t (next k a) x e o f (next_not k a x d)

  flag_here : ends_at s j ≡ 1 → ends_class (class_at s j) ≡ 1
  unfolding ends_at
  flag_here e = rw (lt-ltb j (length s) w) at e

  rests : (t : Syntax pattern) (k : Stack) (m : ℕ) → BodyEnds s j (tail t) → ends_at s j ≡ 1 → Ends-not k (class_at s j) → scanned s (after_pattern k t) j m ≡ refused FORM j
  unfolding step
  rests t k m o f d = stuck s j m w (after_pattern k t) (at_rest t k (class_at s j) refl o (flag_here f) d)

-- a source that ends in a group
ended_short : (t : Syntax pattern) (k : Stack) (l : ℕ) (h : Option ℕ) (others : List (Syntax pattern)) (before : List (Syntax atom))
    → finish (after_pattern (within k l h others before) t).0 (after_pattern (within k l h others before) t).1 ≡ none
unfolding after_pattern finish next
ended_short (last (repeat x y b)) k l h others before = refl
ended_short (then a t) k l h others before = ended_short t k l h others (a ∷ before)

-- a branch that neither a comma nor a bracket follows
pub branch_form : (s : Bytes) (j m : ℕ) (t : Syntax pattern) (k : Stack) (l : ℕ) (h : Option ℕ) (others : List (Syntax pattern)) → BodyEnds s j (tail t) → ends_at s j ≡ 1
    → (j < length s → ¬ (get_or s j 0 ≡ closing_byte) × ¬ (get_or s j 0 ≡ comma_byte)) → scanned s (after_pattern (within k l h others []) t) j m ≡ refused FORM j
unfolding Ends-not
branch_form s j m t k l h others o f d = ⊎_elim
    (λ w. short s j m w (after_pattern (within k l h others []) t) (ended_short t k l h others []))
    (λ w. rests s j w t (within k l h others []) m o f (λ e. (d w).0 (rw e at (class_byte (get_or s j 0))), λ e. (d w).1 (rw e at (class_byte (get_or s j 0)))))
    (le_or_lt (length s) j)

-- the whole source
pub whole_form : (s : Bytes) (j m : ℕ) (t : Syntax pattern) → BodyEnds s j (tail t) → ends_at s j ≡ 1 → j < length s → scanned s (after_pattern (top []) t) j m ≡ refused FORM j
unfolding Ends-not
whole_form s j m t o f w = rests s j w t (top []) m o f tt

ended_accepts : (t : Syntax pattern) (before : List (Syntax atom)) (i n : ℕ) → scan (after_pattern (top before) t) i n [] ≡ accepted (chain before t)
unfolding after_pattern scan finish next chain
ended_accepts (last (repeat l h b)) before i n = refl
ended_accepts (then a t) before i n = ended_accepts t (a ∷ before) i n

pub whole_accepted : (s : Bytes) (m : ℕ) (t : Syntax pattern) → scanned s (after_pattern (top []) t) (length s) m ≡ accepted t
unfolding chain
whole_accepted s m t = rw drop-length (ended_accepts t [] (length s) m)
