-- No source of a good tree is shorter than the printed one. Assumes nothing.
use mathlib.Core.Path.{◌≡◌, refl, ap}
use mathlib.Core.Logic.{◌↔◌, ⊎_elim}
use mathlib.Core.Bool.{Bool, true, false, cond, ◌||◌}
use mathlib.Core.List.{List, [], ◌∷◌, ◌++◌}
use mathlib.Core.Option.{Option}
use Prim.Native.Nat.{ℕ, suc, ◌+◌, ◌-◌, ◌*◌, ◌/◌, ◌^◌, ◌≤◌, ◌<◌}
use native.Mathlib.Omega.{arith}
use lib.Bits.{bit_or, or_add_and, and_le_l, and_le_r}
use lib.Dec.{T, leb, eqb, leb→le, eqb→eq, eqb_refl}
use lib.ListN.{length, length-append}
use Rattle.pattern.specs.Numbers.{set_limit}
use Rattle.pattern.specs.Bytes.{Bytes, between}
use Rattle.pattern.specs.Codes.{Code, all_codes, bit_among, bit}
use Rattle.pattern.specs.Syntax.{Sort, pattern, Syntax, last, then, repeat, codes, literal, group, only, or}
use Rattle.pattern.specs.Meaning.{Cut}
use Rattle.pattern.specs.Grammar.{plain, quoting, barred, literal_class, Number, Low, missing, given, Count, exact, from, range, Letters, Quoted, start, byte, Derives}
use Rattle.pattern.specs.Scan.{accepted, outcome}
use Rattle.pattern.specs.Within.{InLimits}
use Rattle.pattern.specs.Print.{decimal, print_low, print_count, print_set, double, print}
use Rattle.pattern.proofs.Tests.{cond_case, all, all_at, le_or_lt}
use Rattle.pattern.proofs.Notation.{digit_byte}
use Rattle.pattern.proofs.Decimal.{decimal_one, decimal_longer}
use Rattle.pattern.proofs.Printed.{printed}
use Rattle.pattern.proofs.Accepted.{accepted_exactly}

number_shortest : {n : ℕ} {s : Bytes} → Number n s → length (decimal n) ≤ length s
number_shortest (Number.one c d) = let h : c ≤ 57 = digit_byte c d in omega (arith, ap length (decimal_one (c - 48) (omega arith)))
number_shortest (Number.more {n} {s} h c d) =
    let k : c ≤ 57 = digit_byte c d in
    let e : (10 * n + (c - 48)) / 10 ≡ n = omega arith in
    ⊎_elim
    (λ l. omega (arith, decimal_longer (10 * n + (c - 48)) l, ap (λ m. length (decimal m)) e, number_shortest h, length-append s (c ∷ [])))
    (λ l. omega (arith, ap length (decimal_one (10 * n + (c - 48)) l), length-append s (c ∷ [])))
    (le_or_lt 10 (10 * n + (c - 48)))

low_shortest : {n : ℕ} {s : Bytes} → Low n s → length (print_low n) ≤ length s
unfolding print_low
low_shortest missing = omega arith
low_shortest (given {n} {s} h) = go (eqb n 0) (number_shortest h)
  where
    go : (b : Bool) → length (decimal n) ≤ length s → length {A = ℕ} (elim b [ true ↦ [] | false ↦ decimal n ]) ≤ length s
    go true i = omega arith
    go false i = i

count_shortest : {low : ℕ} {high : Option ℕ} {s : Bytes} → Count low high s → length (print_count low high) ≤ length s
unfolding print_count
count_shortest (exact {n} {s} h) = go (eqb n n) (eqb_refl n) (number_shortest h)
  where
    go : (b : Bool) → T b → length (decimal n) ≤ length s → length {A = ℕ} (elim b [ true ↦ decimal n | false ↦ print_low n ++ 46 ∷ decimal n ]) ≤ length s
    go true t i = i
    go false t i = absurd t
count_shortest (from {n} {s} h) = omega (arith, low_shortest h, length-append (print_low n) (46 ∷ []), length-append s (46 ∷ []))
count_shortest (range {n} {m} {s} {w} h g) = go (eqb n m) (eqb→eq n m) (low_shortest h) (number_shortest g)
  where
    go : (b : Bool) → (T b → n ≡ m) → length (print_low n) ≤ length s → length (decimal m) ≤ length w
        → length {A = ℕ} (elim b [ true ↦ decimal n | false ↦ print_low n ++ 46 ∷ decimal m ]) ≤ length (s ++ 46 ∷ w)
    go true t i j = rw (t tt) (omega (arith, length-append s (46 ∷ w)))
    go false t i j = omega (arith, length-append (print_low n) (46 ∷ decimal m), length-append s (46 ∷ w))

-- how many letters are printed for a set
print_size : ℕ → ℕ
print_size set = length (print_set all_codes set)

-- another letter adds at most one
grown : T (all 7 (λ j. all 128 (λ a. leb (print_size (bit_or a (2 ^ j))) (suc (print_size a)))))
unfolding all print_size print_set all_codes
grown = tt

first_size : T (all 7 (λ j. leb (print_size (2 ^ j)) 1))
unfolding all print_size print_set all_codes
first_size = tt

-- what holds of each bit holds of a letter's
abbrev Each : (ℕ → Type 0) → List Code → ℕ → Type 0
Each F [] b = F b
Each F (l ∷ ls) b = F b × Each F ls (b * 2)

each_bit : (F : ℕ → Type 0) (ls : List Code) (b c : ℕ) → Each F ls b → F (bit_among ls b c)
unfolding bit_among
each_bit F [] b c h = h
each_bit F (l ∷ ls) b c (h, r) = cond_case (eqb l.letter c || eqb (l.letter + 32) c) F (λ t. h) (λ t. each_bit F ls (b * 2) c r)

bits : (F : ℕ → Type 0) → ((j : ℕ) → j < 7 → F (2 ^ j)) → (c : ℕ) → (x : bit c < set_limit) → ((b : ℕ) → (set_limit ≤ b) → F b) → F (bit c)
unfolding bit all_codes
bits F f c x g =
    each_bit F all_codes 1 c (f 0 (omega arith), (f 1 (omega arith), (f 2 (omega arith), (f 3 (omega arith), (f 4 (omega arith), (f 5 (omega arith), (f 6 (omega arith), g 128 (omega arith))))))))

letters_shortest : {set : ℕ} {s : Bytes} → Letters set s → set < set_limit → print_size set ≤ length s
letters_shortest (Letters.one c d) h =
    bits (λ x. x < set_limit → print_size x ≤ 1) (λ j l k. leb→le (print_size (2 ^ j)) 1 (all_at 7 (λ j. leb (print_size (2 ^ j)) 1) first_size j l)) c h (λ b l k. absurd (omega arith)) h
letters_shortest (Letters.more {set} {s} i c d) h =
    let a : set < set_limit = omega (arith, or_add_and set (bit c), and_le_r set (bit c)) in
    let b : bit c < set_limit = omega (arith, or_add_and set (bit c), and_le_l set (bit c)) in
    let f : print_size (bit_or set (bit c)) ≤ suc (print_size set) =
    bits (λ x. x < set_limit → print_size (bit_or set x) ≤ suc (print_size set))
    (λ j l k. leb→le (print_size (bit_or set (2 ^ j))) (suc (print_size set))
    (all_at 128 (λ a. leb (print_size (bit_or a (2 ^ j))) (suc (print_size a))) (all_at 7 (λ j. all 128 (λ a. leb (print_size (bit_or a (2 ^ j))) (suc (print_size a)))) grown j l) set a))
    c b (λ b l k. absurd (omega arith)) b in
    omega (arith, length-append s (c ∷ []), letters_shortest i a)

double_more : (v : Bytes) (c : ℕ) → length (double (v ++ c ∷ [])) ≡ length (double v) + length (double (c ∷ []))
unfolding double
double_more [] c = omega arith
double_more (x ∷ v) c = go (eqb x 34) (double_more v c)
  where
    go : (b : Bool) → length (double (v ++ c ∷ [])) ≡ length (double v) + length (double (c ∷ []))
        → length {A = ℕ} (elim b [ true ↦ 34 ∷ 34 ∷ double (v ++ c ∷ []) | false ↦ x ∷ double (v ++ c ∷ []) ])
        ≡ length {A = ℕ} (elim b [ true ↦ 34 ∷ 34 ∷ double v | false ↦ x ∷ double v ]) + length (double (c ∷ []))
    go true e = omega arith
    go false e = omega arith

plain_one : (c : ℕ) → literal_class c ≡ plain → length (double (c ∷ [])) ≡ 1
unfolding literal_class double
plain_one c e = go (eqb c 34) e
  where
    go : (a : Bool) → cond a quoting (cond (between 32 126 c) plain barred) ≡ plain → length {A = ℕ} (elim a [ true ↦ 34 ∷ 34 ∷ [] | false ↦ c ∷ [] ]) ≡ 1
    go true e = absurd (let z : ◌≡◌ {A = ℕ} 0 1 = cc in omega arith)
    go false e = refl

quoted_length : {v : Bytes} {s : Bytes} → Quoted v s → length s ≡ suc (length (double v))
unfolding double
quoted_length start = refl
quoted_length (byte {v} {s} h c e) = omega (arith, quoted_length h, length-append s (c ∷ []), double_more v c, plain_one c e)
quoted_length (Quoted.quote {v} {s} h) = omega (arith, quoted_length h, length-append s (34 ∷ 34 ∷ []), double_more v 34)

-- no source of a good tree is shorter than its printed source
pub shortest : {s : Sort} (d : ℕ) (x : Syntax s) (w : Bytes) → InLimits d x → Derives x w → length (print x) ≤ length w
unfolding Derives Cut InLimits print
shortest d (last a) w g h = shortest d a w g h
shortest d (then a p) w (g, k) (x, y, e, h, i) =
    omega (arith, shortest d a x g h, shortest d p y k i, length-append (print a) (print p), ap length e, length-append x y)
shortest d (repeat low high b) w (g, k) (x, y, e, h, i) =
    omega (arith, count_shortest h, shortest d b y k i, length-append (print_count low high) (print b), ap length e, length-append x y)
shortest d (codes set) w g h = unfold print_size in letters_shortest h g
shortest d (literal value) w g (q, e, h) = omega (arith, quoted_length h, length-append (double value) (34 ∷ []), ap length e, length-append q (34 ∷ []))
shortest d (group bs) w (g, k) (x, e, h) = omega (arith, shortest (suc d) bs x k h, length-append (print bs) (41 ∷ []), ap length e, length-append x (41 ∷ []))
shortest d (only p) w g h = shortest d p w g h
shortest d (or p bs) w (g, k) (x, y, e, h, i) =
    omega (arith, shortest d p x g h, shortest d bs y k i, length-append (print p) (44 ∷ print bs), ap length e, length-append x (44 ∷ y))

-- a tree is that of some accepted source just where its printed source is accepted with it
pub good_tree : (t : Syntax pattern) → ((s : Bytes) × (outcome s ≡ accepted t)) ↔ (outcome (print t) ≡ accepted t)
good_tree t = (
  λ (s, e). let (l, h, g) = (accepted_exactly s t).0 e in
      let k = shortest 0 t s g.tree h in
      (accepted_exactly (print t) t).1 (omega arith, printed 0 t s g.tree h, g),
  λ e. (print t, e),
)
