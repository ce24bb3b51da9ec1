-- The scan and the longest run over the bytes of a count. Assumes nothing.
use mathlib.Core.Path.{◌≡◌, refl, sym, ap, ap₂, ◌∙◌}
use mathlib.Core.List.{[], ◌∷◌}
use mathlib.Core.Option.{Option, none, some}
use Prim.Native.Nat.{ℕ, suc, ◌+◌, ◌-◌, ◌*◌, ◌≤◌, ◌<◌}
use lib.Dec.{ltb}
use lib.ListN.{length, drop, get_or}
use lib.Seq.{drop-cons}
use borrow.Author.Tests.{lt-ltb, le-ltb}
use Rattle.pattern.specs.Numbers.{number_limit, NUMBER}
use Rattle.pattern.specs.Bytes.{Bytes}
use Rattle.pattern.specs.Grammar.{CountChar, digit, point, count_char}
use Rattle.pattern.specs.Parser.{CountState, empty, first, pointed, second, counting, Stack, grow, step}
use Rattle.pattern.specs.Scan.{longest_count, begins, begun, refuse, atom_rows, rows, fault, Outcome, refused}
use Rattle.pattern.specs.Faults.{Over}
use Rattle.pattern.proofs.LongestCounts.{longest_next, count_step}
use Rattle.scanner.specs.Places.{class_at}
use Rattle.scanner.specs.Scans.{scanned}
use Rattle.scanner.specs.Counts.{CountNumber, the_first, the_second, valued, begun_with, faults_first, Reaches, Advances, Exceeds}
use Rattle.scanner.proofs.Steps.{fault_here, begun_here, stepped, onward, faulty}

-- the longest run over a byte that belongs to it
longest_on : (s : Bytes) (j : ℕ) → j < length s → (m : CountChar) → class_at s j ≡ count_char m → (r r' : CountState) → grow r m (get_or s j 0) ≡ some r'
    → longest_count r (drop j s) ≡ longest_count r' (drop (suc j) s)
longest_on s j l m e r r' g = rw (drop-cons s j 0 l) (longest_next r r' m (get_or s j 0) (drop (suc j) s) e g)

-- a count begins at place j
module _ (s : Bytes) (j : ℕ) (l : j < length s) (m : CountChar) (e : class_at s j ≡ count_char m) where
  first_fault : (k : Stack) (n : ℕ) → fault_here s (counting empty, k) j n ≡ refuse (atom_rows n (longest_count empty (drop j s)))
  unfolding fault rows begins
  first_fault k n = rw e (ap (λ (x : Bytes). refuse (atom_rows n (longest_count empty x))) (sym (drop-cons s j 0 l)))

  first_begun : (k : Stack) (n : ℕ) → begun_here s (counting empty, k) j n ≡ suc n
  unfolding begins begun
  first_begun k n = rw e

  first_byte : (r : CountState) → grow empty m (get_or s j 0) ≡ some r → Advances s the_first j r (suc j)
  unfolding faults_first
  first_byte r g = record {
    longest = longest_on s j l m e empty r g;
    scan = λ k n. stepped s j n l (counting empty, k) (counting r, k) (count_step empty r m (get_or s j 0) e g k)
        ∙ ap₂ (λ (o : Option ℕ) (b : ℕ). elim o [ some f ↦ refused f j | none ↦ scanned s (counting r, k) (suc j) b ]) (first_fault k n) (first_begun k n);
  }

-- a digit at place j
module _ (s : Bytes) (j : ℕ) (l : j < length s) (e : class_at s j ≡ count_char digit) where
  abbrev d : ℕ
  d = get_or s j 0 - 48

  -- the first of a number
  pub number_begins : (w : CountNumber) → Advances s w j (valued w d) (suc j)
  unfolding grow faults_first fault rows begins begun refuse
  number_begins the_first = first_byte s j l digit e (first d) refl
  number_begins (the_second x) = record {
    longest = longest_on s j l digit e (pointed x) (second x d) refl;
    scan = λ k n. onward s j n l (counting (pointed x), k) (counting (second x d), k) (count_step (pointed x) (second x d) digit (get_or s j 0) e refl k) (rw e) (rw e);
  }

  -- one more of a number with value v
  module _ (v : ℕ) where
    abbrev value : ℕ
    value = 10 * v + d

    grows : (w : CountNumber) → grow (valued w v) digit (get_or s j 0) ≡ some (valued w value)
    unfolding grow
    grows the_first = refl
    grows (the_second x) = refl

    digit_fault : (w : CountNumber) (k : Stack) (n : ℕ) → fault_here s (counting (valued w v), k) j n ≡ refuse ((ltb number_limit value, NUMBER) ∷ [])
    unfolding fault rows begins
    digit_fault the_first k n = rw e
    digit_fault (the_second x) k n = rw e

    digit_begun : (w : CountNumber) (k : Stack) (n : ℕ) → begun_here s (counting (valued w v), k) j n ≡ n
    unfolding begins begun
    digit_begun the_first k n = rw e
    digit_begun (the_second x) k n = rw e

    next_step : (w : CountNumber) (k : Stack) → step (counting (valued w v), k) (get_or s j 0) ≡ some (counting (valued w value), k)
    next_step w k = count_step (valued w v) (valued w value) digit (get_or s j 0) e (grows w) k

    module _ (i : ℕ) (w : CountNumber) (h : Advances s w i (valued w v) j) where
      digit_reaches : (o : Stack → ℕ → Outcome) → ((k : Stack) (n : ℕ) → scanned s (counting (valued w v), k) j n ≡ o k n) → Reaches s w i (valued w value) (suc j) o
      digit_reaches o f = record {
        longest = h.longest ∙ longest_on s j l digit e (valued w v) (valued w value) (grows w);
        scan = λ k n. h.scan k n ∙ ap (faults_first w s i n) (f k (begun_with w n));
      }

      pub number_goes_on : value ≤ number_limit → Advances s w i (valued w value) (suc j)
      unfolding refuse
      number_goes_on g = digit_reaches _ (λ k n. onward s j n l (counting (valued w v), k) (counting (valued w value), k) (next_step w k) (digit_fault w k n ∙ rw (le-ltb number_limit value g)) (digit_begun w k n))

      pub exceeds : number_limit < value → Exceeds s w i j
      unfolding refuse
      exceeds g = record {
        state = valued w value;
        over = over w;
        reaches = digit_reaches _ (λ k n. faulty s j n l (counting (valued w v), k) (counting (valued w value), k) NUMBER (next_step w k) (digit_fault w k n ∙ rw (lt-ltb number_limit value g)));
      }
        where
          over : (w : CountNumber) → Over (valued w value)
          over the_first = unfold Over in g
          over (the_second x) = unfold Over in g

-- a point at place j
module _ (s : Bytes) (j : ℕ) (l : j < length s) (e : class_at s j ≡ count_char point) where
  pub point_begins : Advances s the_first j (pointed 0) (suc j)
  unfolding grow
  point_begins = first_byte s j l point e (pointed 0) refl

  pub point_goes_on : (i v : ℕ) → Advances s the_first i (first v) j → Advances s the_first i (pointed v) (suc j)
  unfolding grow fault rows refuse begins begun
  point_goes_on i v h = record {
    longest = h.longest ∙ longest_on s j l point e (first v) (pointed v) refl;
    scan = λ k n. h.scan k n ∙ ap (faults_first the_first s i n) (onward s j _ l (counting (first v), k) (counting (pointed v), k) (count_step (first v) (pointed v) point (get_or s j 0) e refl k) (rw e) (rw e));
  }

-- a second number after what came before it
pub then_reaches : (s : Bytes) (i x j : ℕ) → Advances s the_first i (pointed x) j → (r : CountState) (m : ℕ) (o : Stack → ℕ → Outcome) → Reaches s (the_second x) j r m o → Reaches s the_first i r m o
unfolding faults_first
then_reaches s i x j h r m o g = record { longest = h.longest ∙ g.longest; scan = λ k n. h.scan k n ∙ ap (faults_first the_first s i n) (g.scan k (suc n)) }
