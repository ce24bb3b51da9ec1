-- The parts are a partition of the label, and the longest_first one. Assumes nothing.
use mathlib.Core.Path.{◌≡◌, refl, sym, ap, ◌∙◌}
use mathlib.Core.Logic.{inl, inr, ⊎_elim}
use mathlib.Core.Bool.{Bool, true, false}
use mathlib.Core.List.{List, [], ◌∷◌}
use mathlib.Core.Option.{Option, none, some, none-ne-some}
use Prim.Native.Nat.{ℕ, zero, suc, ◌+◌, ◌-◌, ◌*◌, ◌<◌, ◌≤◌}
use native.Mathlib.Nat.{eq-or-lt_of_le}
use native.Mathlib.Omega.{arith}
use lib.Dec.{T, T_not}
use lib.ListN.{length, get_or}
use lib.Seq.{slice, take-length}
use Rattle.pattern.specs.Bytes.{Bytes}
use Rattle.pattern.specs.Syntax.{pattern, atom, Syntax, last, then, top_size}
use Rattle.pattern.specs.Meaning.{Cut, Satisfies}
use Rattle.pattern.specs.Decision.{trial, decide}
use Rattle.pattern.specs.Parts.{longest, Partition, Lex, IsVerdict, end, parts, verdict}
use Rattle.pattern.specs.Within.{Ordered}
use Rattle.pattern.specs.Answers.{part_bytes}
use Rattle.pattern.proofs.Tests.{Decides, cond_case, below_suc}
use Rattle.pattern.proofs.Stretch.{cut_slice, slice_cut}
use Rattle.pattern.proofs.Agree.{trial_agree, agree}

-- the longest passes and no number that passes is above it, if any passes
longest_best : (c : ℕ) (p : ℕ → Bool) (d : ℕ) → d < c → T (p d) → (longest c p < c) × T (p (longest c p)) × (d ≤ longest c p)
unfolding longest
longest_best zero p d h t = absurd (omega arith)
longest_best (suc c) p d h t =
    cond_case (p c) (λ x. (x < suc c) × T (p x) × (d ≤ x))
    (λ u. (omega arith, u, omega arith))
    (λ u. let below : d < c = ⊎_elim (λ e. absurd (T_not (p c) u (rw e at t))) (λ q. q) (below_suc h) in
    let (f, v, g) = longest_best c p d below t in
    (omega arith, v, g))

-- the longest of c + 1 numbers is at most c
pub longest_le : (c : ℕ) (p : ℕ → Bool) → longest (suc c) p ≤ c
unfolding longest
longest_le zero p = cond_case (p 0) (λ x. x ≤ 0) (λ u. omega arith) (λ u. omega arith)
longest_le (suc c) p = cond_case (p (suc c)) (λ x. x ≤ suc c) (λ u. omega arith) (λ u. omega (arith, longest_le c p))

-- a partition shows that the label satisfies the pattern
pub partition_satisfies : (l : Bytes) (p : Syntax pattern) (i : ℕ) (ends : List ℕ) → Partition l p i ends → Satisfies p (slice i (length l) l)
unfolding Partition Satisfies Cut
partition_satisfies l (last a) i ends (e, s) = s
partition_satisfies l (then a p) i ends (m, rest, e, h, k, s, q) =
    (slice i m l, slice m (length l) l, cut_slice l i m (length l) h k (omega arith), s, partition_satisfies l p m rest q)

module _ (l : Bytes) where
  -- if the label from i on can be cut at m, then it can be cut at the end that is chosen, which is not before m
  choice : (a : Syntax atom) (p : Syntax pattern) → Ordered a → Ordered p → (i m : ℕ) → i ≤ m → m ≤ length l → Satisfies a (slice i m l) → Satisfies p (slice m (length l) l)
      → (m ≤ end l a p i) × (end l a p i ≤ length l) × Satisfies a (slice i (end l a p i) l) × Satisfies p (slice (end l a p i) (length l) l)
  unfolding end
  choice a p oa op i m h k s q =
      let n : ℕ = length l in
      let c : ℕ = suc n - i in
      let f : ℕ → Bool = trial (decide l a) (decide l p) i n in
      let e : i + (m - i) ≡ m = omega arith in
      let good : (d : ℕ) → d < c → Decides (f d) (Satisfies a (slice i (i + d) l) × Satisfies p (slice (i + d) n l)) =
      trial_agree (agree a oa) (agree p op) (omega arith) (omega arith) in
      let (b, t, g) = longest_best c f (m - i) (omega arith) ((good (m - i) (omega arith)).complete (rw e s, rw e q)) in
      let (x, y) = (good (longest c f) b).sound t in
      (omega arith, omega arith, x, y)

  -- the parts of a label that satisfies the pattern are a partition
  parts_fit : (p : Syntax pattern) → Ordered p → (i : ℕ) → i ≤ length l → Satisfies p (slice i (length l) l) → Partition l p i (parts l p i)
  unfolding Partition parts Satisfies Cut Ordered
  parts_fit (last a) o i h s = (refl, s)
  parts_fit (then a p) o i h (x, y, e, s, q) =
      let (k, u, v) = slice_cut l x y i (length l) h (omega arith) e in
      let (f, g, s', q') = choice a p o.0 o.1 i (i + length x) (omega arith) k (rw u s) (rw v q) in
      (end l a p i, parts l p (end l a p i), refl, omega arith, g, s', parts_fit p o.1 (end l a p i) g q')

  -- no partition is above the parts
  parts_longest : (p : Syntax pattern) → Ordered p → (i : ℕ) → (ends : List ℕ) → Partition l p i ends → Lex ends (parts l p i)
  unfolding Partition parts Lex Ordered
  parts_longest (last a) o i ends (e, s) = rw e (inr (refl, tt))
  parts_longest (then a p) o i ends (m, rest, e, h, k, s, q) =
      let (f, g, s', q') = choice a p o.0 o.1 i m h k s (partition_satisfies l p m rest q) in
      rw e (⊎_elim (λ x. inr (x, rw x at (parts_longest p o.1 m rest q))) inl (eq-or-lt_of_le f))

  -- the verdict is no just where the label does not satisfy the pattern, and else its greatest partition
  pub verdict_is : (p : Syntax pattern) → Ordered p → IsVerdict l p (verdict l p)
  unfolding IsVerdict verdict
  verdict_is p o = go (decide l p 0 (length l)) (rw take-length at ((agree {l = l} p o).on 0 (length l) (omega arith) (omega arith)))
    where
      go : (b : Bool) → Decides b (Satisfies p l) → IsVerdict l p (elim b [ true ↦ some (parts l p 0) | false ↦ none ])
      go true e = (parts_fit p o 0 (omega arith) (rw take-length (e.sound tt)), parts_longest p o 0)
      go false e = e.complete

-- the ends of a yes show that the label satisfies the pattern
pub yes_satisfies : (l : Bytes) (p : Syntax pattern) (ends : List ℕ) → IsVerdict l p (some ends) → Satisfies p l
unfolding IsVerdict
yes_satisfies l p ends v = rw take-length at (partition_satisfies l p 0 ends v.0)

-- two lists neither of which is above the other are one
lex_antisym : (xs ys : List ℕ) → Lex xs ys → Lex ys xs → xs ≡ ys
unfolding Lex
lex_antisym [] [] h k = refl
lex_antisym [] (y ∷ ys) h k = absurd k
lex_antisym (x ∷ xs) [] h k = absurd h
lex_antisym (x ∷ xs) (y ∷ ys) (inl h) (inl k) = absurd (omega arith)
lex_antisym (x ∷ xs) (y ∷ ys) (inl h) (inr k) = absurd (omega arith)
lex_antisym (x ∷ xs) (y ∷ ys) (inr h) (inl k) = absurd (omega arith)
lex_antisym (x ∷ xs) (y ∷ ys) (inr (e, h)) (inr (f, k)) = cc (lex_antisym xs ys h k)

-- only one verdict is right
pub one_verdict : (l : Bytes) (p : Syntax pattern) (u v : Option (List ℕ)) → IsVerdict l p u → IsVerdict l p v → u ≡ v
unfolding IsVerdict
one_verdict l p none none h k = refl
one_verdict l p none (some y) h k = absurd (h (yes_satisfies l p y k))
one_verdict l p (some x) none h k = absurd (k (yes_satisfies l p x h))
one_verdict l p (some x) (some y) h k = ap some (lex_antisym x y (k.1 x h.0) (h.1 y k.0))

-- ---- the parts as they are written

-- there is a part for each top-level atom
pub parts_length : (l : Bytes) (p : Syntax pattern) (i : ℕ) → length (parts l p i) ≡ top_size p
unfolding parts top_size
parts_length l (last a) i = refl
parts_length l (then a p) i = ap suc (parts_length l p (end l a p i))

pub verdict_length : (l : Bytes) (p : Syntax pattern) (ends : List ℕ) → verdict l p ≡ some ends → length ends ≡ top_size p
unfolding verdict
verdict_length l p ends e = go (decide l p 0 (length l)) e
  where
    go : (b : Bool) → ◌≡◌ {A = Option (List ℕ)} (elim b [ true ↦ some (parts l p 0) | false ↦ none ]) (some ends) → length ends ≡ top_size p
    go true e = let z : parts l p 0 ≡ ends = cc in ap length (sym z) ∙ parts_length l p 0
    go false e = absurd (none-ne-some ends e)

-- no end is past the label
pub ends_within : (l : Bytes) (p : Syntax pattern) (i : ℕ) (ends : List ℕ) → Partition l p i ends → (k : ℕ) → get_or ends k 0 ≤ length l
unfolding Partition
ends_within l (last a) i ends (e, s) zero = rw e (omega arith)
ends_within l (last a) i ends (e, s) (suc k) = rw e (omega arith)
ends_within l (then a p) i ends (m, rest, e, h, g, s, q) zero = rw e g
ends_within l (then a p) i ends (m, rest, e, h, g, s, q) (suc k) = rw e (ends_within l p m rest q k)

pub part_bytes_length : (es : List ℕ) → length (part_bytes es) ≡ 2 * length es
unfolding part_bytes
part_bytes_length [] = refl
part_bytes_length (e ∷ es) = omega (arith, part_bytes_length es)
