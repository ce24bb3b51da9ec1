-- The count that the code takes, or the fault that it finds, is that of the scan. Assumes nothing.
use mathlib.Core.Path.{◌≡◌, refl, sym, ap, ◌∙◌, subst}
use mathlib.Core.Logic.{⊎_elim}
use mathlib.Core.Bool.{Bool, true, false, cond}
use mathlib.Core.List.{[], ◌∷◌}
use mathlib.Core.Option.{Option, none, some}
use Prim.Native.Nat.{ℕ, suc, ◌≤◌, ◌<◌}
use native.Mathlib.Nat.{eq-or-lt_of_le}
use native.Mathlib.Omega.{arith}
use lib.Dec.{leb, ltb}
use lib.Arith.{lt_of_le-ne}
use lib.ListN.{length, drop, get_or, drop_of_length-le}
use lib.Seq.{drop-cons}
use borrow.Author.Tests.{le-ltb, leb-false}
use Rattle.std.specs.Prelude.{Some, None, Result, Ok, Err}
use Rattle.std.specs.declared.option.Option as code
use Rattle.pattern.specs.Numbers.{number_limit, atom_limit, open_high, NUMBER, RANGE, ATOMS}
use Rattle.pattern.specs.Bytes.{Bytes}
use Rattle.pattern.specs.Table.{high_field}
use Rattle.pattern.specs.Repeats.{repeat_of}
use Rattle.pattern.specs.Grammar.{CountChar, digit, point, CharClass, count_char, body_start, branch_end}
use Rattle.pattern.specs.Parser.{CountState, empty, first, pointed, second, counting, Stack, grow, move, step, finish}
use Rattle.pattern.specs.Scan.{low, high, longest_count, falls, refuse, atom_rows, Outcome, refused}
use Rattle.pattern.specs.Refusals.{number_of}
use Rattle.pattern.specs.declared.repeat.Repeat.{Repeat}
use Rattle.pattern.specs.declared.refusal.Refusal.{Refusal}
use Rattle.pattern.specs.declared.refusal.Refusal.TheVariants.{Form, Number, Range, Atoms}
use Rattle.pattern.specs.declared.refusal.Fault.{Fault}
use Rattle.pattern.proofs.Tests.{le_or_lt}
use Rattle.pattern.proofs.TableRows.{BothFit, fit_fault, unfit_fault}
use Rattle.pattern.proofs.LongestCounts.{over_unfit, longest_fit}
use Rattle.scanner.specs.declared.cursor.Cursor.{Cursor}
use Rattle.scanner.specs.Places.{Onward, class_at, ClassIs, ClassNot, PointPost}
use Rattle.scanner.specs.Scans.{scanned}
use Rattle.scanner.specs.Counts.{the_first, the_second, faults_first, Advances, Exceeds, DigitsAre, DigitsPost, fault_at, within_atoms, judged, CountPost, CountReadPost, count_read, AfterPointPost}
use Rattle.scanner.proofs.Steps.{stuck, short}
use Rattle.scanner.proofs.Reaches.{point_begins, point_goes_on, then_reaches}

-- a count that has begun
NotEmpty : CountState → Type 0
NotEmpty empty = ⊥
NotEmpty (first n) = Unit {0}
NotEmpty (pointed n) = Unit {0}
NotEmpty (second n m) = Unit {0}

-- the longest run is over
module _ (s : Bytes) (j : ℕ) (r : CountState) (stops : (m : CountChar) → j < length s → class_at s j ≡ count_char m → grow r m (get_or s j 0) ≡ none) where
  longest_here : longest_count r (drop j s) ≡ r
  unfolding longest_count
  longest_here = ⊎_elim (λ h. rw (drop_of_length-le s h)) (λ h. rw (drop-cons s j 0 h) (go h (class_at s j) refl)) (le_or_lt (length s) j)
    where
      go : j < length s → (x : CharClass) → class_at s j ≡ x → longest_count r (get_or s j 0 ∷ drop (suc j) s) ≡ r
      go h (count_char m) e = rw (e, longest_count) (rw (stops m h e))
      go h (body_start b) e = rw (e, longest_count)
      go h (branch_end b) e = rw (e, longest_count)

-- the code's test of the range
falls_fields : (l : ℕ) (h : Option ℕ) → l ≤ number_limit → ltb (high_field h) l ≡ falls l h
unfolding falls
falls_fields l none f = le-ltb open_high l (omega arith)
falls_fields l (some m) f = refl

-- a count and where it ends, the other way round
pub count_swapped : {r r' : Repeat} {end end' : Cursor} → ◌≡◌ {A = code.Option (Repeat × Cursor)} (Some (r, end)) (Some (r', end')) → ◌≡◌ {A = Result (Cursor × Repeat) Fault} (Ok (end, r)) (Ok (end', r'))
count_swapped {r} {r'} {end} {end'} e = ap swapped e
  where
    swapped : code.Option (Repeat × Cursor) → Result (Cursor × Repeat) Fault
    swapped None = Ok (end, r)
    swapped (Some (q, at)) = Ok (at, q)

-- a count that begins at place i, of an atom after n others
module _ (s : Bytes) (i n : ℕ) where
  abbrev Answers : (Stack → Outcome) → Type 0
  Answers o = (k : Stack) → scanned s (counting empty, k) i n ≡ o k

  refused_here : (r : Refusal) (p : ℕ) → Answers (λ k. refused (number_of r) p) → CountPost s i n (fault_at r p)
  unfolding CountPost
  refused_here r p h = record { scan = h }

  -- too many atoms, or what was found
  atoms_tested : (o : Stack → Outcome) (found : Result (Cursor × Repeat) Fault) → Answers (λ k. elim (refuse ((leb atom_limit n, ATOMS) ∷ [])) [ none ↦ o k | some f ↦ refused f i ])
      → (n < atom_limit → Answers o → CountPost s i n found) → CountPost s i n (within_atoms n i found)
  unfolding within_atoms refuse
  atoms_tested o found h f = go (leb atom_limit n) refl h
    where
      go : (b : Bool) → leb atom_limit n ≡ b → Answers (λ k. elim (refuse ((b, ATOMS) ∷ [])) [ none ↦ o k | some f ↦ refused f i ]) → CountPost s i n (cond b (fault_at Atoms i) found)
      go true e h = refused_here Atoms i h
      go false e h = f (leb-false atom_limit n e) h

  tested_as : (x : Option ℕ) (o : Outcome) → refuse (atom_rows n (longest_count empty (drop i s))) ≡ x → faults_first the_first s i n o ≡ elim x [ none ↦ o | some f ↦ refused f i ]
  unfolding faults_first
  tested_as x o e = ap (λ (y : Option ℕ). elim y [ none ↦ o | some f ↦ refused f i ]) e

  large_right : (p : ℕ) → Exceeds s the_first i p → CountPost s i n (judged n i (Err p))
  unfolding judged
  large_right p h =
      let u : ¬ BothFit (longest_count empty (drop i s)) = λ f. over_unfit h.state h.over (longest_fit (drop (suc p) s) h.state (rw h.reaches.longest at f)) in
      atoms_tested (λ k. refused NUMBER p) (fault_at Number p) (λ k. h.reaches.scan k n ∙ tested_as _ _ (unfit_fault n _ u)) (λ l f. refused_here Number p f)

  repeat_right : (r : CountState) (end : Cursor) → NotEmpty r → Advances s the_first i r end.at → low r ≤ number_limit → Onward s i end
      → ((m : CountChar) → end.at < length s → class_at s end.at ≡ count_char m → grow r m (get_or s end.at 0) ≡ none)
      → CountPost s i n (judged n i (Ok (Some (repeat_of (low r) (high r), end))))
  unfolding judged NotEmpty
  repeat_right r end d h f o t =
      let l : longest_count empty (drop i s) ≡ r = h.longest ∙ longest_here s end.at r t in
      rw (falls_fields (low r) (high r) f) (go (falls (low r) (high r)) (λ k. h.scan k n ∙ tested_as _ _ (ap (λ x. refuse (atom_rows n x)) l ∙ fit_fault n r f)))
    where
      go : (b : Bool) → Answers (λ k. elim (refuse ((b, RANGE) ∷ (leb atom_limit n, ATOMS) ∷ [])) [ none ↦ scanned s (counting r, k) end.at (suc n) | some f ↦ refused f i ])
          → CountPost s i n (cond b (fault_at Range i) (within_atoms n i (Ok (end, repeat_of (low r) (high r)))))
      go true a = refused_here Range i (unfold refuse in a)
      go false a =
          atoms_tested (λ k. scanned s (counting r, k) end.at (suc n)) (Ok (end, repeat_of (low r) (high r))) (unfold refuse in a)
          (λ l a. unfold CountPost in record { state = r; begun = λ e. subst NotEmpty e d; rep_is = refl; onward = o; room = l; stops = t; scan = a })

-- after the point, which is before place j
module _ (s : Bytes) (j x : ℕ) where
  pub second_large : (p : ℕ) → DigitsPost s j (Err p) → AfterPointPost s j x (Err p)
  unfolding DigitsPost AfterPointPost CountReadPost
  second_large p h = λ i l f a n.
      let g = h (the_second x) in
      large_right s i n p (record { state = g.state; over = g.over; reaches = then_reaches s i x j a g.state (suc p) _ g.reaches })

  module _ (v : ℕ) (end : Cursor) (read : DigitsPost s j (Ok (v, end))) (rep : Repeat) where
    there : DigitsAre s j v end.at × ClassNot s end.at (count_char digit)
    unfolding DigitsPost
    there = read

    past : (i : ℕ) → i < j → Onward s i end
    past i l = let (d, z) = there in record { on = omega (arith, d.on); within = d.within }

    -- no point goes on with a count that has one
    stops : (r : CountState) → grow r point (get_or s end.at 0) ≡ none → (m : CountChar) → end.at < length s → class_at s end.at ≡ count_char m → grow r m (get_or s end.at 0) ≡ none
    stops r f digit l k = absurd (there.1.not l k)
    stops r f point l k = f

    pub count_open : end.at ≡ j → rep ≡ repeat_of x none → AfterPointPost s j x (Ok (rep, end))
    unfolding AfterPointPost CountReadPost low high NotEmpty
    count_open y g = λ i l f h n. rw g (repeat_right s i n (pointed x) end tt (rw y h) f (past i l) (stops (pointed x) (unfold grow in refl)))

    pub count_closed : ¬ (end.at ≡ j) → rep ≡ repeat_of x (some v) → AfterPointPost s j x (Ok (rep, end))
    unfolding AfterPointPost CountReadPost low high NotEmpty
    count_closed y g = λ i l f h n.
        let (d, z) = there in
        let m : j < end.at = lt_of_le-ne d.on (λ z. y (sym z)) in
        rw g (repeat_right s i n (second x v) end tt (then_reaches s i x j h (second x v) end.at _ (d.goes_on m (the_second x))) f (past i l) (stops (second x v) (unfold grow in refl)))

-- from the first byte
module _ (s : Bytes) (i : ℕ) where
  pub first_large : (p : ℕ) → DigitsPost s i (Err p) → CountReadPost s i (Err p)
  unfolding DigitsPost CountReadPost
  first_large p h = λ n. large_right s i n p (h the_first)

  module _ (v : ℕ) (end : Cursor) (read : DigitsPost s i (Ok (v, end))) where
    here : DigitsAre s i v end.at × ClassNot s end.at (count_char digit)
    unfolding DigitsPost
    here = read

    module _ (none_read : PointPost s end.at None) where
      no_point : ClassNot s end.at (count_char point)
      unfolding PointPost
      no_point = none_read

      -- no count at all
      pub count_none : end.at ≡ i → CountReadPost s i (Ok None)
      unfolding CountReadPost judged step finish
      count_none g = λ n.
          let u : ClassNot s i (count_char digit) = rw g at here.1 in
          let w : ClassNot s i (count_char point) = rw g at no_point in
          refused_here s i n Form i (λ k. ⊎_elim (λ h. short s i n h (counting empty, k) refl) (λ h. stuck s i n h (counting empty, k) (go (class_at s i) (u.not h) (w.not h) k)) (le_or_lt (length s) i))
        where
          go : (x : CharClass) → ¬ (x ≡ count_char digit) → ¬ (x ≡ count_char point) → (k : Stack) → move (counting empty) k x (get_or s i 0) ≡ none
          go (count_char digit) u w k = absurd (u refl)
          go (count_char point) u w k = absurd (w refl)
          go (body_start b) u w k = unfold move in refl
          go (branch_end b) u w k = unfold move in refl

      pub count_exact : (rep : Repeat) → ¬ (end.at ≡ i) → rep ≡ repeat_of v (some v) → CountReadPost s i (Ok (Some (rep, end)))
      unfolding CountReadPost low high NotEmpty
      count_exact rep g h = λ n.
          let (d, z) = here in
          let l : i < end.at = lt_of_le-ne d.on (λ x. g (sym x)) in
          rw h (repeat_right s i n (first v) end tt (d.goes_on l the_first) d.fits (record { on = l; within = d.within }) stops)
        where
          stops : (m : CountChar) → end.at < length s → class_at s end.at ≡ count_char m → grow (first v) m (get_or s end.at 0) ≡ none
          stops digit l k = absurd (here.1.not l k)
          stops point l k = absurd (no_point.not l k)

    module _ (next : Cursor) (point_read : PointPost s end.at (Some next)) where
      point_here : ClassIs s end.at (count_char point) next
      unfolding PointPost
      point_here = point_read

      pub point_within : next.at ≤ length s
      point_within = let k = point_here in omega (arith, k.within, k.past)

      pointed_goes_on : Advances s the_first i (pointed v) next.at
      pointed_goes_on =
          let (d, z) = here in
          let k = point_here in
          rw k.past (⊎_elim
          (λ (g : i ≡ end.at). rw (d.missing (sym g), g) (point_begins s end.at k.within k.kind))
          (λ l. point_goes_on s end.at k.within k.kind i v (d.goes_on l the_first))
          (eq-or-lt_of_le d.on))

      pub count_pointed : (r : Result (Repeat × Cursor) ℕ) → AfterPointPost s next.at v r → CountReadPost s i (count_read r)
      unfolding AfterPointPost
      count_pointed r h = let (d, z) = here in let k = point_here in h i (omega (arith, d.on, k.past)) d.fits pointed_goes_on
