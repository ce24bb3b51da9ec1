-- One atom after the other, in plain values. Assumes nothing.
use mathlib.Core.Path.{◌≡◌, refl, sym, ap, ◌∙◌}
use mathlib.Core.Bool.{Bool, true, false, ◌&&◌, ◌||◌}
use mathlib.Core.Option.{Option, none, some}
use Prim.Native.Nat.{ℕ, suc, ◌+◌, ◌*◌, ◌≤◌, ◌<◌, min}
use native.Mathlib.Omega.{arith}
use borrow.Author.Tests.{le-leb, lt-leb, eqb-true}
use lib.Dec.{leb, eqb}
use lib.ListN.{length}
use Rattle.std.specs.Prelude.{None, Some}
use Rattle.pattern.specs.Numbers.{label_limit, open_high}
use Rattle.pattern.specs.Bytes.{Bytes}
use Rattle.pattern.specs.Syntax.{atom, Syntax, repeat}
use Rattle.pattern.specs.Decision.{Rel, power, max_count, repeated, decide}
use Rattle.pattern.specs.Trials.{sum, joins, repeats}
use Rattle.pattern.specs.Decode.{high_of}
use Rattle.table.specs.declared.record.Record.{Record}
use Rattle.atoms.specs.Records.{RecordOf}
use Rattle.planes.specs.declared.fill.Content.TheVariants.{Empty}
use Rattle.planes.specs.declared.budget.Budget.{Budget}
use Rattle.planes.specs.Cells.{InRoom, Plane, Kept, on}
use Rattle.planes.specs.Whole.{BlankPost}
use Rattle.planes.specs.Fill.{held_in, Fit, FillPre, FillPost}
use Rattle.planes.specs.RepeatBody.{fewer, body_trials, Elsewhere, RepeatBodyPost}
use Rattle.atoms.specs.Atoms.{node, head, body_of}
use Rattle.matcher.specs.FillBody.{FillBodyPre, FillBodyPost}
use Rattle.matcher.specs.Steps.{Later, BeginPost, FillAtomPost}
use Rattle.planes.proofs.Planes.{Same, kept_then, kept_less, plane_on, plane_same, plane_flags, plane_kept}
use Rattle.planes.proofs.Relations.{any_same, sum_same, joins_same, power_same}
use Rattle.matcher.proofs.Levels.{decide_level}
use Rattle.matcher.proofs.Groups.{work_long, work_room}

-- ---- the planes to start from

module _ (table label s : Bytes) (w temp x : ℕ) (ok : FillBodyPre table label s w temp x) (s₁ : Bytes) (l₁ : length s₁ ≡ length s) (body : FillBodyPost table label s s₁ w temp x) where
  room₁ : (p : ℕ) → p < temp + 4 → InRoom s₁ w p
  room₁ p h = work_room {s = s₁} (work_long l₁ ok.work) p (omega (arith, ok.temp_is))

  pub begin_empty : FillPre table label s₁ w Empty (temp + 1)
  unfolding Fit
  begin_empty = record { wide = ok.work.wide; fit = tt; into = room₁ (temp + 1) (omega arith) }

  module _ (s₂ : Bytes) (l₂ : length s₂ ≡ length s₁) (empty : FillPost table label s₁ s₂ w Empty (temp + 1)) where
    room₂ : (p : ℕ) → p < temp + 4 → InRoom s₂ w p
    room₂ p h = work_room {s = s₂} (work_long (l₂ ∙ l₁) ok.work) p (omega (arith, ok.temp_is))

    pub begin_blank : (1 ≤ w) × InRoom s₂ w (2 * x)
    begin_blank = (omega (arith, ok.work.wide), room₂ (2 * x) (omega (arith, ok.temp_is, ok.there)))

    pub begin_end : (s₃ : Bytes) → length s₃ ≡ length s₂ → BlankPost s₂ s₃ w (2 * x) → BeginPost table label s s₃ w temp x
    unfolding held_in
    begin_end s₃ l₃ nothing =
        let below : 2 * x < temp = omega (arith, ok.temp_is, ok.there) in
        let b : Plane s₃ w temp (decide label (body_of (head (node table x)))) = plane_kept nothing.kept (λ i j e. omega arith) (plane_kept empty.kept (λ i j e. omega arith) body.plane) in
        record {
          repeatable = record {
            wide = omega (arith, ok.work.wide);
            room = rw (l₃ ∙ l₂ ∙ l₁, ok.temp_is) ok.work.room;
            below = below;
            body = plane_flags b;
            empty = plane_kept nothing.kept (λ i j e. omega arith) empty.plane;
            nothing = nothing.plane;
          };
          body = b;
          kept = kept_then
              (kept_less (temp + 1) (temp + 4) (omega arith) body.kept (λ q i j n. n))
              (kept_then (kept_less (temp + 1 + 1) (temp + 4) (omega arith) empty.kept (λ q i j n. n)) (kept_less (2 * x + 1) (temp + 4) (omega arith) nothing.kept (λ q i j n. n)) (λ q i j n e. omega arith) (λ q i j (m, n) e. omega arith))
              (λ q i j (m, n) e. omega arith) (λ q i j n. n);
        }

-- ---- an atom's own plane

-- the count of bodies that is tried is the paper's K
max_count_min : (n h : ℕ) → n ≤ label_limit → min n h ≡ max_count n (high_of h)
unfolding max_count high_of
max_count_min n h l = go (eqb h open_high) refl
  where
    go : (b : Bool) → eqb h open_high ≡ b → min n h ≡ max_count n (elim b [ true ↦ none | false ↦ some h ])
    go true e = omega (arith, eqb-true h open_high e)
    go false e = refl

and_true : (b : Bool) → b && true ≡ b
and_true true = refl
and_true false = refl

and_set : (a b : Bool) → b ≡ true → a && b ≡ a
and_set a b e = rw e (and_true a)

and_unset : (a b : Bool) → b ≡ false → a && b ≡ false
and_unset true b e = e
and_unset false b e = refl

repeats_is : (l : Bytes) (a : Syntax atom) (low : ℕ) (high : Option ℕ) → a ≡ repeat low high (body_of a)
    → repeats l a ≡ sum (max_count (length l) high) (λ k. joins (suc (length l)) (decide l (body_of a)) (power (decide l (body_of a)) k))
unfolding repeats body_of
repeats_is l a low high e = ap (repeats l) e

decide_is : (l : Bytes) (a : Syntax atom) (low : ℕ) (high : Option ℕ) → a ≡ repeat low high (body_of a) → decide l a ≡ repeated (length l) low high (decide l (body_of a))
unfolding decide body_of
decide_is l a low high e = ap (λ (z : Syntax atom). decide l z) e

module _ (table label s : Bytes) (w temp x : ℕ) (budget : Budget) (ok : FillBodyPre table label s w temp x) (s₁ : Bytes) (l₁ : length s₁ ≡ length s) (got : BeginPost table label s s₁ w temp x)
    (r : Record) (is : RecordOf table x r) (s₂ : Bytes) (l₂ : length s₂ ≡ length s₁) (low times : ℕ) (low-is : low ≡ min r.low (length label)) (times_is : times ≡ min (length label) r.high) where
  abbrev a : Syntax atom
  a = head (node table x)

  abbrev R : Rel
  R = decide label (body_of a)

  bodies : Same w (on s₁ w temp) R
  bodies = plane_on got.body

  tried : sum times (body_trials w (on s₁ w temp)) ≡ repeats label a
  tried =
      let high : Option ℕ = high_of r.high in
      let m : times ≡ max_count (length label) high = times_is ∙ max_count_min (length label) r.high ok.work.short in
      let z : w ≡ suc (length label) = omega (arith, ok.work.wide) in
      ap (λ (k : ℕ). sum k (body_trials w (on s₁ w temp))) m
      ∙ sum_same (max_count (length label) high) _ _ (λ k h. joins_same w _ _ _ _ bodies (power_same w _ _ bodies k) ∙ ap (λ (v : ℕ). joins v R (power R k)) z)
      ∙ sym (repeats_is label a r.low high is.count)

  decided : (i j : ℕ) → decide label a i j ≡ fewer R low (suc times) i j && (leb r.low (length label) || R i i)
  unfolding repeated
  decided i j =
      let high : Option ℕ = high_of r.high in
      let m : times ≡ max_count (length label) high = times_is ∙ max_count_min (length label) r.high ok.work.short in
      ap (λ (S : Rel). S i j) (decide_is label a r.low high is.count) ∙ rw (low-is, m)

  later : Kept s₁ s₂ w (temp + 4) (Elsewhere temp (2 * x)) → Kept s s₂ w (temp + 4) (Later temp x)
  later kept = kept_then got.kept kept (λ q i j n. n) (λ q i j (m, n). (λ e. omega arith, λ e. omega arith, λ e. omega arith))

  pub atom_stop : RepeatBodyPost s₁ s₂ w temp (2 * x) low times budget None → FillAtomPost table label s s₂ w temp x budget None
  atom_stop made_of = record { counted = rw (← tried) made_of.counted; whole = tt; kept = later made_of.kept }

  module _ (t : Budget) (made_of : RepeatBodyPost s₁ s₂ w temp (2 * x) low times budget (Some t)) where
    -- the stretches that are enough bodies, numbers cut to the label's length
    enough : Plane s₂ w (2 * x) (fewer R low (suc times))
    enough = plane_same made_of.whole (λ i j hi hj. any_same _ _ (suc times) (λ k h. ap (λ (b : Bool). leb low k && b) (power_same w _ _ bodies k i j hi hj)))

    pub atom_low : r.low ≤ length label → FillAtomPost table label s s₂ w temp x budget (Some t)
    atom_low h = record {
      counted = rw (← tried) made_of.counted;
      whole = plane_same enough (λ i j hi hj. sym (decided i j ∙ rw (le-leb r.low (length label) h) (and_true (fewer R low (suc times) i j))));
      kept = later made_of.kept;
    }

    -- where low is beyond the label's length: whether a body can be empty is the same everywhere
    module _ (h : length label < r.low) where
      room : (p : ℕ) → p < temp + 4 → InRoom s₂ w p
      room p l = work_room {s = s₂} (work_long (l₂ ∙ l₁) ok.work) p (omega (arith, ok.temp_is))

      pub atom_blank : (1 ≤ w) × InRoom s₂ w (2 * x)
      atom_blank = (omega (arith, ok.work.wide), room (2 * x) (omega (arith, got.repeatable.below)))

      level : (i j : ℕ) → decide label a i j ≡ fewer R low (suc times) i j && on s₂ w temp 0 0
      level i j =
          let below = got.repeatable.below in
          let c : Plane s₂ w temp R = plane_kept made_of.kept (λ i j. (λ y. omega arith, λ y. omega arith, λ y. omega arith)) got.body in
          decided i j ∙ rw (lt-leb r.low (length label) h, decide_level label (body_of a) i ∙ sym (plane_on c 0 0 (omega arith) (omega (arith, ok.work.wide))))

      pub atom_empty : on s₂ w temp 0 0 ≡ true → FillAtomPost table label s s₂ w temp x budget (Some t)
      atom_empty is = record {
        counted = rw (← tried) made_of.counted;
        whole = plane_same enough (λ i j hi hj. sym (level i j ∙ and_set (fewer R low (suc times) i j) (on s₂ w temp 0 0) is));
        kept = later made_of.kept;
      }

      pub atom_none : on s₂ w temp 0 0 ≡ false → (s₃ : Bytes) → BlankPost s₂ s₃ w (2 * x) → FillAtomPost table label s s₃ w temp x budget (Some t)
      atom_none is s₃ f = record {
        counted = rw (← tried) made_of.counted;
        whole = plane_same f.plane (λ i j hi hj. sym (level i j ∙ and_unset (fewer R low (suc times) i j) (on s₂ w temp 0 0) is));
        kept = let below = got.repeatable.below in kept_then (later made_of.kept) (kept_less (2 * x + 1) (temp + 4) (omega arith) f.kept (λ q i j n. n)) (λ q i j n. n) (λ q i j (m, n) y. omega arith);
      }
