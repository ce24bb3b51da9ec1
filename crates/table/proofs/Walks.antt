-- The answers of the walk, as its contracts say them, and where its loops stand. Assumes nothing.
use mathlib.Core.Path.{◌≡◌, sym, subst, ◌∙◌}
use mathlib.Core.Bool.{Bool, true}
use Prim.Native.Nat.{ℕ, ◌+◌, ◌-◌, ◌<◌, ◌≤◌}
use native.Mathlib.Omega.{arith}
use lib.ListN.{length}
use Rattle.std.specs.Prelude.{Some, None}
use Rattle.std.specs.declared.option.Option as code
use Rattle.pattern.specs.Numbers.{depth_limit, group_kind}
use Rattle.pattern.specs.Bytes.{Bytes}
use Rattle.pattern.specs.Print.{print_count}
use Rattle.pattern.specs.Decode.{high_of}
use Rattle.table.specs.Fields.{record_of}
use Rattle.table.specs.Checked.{payload_record, ordered, leaf as leaf_read}
use Rattle.table.specs.Leaves.{LeafPost, Short}
use Rattle.table.specs.Walk.{Passed, Walked, WalkPre, WalkMoved, AtomPost, PatternPost, GroupPost}
use Rattle.table.specs.declared.record.Record.{Record}
use Rattle.table.specs.declared.walk.Leaf.{Leaf}
use Rattle.table.specs.declared.walk.Place.{Place}
use Rattle.table.proofs.Moves.{byte_on, leaf_on, bracket_on, ready_on, ready_again, ready_inside, moved_then, moved_group, moved_leaf, past_again}
use Rattle.table.proofs.Steps.{pattern_none, pattern_last, pattern_other, then_none, then_more, atom_leafless, atom_leaf, atom_deep, group_none, group_apart, group_closed, branches_none, branch_none, branch_only, branches_on}

-- ---- an atom

-- the record at a place was read, and its count has c bytes in the source
pub record CountMeasured (s : Bytes) (A : ℕ) (at : Place) (d : ℕ) (r : Record) (c : ℕ) : Type 0 where
  pub ready : WalkPre s A at d
  pub on : at.atom < A
  pub same : r ≡ record_of (payload_record s at.atom)
  pub fits : ordered r.low r.high ≡ true
  pub count : c ≡ length (print_count r.low (high_of r.high))
  pub short : c ≤ 11

pub counted : {s : Bytes} {A : ℕ} {at : Place} {d : ℕ} {r : Record} {o : Bool} {c : ℕ} → WalkPre s A at d → at.atom < A → r ≡ record_of (payload_record s at.atom)
    → o ≡ ordered r.low r.high → o ≡ true → (c ≡ length (print_count r.low (high_of r.high))) × (c ≤ 11) → CountMeasured s A at d r c
counted ready on same tested fits (count, short) = record { ready = ready; on = on; same = same; fits = sym tested ∙ fits; count = count; short = short }

module _ {s : Bytes} {A : ℕ} {at : Place} {d : ℕ} {r : Record} {c : ℕ} (h : CountMeasured s A at d r c) where
  module _ (k : r.kind ≡ group_kind → ⊥) {x : code.Option Leaf} (l : LeafPost s A at.pool (leaf_read s A r.kind r.a r.b at.pool) x) where
    pub leaf_bad : x ≡ None → AtomPost s A at d None
    leaf_bad e = record { past = tt; reads = atom_leafless s A at d r h.same h.on h.fits k (sym e ∙ l.reads) }

    module _ {y : Leaf} (e : x ≡ Some y) where
      pub leaf_moved : WalkMoved s A at (leaf_on at c y.pool y.source)
      leaf_moved = let short = subst (Short s A at.pool) e l.short in moved_leaf c y.pool y.source h.short h.on short.0 short.1

      pub leaf_passed : AtomPost s A at d (Some (leaf_on at c y.pool y.source))
      leaf_passed = record {
        past = leaf_moved;
        reads = atom_leaf s A at d r h.same h.on h.fits c y h.count k (sym e ∙ l.reads);
      }

  module _ (k : r.kind ≡ group_kind) where
    pub too_deep : depth_limit ≤ d → AtomPost s A at d None
    too_deep e = record { past = tt; reads = atom_deep s A at d r h.same h.on h.fits k e }

    module _ (e : d < depth_limit) where
      pub inner_ready : WalkPre s A (bracket_on at c) (d + 1)
      inner_ready = ready_inside h.ready c h.short h.on e

      module _ {x : Passed} (g : GroupPost s A (bracket_on at c) (d + 1) r.a x) where
        pub group_bad : x ≡ None → AtomPost s A at d None
        group_bad q = record { past = tt; reads = group_none s A at d r h.same h.on h.fits k c h.count e (λ f m. sym q ∙ g.reads f m) }

        module _ {dest : Place} (q : x ≡ Some dest) where
          whole : GroupPost s A (bracket_on at c) (d + 1) r.a (Some dest)
          whole = subst (GroupPost s A (bracket_on at c) (d + 1) r.a) q g

          pub dest_ready : WalkPre s A dest (d + 1)
          dest_ready = ready_on inner_ready whole.past

          pub group_elsewhere : (dest.atom ≡ r.b → ⊥) → AtomPost s A at d None
          group_elsewhere n = record { past = tt; reads = group_apart s A at d r h.same h.on h.fits k c h.count e dest whole.reads n }

          pub group_passed : dest.atom ≡ r.b → AtomPost s A at d (Some (byte_on dest))
          group_passed n = record {
            past = moved_group c h.short whole.past;
            reads = group_closed s A at d r h.same h.on h.fits k c h.count e dest whole.reads n;
          }

-- ---- the loop over the atoms of a pattern

-- a pattern's answer, with k atoms before it
unfoldable pub further : ℕ → Walked → Walked
further k (Some (next, n)) = Some (next, k + n)
further k None = None

-- what is walked from now on is walked from the start, k atoms later
pub record WalkPatternAt (s : Bytes) (A d : ℕ) (at now : Place) (k : ℕ) : Type 0 where
  pub ready : WalkPre s A now d
  pub on : at.atom + k ≤ now.atom
  pub rest : (x : Walked) → PatternPost s A now d x → PatternPost s A at d (further k x)

pub pattern_at_start : {s : Bytes} {A d : ℕ} {at : Place} → WalkPre s A at d → WalkPatternAt s A d at at 0
unfolding further
pattern_at_start {s} {A} {d} {at} r = record { ready = r; on = omega arith; rest = same }
  where
    same : (x : Walked) → PatternPost s A at d x → PatternPost s A at d (further 0 x)
    same (Some (next, n)) h = let e : 0 + n ≡ n = omega arith in rw e h
    same None h = h

module _ {s : Bytes} {A d : ℕ} {at now : Place} {k : ℕ} (g : WalkPatternAt s A d at now k) {x : Passed} (a : AtomPost s A now d x) where
  pub going_bad : x ≡ None → PatternPost s A at d None
  unfolding further
  going_bad e = g.rest None (record { past = tt; reads = pattern_none s A now d (λ f m. sym e ∙ a.reads f m) })

  module _ {next : Place} (e : x ≡ Some next) where
    passed_to : AtomPost s A now d (Some next)
    passed_to = subst (AtomPost s A now d) e a

    pub going_moved : WalkMoved s A now next
    going_moved = passed_to.past

    module _ {b : ℕ} (q : b ≡ (payload_record s now.atom).ends) where
      pub pattern_at_last : b ≡ 1 → PatternPost s A at d (Some (next, k + 1))
      unfolding further
      pattern_at_last z = g.rest (Some (next, 1)) (record {
        past = (going_moved, omega (arith, going_moved.on));
        reads = pattern_last s A now d next passed_to.reads (sym q ∙ z);
      })

      pub going_other : (b ≡ 1 → ⊥) → (b ≡ 0 → ⊥) → PatternPost s A at d None
      unfolding further
      going_other y z = g.rest None (record {
        past = tt;
        reads = pattern_other s A now d next passed_to.reads (λ u. y (q ∙ u)) (λ u. z (q ∙ u));
      })

      module _ (z : b ≡ 0) where
        rest_on : (y : Walked) → PatternPost s A next d y → PatternPost s A at d (further (k + 1) y)
        unfolding further
        rest_on (Some (dest, n)) h =
            let e : k + 1 + n ≡ k + (1 + n) = omega arith in
            rw e (g.rest (Some (dest, 1 + n)) (record {
              past = (moved_then going_moved h.past.0, omega (arith, going_moved.on, h.past.1));
              reads = then_more s A now d next passed_to.reads going_moved.on going_moved.atom (sym q ∙ z) dest h.reads;
            }))
        rest_on None h = g.rest None (record {
          past = tt;
          reads = then_none s A now d next passed_to.reads going_moved.on going_moved.atom (sym q ∙ z) h.reads;
        })

        pub pattern_at_more : WalkPatternAt s A d at next (k + 1)
        pattern_at_more = record { ready = ready_on g.ready going_moved; on = omega (arith, g.on, going_moved.on); rest = rest_on }

-- ---- the loop over the branches of a group

-- what is walked of the branches left is walked of all k
pub record WalkGroupAt (s : Bytes) (A d k : ℕ) (at now : Place) (left : ℕ) : Type 0 where
  pub ready : WalkPre s A now d
  pub on : at.atom ≤ now.atom
  pub rest : (x : Passed) → GroupPost s A now d left x → GroupPost s A at d k x

pub group_at_start : {s : Bytes} {A d k : ℕ} {at : Place} → WalkPre s A at d → WalkGroupAt s A d k at at k
group_at_start r = record { ready = r; on = omega arith; rest = λ x h. h }

module _ {s : Bytes} {A d k : ℕ} {at now : Place} {left : ℕ} (g : WalkGroupAt s A d k at now left) where
  pub group_at_over : left ≡ 0 → GroupPost s A at d k None
  group_at_over e = g.rest None (record { past = tt; reads = branches_none s A now d left e })

  module _ (n : left ≡ 0 → ⊥) {x : Walked} (p : PatternPost s A now d x) where
    pub branching_bad : x ≡ None → GroupPost s A at d k None
    branching_bad e = g.rest None (record { past = tt; reads = branch_none s A now d left n (λ f m. sym e ∙ p.reads f m) })

    module _ {next : Place} {j : ℕ} (e : x ≡ Some (next, j)) where
      walked_to : PatternPost s A now d (Some (next, j))
      walked_to = subst (PatternPost s A now d) e p

      pub branch_ready : WalkPre s A next d
      branch_ready = ready_on g.ready walked_to.past.0

      pub group_at_last : left ≡ 1 → GroupPost s A at d k (Some next)
      group_at_last z = g.rest (Some next) (record { past = walked_to.past.0; reads = branch_only s A now d left n next walked_to.reads z })

      pub group_at_more : (left ≡ 1 → ⊥) → WalkGroupAt s A d k at (byte_on next) (left - 1)
      group_at_more z =
          let m = walked_to.past.0 in
          record {
            ready = ready_again g.ready m;
            on = omega (arith, g.on, m.on);
            rest = λ y h. g.rest y (record { past = past_again y m h.past; reads = branches_on s A now d left n next walked_to.reads m.on m.atom z y h.reads });
          }
