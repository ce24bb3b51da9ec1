-- The plane of an atom's body, in plain values: leaves, and the loop over the branches of a group. Assumes nothing.
use mathlib.Core.Path.{◌≡◌, refl, sym, ap, ◌∙◌}
use mathlib.Core.Bool.{Bool, true, false, ◌||◌}
use Prim.Native.Nat.{ℕ, suc, ◌+◌, ◌-◌, ◌*◌, ◌≤◌, ◌<◌}
use native.Mathlib.Omega.{arith}
use lib.ListN.{length}
use Rattle.pattern.specs.Numbers.{codes_kind}
use Rattle.pattern.specs.Bytes.{Bytes}
use Rattle.pattern.specs.Syntax.{pattern, body, branches, Syntax, group, only, or, size}
use Rattle.pattern.specs.Decision.{Rel, decide}
use Rattle.pattern.proofs.RoundTrip.{some_pattern}
use Rattle.table.specs.declared.record.Record.{Record}
use Rattle.atoms.specs.Records.{LiteralAt, RecordOf}
use Rattle.atoms.proofs.Views.{branches_last, branches_more, branches_some}
use Rattle.planes.specs.declared.fill.Content.{Content}
use Rattle.planes.specs.declared.fill.Content.TheVariants.{Codes, Literal}
use Rattle.planes.specs.Cells.{InRoom, Plane, Kept, Others, on}
use Rattle.planes.specs.Whole.{BlankPost, AddPre, AddPost}
use Rattle.planes.specs.Fill.{held_in, Fit, FillPre, FillPost}
use Rattle.atoms.specs.Atoms.{atoms, node, branches_from, head, body_of}
use Rattle.matcher.specs.Settled.{StepPre, Settled}
use Rattle.matcher.specs.FillBody.{FillBodyPre, UnionBranchesPre, FillBodyPost}
use Rattle.planes.proofs.Planes.{Same, kept_all, kept_then, plane_on, plane_same, plane_flags, plane_kept, room_of, planes_le}

-- settled planes stay settled where they are kept
pub settled_kept : {table label s s' : Bytes} {w x N : ℕ} {P : ℕ → ℕ → ℕ → Type 0} → Kept s s' w N P → ((q i j : ℕ) → 2 * x ≤ q → q < 2 * atoms table → P q i j)
    → Settled table label s w x → Settled table label s' w x
settled_kept k f h = record {
  own = λ y l m. plane_kept k (λ i j. f _ i j (omega arith) (omega arith)) (h.own y l m);
  rest = λ y l m. plane_kept k (λ i j. f _ i j (omega arith) (omega arith)) (h.rest y l m);
}

-- room is a matter of length
pub work_long : {table label s s' : Bytes} {w : ℕ} → length s' ≡ length s → StepPre table label s w → StepPre table label s' w
work_long e h = record { good = h.good; short = h.short; wide = h.wide; room = rw e h.room }

pub work_room : {table label s : Bytes} {w : ℕ} → StepPre table label s w → (p : ℕ) → p < 2 * atoms table + 4 → InRoom s w p
work_room {table} {label} {s} {w} h p l = room_of s w p (2 * atoms table + 4) l h.room

pub work_few : {table label s : Bytes} {w : ℕ} → StepPre table label s w → 2 * atoms table + 4 ≤ length s
work_few {table} {label} {s} {w} h = omega (arith, planes_le w (2 * atoms table + 4) (omega (arith, h.wide)), h.room)

module _ (table label s : Bytes) (w temp x : ℕ) (ok : FillBodyPre table label s w temp x) where
  pub body_blank : (1 ≤ w) × InRoom s w temp
  body_blank = (omega (arith, ok.work.wide), work_room ok.work temp (omega (arith, ok.temp_is)))

  -- plane temp can be filled with what lies where it should
  pub body_fill : (content : Content) → Fit table content → FillPre table label s w content temp
  body_fill content f = record { wide = ok.work.wide; fit = f; into = body_blank.1 }

  pub body_codes : {s' : Bytes} {r : Record} → RecordOf table x r → r.kind ≡ codes_kind → FillPost table label s s' w (Codes r.a) temp → FillBodyPost table label s s' w temp x
  unfolding held_in decide
  body_codes got e f = let z = got.is_codes e in record { plane = plane_same f.plane (λ i j hi hj. rw z); kept = f.kept }

  pub body_literal : {s' : Bytes} {from len : ℕ} → LiteralAt table x from len → FillPost table label s s' w (Literal from len) temp → FillBodyPost table label s s' w temp x
  unfolding held_in decide
  body_literal v f = record { plane = plane_same f.plane (λ i j hi hj. rw v.is); kept = f.kept }

-- ---- the branches of a group

-- plane temp and the branches that are left, from atom first on, say what the group says
pub record UnionBranchesAt (table label s₁ : Bytes) (w temp x : ℕ) (s : Bytes) (first more : ℕ) : Type 0 where
  pub long : length s ≡ length s₁
  pub kept : Kept s₁ s w (temp + 1) (Others temp)
  pub settled : Settled table label s w (suc x)
  pub ahead : x < first
  pub within : first + size (branches_from table more first) ≤ atoms table
  pub flags : Plane s w temp (on s w temp)
  pub both : Same w (λ i j. on s w temp i j || decide label (branches_from table more first) i j) (decide label (body_of (head (node table x))))

or_assoc : (a b c : Bool) → (a || b) || c ≡ a || (b || c)
or_assoc true b c = refl
or_assoc false b c = refl

or_comm : (a b : Bool) → a || b ≡ b || a
or_comm true true = refl
or_comm true false = refl
or_comm false true = refl
or_comm false false = refl

decide_only : (l : Bytes) {bs : Syntax branches} (p : Syntax pattern) → bs ≡ only p → decide l bs ≡ decide l p
unfolding decide
decide_only l p e = ap (λ (y : Syntax branches). decide l y) e

decide_or : (l : Bytes) {cs : Syntax branches} (p : Syntax pattern) (bs : Syntax branches) → cs ≡ or p bs → (i j : ℕ) → decide l cs i j ≡ decide l p i j || decide l bs i j
unfolding decide
decide_or l p bs e i j = ap (λ (y : Syntax branches). decide l y i j) e

decide_group : (l : Bytes) {b : Syntax body} (bs : Syntax branches) → b ≡ group bs → decide l b ≡ decide l bs
unfolding decide
decide_group l bs e = ap (λ (y : Syntax body). decide l y) e

module _ (table label s₀ s₁ : Bytes) (w temp x count : ℕ) (pre : UnionBranchesPre table label s₀ w temp x count) (len : length s₁ ≡ length s₀) (blank : BlankPost s₀ s₁ w temp) where
  ok : FillBodyPre table label s₀ w temp x
  ok = pre.body

  away : (q i j : ℕ) → 2 * suc x ≤ q → q < 2 * atoms table → Others temp q i j
  away q i j l m e = omega (arith, ok.temp_is)

  pub union_start : UnionBranchesAt table label s₁ w temp x s₁ (x + 1) (count - 1)
  union_start = record {
    long = refl;
    kept = kept_all s₁ w (temp + 1) (Others temp);
    settled = settled_kept blank.kept away ok.settled;
    ahead = omega arith;
    within = pre.group.within;
    flags = plane_flags blank.plane;
    both = λ i j hi hj. rw (plane_on blank.plane i j hi hj, decide_group label _ pre.group.is);
  }

  module _ (s : Bytes) (first more : ℕ) (inv : UnionBranchesAt table label s₁ w temp x s first more) where
    work : StepPre table label s w
    work = work_long (inv.long ∙ len) ok.work

    pub union_there : first < atoms table
    union_there = omega (arith, inv.within, branches_some table more first, some_pattern (node table first))

    pub union_add : AddPre s w (2 * first + 1) temp
    union_add = record {
      wide = omega (arith, work.wide);
      added = record { room = work_room work (2 * first + 1) (omega (arith, union_there)); flags = plane_flags (inv.settled.rest first inv.ahead union_there) };
      into = record { room = work_room work temp (omega (arith, ok.temp_is)); flags = inv.flags };
    }

    module _ (s' : Bytes) (len' : length s' ≡ length s) (f : AddPost s s' w (2 * first + 1) temp) where
      -- plane temp has the first branch besides
      joined : Plane s' w temp (λ i j. on s w temp i j || decide label (node table first) i j)
      joined =
          plane_same f.plane (λ i j hi hj. rw (plane_on (inv.settled.rest first inv.ahead union_there) i j hi hj) (or_comm (decide label (node table first) i j) (on s w temp i j)))

      kept_on : Kept s₁ s' w (temp + 1) (Others temp)
      kept_on = kept_then inv.kept f.kept (λ q i j n. n) (λ q i j n. n)

      pub union_end : more ≡ 0 → FillBodyPost table label s₀ s' w temp x
      union_end e =
          let z = decide_only label _ (branches_last table more first e) in
          record {
            plane = plane_same joined (λ i j hi hj. ap (λ (R : Rel). on s w temp i j || R i j) (sym z) ∙ inv.both i j hi hj);
            kept = kept_then blank.kept kept_on (λ q i j n. n) (λ q i j n. n);
          }

      pub union_step : (more ≡ 0 → ⊥) → (next : ℕ) → next ≡ first + size (node table first) → UnionBranchesAt table label s₁ w temp x s' next (more - 1)
      unfolding size
      union_step n next e =
          let z = branches_more table more first n in
          record {
            long = len' ∙ inv.long;
            kept = kept_on;
            settled = settled_kept f.kept away inv.settled;
            ahead = omega (arith, inv.ahead);
            within = rw e (omega (arith, inv.within, ap (λ (y : Syntax branches). size y) z));
            flags = plane_flags joined;
            both = λ i j hi hj. rw (plane_on joined i j hi hj, e)
                (or_assoc (on s w temp i j) (decide label (node table first) i j) (decide label (branches_from table (more - 1) (first + size (node table first))) i j)
                ∙ ap (λ (b : Bool). on s w temp i j || b) (sym (decide_or label _ _ z i j)) ∙ inv.both i j hi hj);
          }
