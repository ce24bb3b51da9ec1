-- A good tree whose records and literals stand in the bytes is the one that the checked reading gives. Assumes nothing.
use mathlib.Core.Path.{◌≡◌, refl, ap, ◌∙◌}
use mathlib.Core.Option.{Option, some}
use Prim.Native.Nat.{ℕ, zero, suc, ◌+◌, ◌*◌, ◌<◌}
use native.Mathlib.Omega.{arith}
use lib.Dec.{ltb, eqb}
use borrow.Author.Tests.{lt-ltb, le-leb, eq-eqb, ne_eqb}
use lib.ListN.{length, take, length-append}
use lib.Seq.{take-append_seam}
use Rattle.pattern.specs.Numbers.{depth_limit, set_limit}
use Rattle.pattern.specs.Bytes.{Bytes}
use Rattle.pattern.specs.Syntax.{pattern, atom, body, branches, Syntax, last, then, repeat, codes, literal, group, only, or, size}
use Rattle.pattern.specs.Within.{InLimits}
use Rattle.pattern.specs.Table.{pool, branch_count, kind_field, a_field, b_field, Rec, rec, records}
use Rattle.pattern.specs.Decode.{high_of}
use Rattle.pattern.proofs.Records.{Placed, head_there, tail_there, then_there, or_there}
use Rattle.pattern.proofs.RoundTrip.{some_atom, some_pattern, some_branch, high_again}
use Rattle.table.specs.Fields.{record_of}
use Rattle.table.specs.Checked.{payload_layout, payload_record, all_plain, ordered, a_set, bind, only_if, choose, pool_slice, leaf, closed_group, read_pattern, read_atom, read_branches}
use Rattle.table.proofs.Standing.{Clean, Set}
use Rattle.table.specs.declared.record.Record.{Record}
use Rattle.table.proofs.Options.{kept, first, second, going_on, true_and}
use Rattle.table.proofs.Clean.{fits_ordered}

module _ (s : Bytes) (A : ℕ) where
  set_last : {e : ℕ} {a : Syntax atom} {i p d : ℕ} → Set s A e (last a) i p d → Set s A 1 a i p d
  unfolding records size pool InLimits Clean
  set_last h = record { placed = h.placed; good = h.good; clean = h.clean; within = h.within; pooled = h.pooled }

  set_only : {e : ℕ} {q : Syntax pattern} {i p d : ℕ} → Set s A e (only q) i p d → Set s A e q i p d
  unfolding records size pool InLimits Clean
  set_only h = record { placed = h.placed; good = h.good; clean = h.clean; within = h.within; pooled = h.pooled }

  set_then : (e : ℕ) (a : Syntax atom) (q : Syntax pattern) (i p d : ℕ) → Set s A e (then a q) i p d → Set s A 0 a i p d × Set s A e q (i + size a) (p + length (pool a)) d
  unfolding size pool InLimits Clean
  set_then e a q i p d h =
      let (x, y) = then_there e a q h.placed in
      let n = length-append (pool a) (pool q) in (
        record { placed = x; good = h.good.0; clean = h.clean.0; within = omega (arith, h.within); pooled = omega (arith, h.pooled) },
        record { placed = y; good = h.good.1; clean = h.clean.1; within = omega (arith, h.within); pooled = omega (arith, h.pooled) },
      )

  set_or : (e : ℕ) (q : Syntax pattern) (bs : Syntax branches) (i p d : ℕ) → Set s A e (or q bs) i p d → Set s A e q i p d × Set s A e bs (i + size q) (p + length (pool q)) d
  unfolding size pool InLimits Clean
  set_or e q bs i p d h =
      let (x, y) = or_there e q bs h.placed in
      let n = length-append (pool q) (pool bs) in (
        record { placed = x; good = h.good.0; clean = h.clean.0; within = omega (arith, h.within); pooled = omega (arith, h.pooled) },
        record { placed = y; good = h.good.1; clean = h.clean.1; within = omega (arith, h.within); pooled = omega (arith, h.pooled) },
      )

  -- the branches of a group
  set_group : (e low : ℕ) (high : Option ℕ) (bs : Syntax branches) (i p d : ℕ) → Set s A e (repeat low high (group bs)) i p d → Set s A e bs (suc i) p (suc d)
  unfolding records size pool InLimits Clean
  set_group e low high bs i p d h =
      record { placed = tail_there h.placed; good = h.good.1.1; clean = h.clean; within = omega (arith, h.within); pooled = h.pooled }

  -- the record of an atom
  record_there : (e low : ℕ) (high : Option ℕ) (b : Syntax body) (i p : ℕ) → Placed s (payload_layout A) e (repeat low high b) i p → payload_record s i ≡ rec e low high b i p
  unfolding records
  record_there e low high b i p h = head_there h

  record_ends : (e : ℕ) (a : Syntax atom) (i p : ℕ) → Placed s (payload_layout A) e a i p → (payload_record s i).ends ≡ e
  record_ends e (repeat low high b) i p h = ap (λ (r : Rec). r.ends) (record_there e low high b i p h)

  -- an atom, by its record
  abbrev pub by_record : ℕ → Record → ℕ → ℕ → ℕ → Option (Syntax atom)
  by_record f r i p d =
      only_if (ltb i A)
      (only_if (ordered r.low r.high)
      (bind (
      choose (eqb r.kind 3)
      (only_if (ltb d depth_limit) (bind (read_branches s A f r.a (suc i) p (suc d)) (closed_group s A r.b i)))
      (leaf s A r.kind r.a r.b p)
      ) λ b. some (repeat r.low (high_of r.high) b)))

  record Complete (f : ℕ) : Type 0 where
    patterns : (e : ℕ) (t : Syntax pattern) (i p d : ℕ) → Set s A e t i p d → 3 * size t + 1 < f → read_pattern s A f i p d ≡ some t
    atoms : (e : ℕ) (a : Syntax atom) (i p d : ℕ) → Set s A e a i p d → 3 * size a < f → read_atom s A f i p d ≡ some a
    branches : (e : ℕ) (bs : Syntax branches) (i p d : ℕ) → Set s A e bs i p d → 3 * size bs + 2 < f → read_branches s A f (branch_count bs) i p d ≡ some bs

  -- once its body is read
  read_body : (f e low : ℕ) (high : Option ℕ) (b : Syntax body) (i p d : ℕ) → Set s A e (repeat low high b) i p d
      → choose (eqb (kind_field b) 3)
      (only_if (ltb d depth_limit) (bind (read_branches s A f (a_field b p) (suc i) p (suc d)) (closed_group s A (b_field b i) i)))
      (leaf s A (kind_field b) (a_field b p) (b_field b i) p) ≡ some b
      → read_atom s A (suc f) i p d ≡ some (repeat low high b)
  unfolding read_pattern size InLimits
  read_body f e low high b i p d h g =
      let n : i < A = omega (arith, h.within) in
      let x = h.good.0 in
      ap (λ r. by_record f (record_of r) i p d) (record_there e low high b i p h.placed)
      ∙ kept _ _ (lt-ltb _ _ n)
      ∙ kept _ _ (fits_ordered low high x)
      ∙ going_on _ _ g
      ∙ ap (λ y. some (repeat low y b)) (high_again high x.1)

  complete_atom : (f : ℕ) → Complete f → (e : ℕ) (a : Syntax atom) (i p d : ℕ) → Set s A e a i p d → 3 * size a < suc f → read_atom s A (suc f) i p d ≡ some a
  unfolding kind_field a_field b_field choose leaf closed_group a_set size pool records InLimits Clean
  complete_atom f ih e (repeat low high (codes set)) i p d h n =
      read_body f e low high (codes set) i p d h
      (kept _ _ (true_and (ltb 0 set) (ltb set set_limit) (lt-ltb _ _ h.clean) (lt-ltb _ _ h.good.1)) ∙ kept _ _ refl)
  complete_atom f ih e (repeat low high (literal v)) i p d h n =
      let t : pool_slice s A p (length v) ≡ v = ap (take (length v)) h.placed.text ∙ take-append_seam v h.placed.over in
      read_body f e low high (literal v) i p d h
      (kept _ _ refl ∙ kept _ _ (eq-eqb p p refl) ∙ kept _ _ (le-leb _ _ h.pooled) ∙ kept _ _ (ap all_plain t ∙ h.clean) ∙ ap (λ x. some (literal x)) t)
  complete_atom f ih e (repeat low high (group bs)) i p d h n =
      let b = set_group e low high bs i p d h in
      read_body f e low high (group bs) i p d h
      (kept _ _ (lt-ltb _ _ h.good.1.0) ∙ going_on _ _ (ih.branches e bs (suc i) p (suc d) b (omega (arith, n))) ∙ kept _ _ (eq-eqb (suc i + size bs) _ refl))

  complete_pattern : (f : ℕ) → Complete f → (e : ℕ) (t : Syntax pattern) (i p d : ℕ) → Set s A e t i p d → 3 * size t + 1 < suc f → read_pattern s A (suc f) i p d ≡ some t
  unfolding read_pattern size
  complete_pattern f ih e (last a) i p d h n =
      let b = set_last h in
      going_on _ _ (ih.atoms 1 a i p d b (omega (arith, n))) ∙ first _ _ _ (eq-eqb _ _ (record_ends 1 a i p b.placed))
  complete_pattern f ih e (then a q) i p d h n =
      let (b, c) = set_then e a q i p d h in
      let z = record_ends 0 a i p b.placed in
      going_on _ _ (ih.atoms 0 a i p d b (omega (arith, n)))
      ∙ second _ _ _ (ne_eqb (payload_record s i).ends 1 (λ x. omega (arith, z, x)))
      ∙ kept _ _ (eq-eqb _ _ z)
      ∙ going_on _ _ (ih.patterns e q _ _ d c (omega (arith, n, some_atom a)))

  complete_branches : (f : ℕ) → Complete f → (e : ℕ) (bs : Syntax branches) (i p d : ℕ) → Set s A e bs i p d → 3 * size bs + 2 < suc f → read_branches s A (suc f) (branch_count bs) i p d ≡ some bs
  unfolding read_pattern size branch_count
  complete_branches f ih e (only q) i p d h n =
      kept _ _ refl ∙ going_on _ _ (ih.patterns e q i p d (set_only h) (omega (arith, n))) ∙ first _ _ _ refl
  complete_branches f ih e (or q bs) i p d h n =
      let (b, c) = set_or e q bs i p d h in
      kept _ _ (lt-ltb 0 (suc (branch_count bs)) (omega arith))
      ∙ going_on _ _ (ih.patterns e q i p d b (omega (arith, n)))
      ∙ second _ _ _ (ne_eqb (suc (branch_count bs)) 1 (λ x. omega (arith, x, some_branch bs)))
      ∙ going_on _ _ (ih.branches e bs _ _ d c (omega (arith, n, some_pattern q)))

  complete : (f : ℕ) → Complete f
  complete zero = record { patterns = λ e t i p d h n. absurd (omega arith); atoms = λ e a i p d h n. absurd (omega arith); branches = λ e bs i p d h n. absurd (omega arith) }
  complete (suc f) =
      record { patterns = complete_pattern f (complete f); atoms = complete_atom f (complete f); branches = complete_branches f (complete f) }

  pub found : (e : ℕ) (t : Syntax pattern) (f i p d : ℕ) → Set s A e t i p d → 3 * size t + 1 < f → read_pattern s A f i p d ≡ some t
  found e t f i p d h n = (complete f).patterns e t i p d h n
