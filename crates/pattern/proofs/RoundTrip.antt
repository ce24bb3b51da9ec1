-- A table is read as the tree that it encodes; so a table is good exactly when some accepted source compiles to it. Assumes nothing.
use mathlib.Core.Path.{◌≡◌, refl, sym, ap, ap₂, subst, ◌∙◌}
use mathlib.Core.Logic.{◌↔◌}
use mathlib.Core.Bool.{Bool, true, false}
use mathlib.Core.Option.{Option, none, some, none-ne-some}
use Prim.Native.Nat.{ℕ, zero, suc, ◌+◌, ◌*◌, ◌<◌, ◌≤◌}
use native.Mathlib.Omega.{arith}
use borrow.Author.Tests.{eq-eqb, ne_eqb}
use lib.ListN.{length, take}
use lib.Seq.{take-append_seam}
use Rattle.pattern.specs.Numbers.{source_limit, atom_limit, record_size, open_high}
use Rattle.pattern.specs.Versions.{Version, v1, v2, written_version, format, header_size}
use Rattle.pattern.specs.Bytes.{Bytes, little, number_in}
use Rattle.pattern.specs.Syntax.{Sort, pattern, atom, body, branches, Syntax, last, then, repeat, codes, literal, group, only, or, size}
use Rattle.pattern.specs.Scan.{Outcome, refused, accepted, outcome}
use Rattle.pattern.specs.Within.{Small, InLimits}
use Rattle.pattern.specs.Print.{print}
use Rattle.pattern.specs.Table.{pool, branch_count, high_field, kind_field, a_field, b_field, Rec, rec, records, header, encode_in, encode}
use Rattle.pattern.specs.Decode.{version_of, Layout, layout, high_of, record_at, pattern_at, atom_at, body_at, branches_at, tree_of, is_table_in, compiled_to, decode, Compiles}
use Rattle.pattern.proofs.Tests.{Decides, leb_decides, both, if_true, if_false}
use Rattle.pattern.proofs.Agree.{equal_decides}
use Rattle.pattern.proofs.Accepted.{accepted_exactly}
use Rattle.pattern.proofs.Shortest.{shortest, good_tree}
use Rattle.pattern.proofs.Records.{length_record_bytes, count_records, Placed, placed_first, head_there, tail_there, then_there, or_there}

pub some_atom : (a : Syntax atom) → 0 < size a
unfolding size
some_atom (repeat low high b) = omega arith

pub some_pattern : (q : Syntax pattern) → 0 < size q
unfolding size
some_pattern (last a) = some_atom a
some_pattern (then a q) = omega (arith, some_atom a)

pub some_branch : (bs : Syntax branches) → 0 < branch_count bs
unfolding branch_count
some_branch (only q) = omega arith
some_branch (or q bs) = omega arith

pub high_again : (h : Option ℕ) → Small h → high_of (high_field h) ≡ h
unfolding high_of Small
high_again none f = refl
high_again (some m) f = if_false _ _ _ (ne_eqb m open_high (λ e. omega arith))

module _ (s : Bytes) (l : Layout) where
  ends_there : (e : ℕ) (a : Syntax atom) (i p : ℕ) → Placed s l e a i p → (record_at s l i).ends ≡ e
  unfolding records
  ends_there e (repeat low high b) i p h = ap (λ (r : Rec). r.ends) (head_there h)

  -- a tree that stands at a place is read there, if the depth of calls allows it
  Reads : (o : Sort) → Syntax o → ℕ → Type 0
  Reads pattern t e = (f i p : ℕ) → 4 * size t ≤ suc f → Placed s l e t i p → pattern_at s l f i ≡ t
  Reads atom a e = (f i p : ℕ) → 4 * size a ≤ suc (suc f) → Placed s l e a i p → atom_at s l f i ≡ a
  Reads body b e = (f i p low : ℕ) (high : Option ℕ) → 4 * size b < f → Placed s l e b (suc i) p → body_at s l f (rec e low high b i p) i ≡ b
  Reads branches bs e = (f i p : ℕ) → 4 * size bs ≤ f → Placed s l e bs i p → branches_at s l f (branch_count bs) i ≡ bs

  pattern_last : (a : Syntax atom) (e : ℕ) → Reads atom a 1 → Reads pattern (last a) e
  unfolding Reads pattern_at size records pool
  pattern_last a e r zero i p n h = absurd (omega (arith, some_atom a))
  pattern_last a e r (suc f) i p n h = if_true _ _ _ (eq-eqb _ _ (ends_there 1 a i p h)) ∙ ap last (r f i p (omega arith) h)

  pattern_then : (a : Syntax atom) (q : Syntax pattern) (e : ℕ) → Reads atom a 0 → Reads pattern q e → Reads pattern (then a q) e
  unfolding Reads pattern_at size
  pattern_then a q e r u zero i p n h = absurd (omega (arith, some_atom a))
  pattern_then a q e r u (suc f) i p n h =
      let (x, y) = then_there e a q h in
      let z = ends_there 0 a i p x in
      if_false _ _ _ (ne_eqb (record_at s l i).ends 1 (λ k. omega arith)) ∙ ap (λ b. then b (pattern_at s l f (i + size b))) (r f i p (omega arith) x) ∙ ap (then a) (u f (i + size a) (p + length (pool a)) (omega (arith, some_atom a)) y)

  atom_repeat : (low : ℕ) (high : Option ℕ) (b : Syntax body) (e : ℕ) → Small high → Reads body b e → Reads atom (repeat low high b) e
  unfolding Reads pattern_at size records pool
  atom_repeat low high b e z r zero i p n h = absurd (omega arith)
  atom_repeat low high b e z r (suc f) i p n h =
      ap (λ (x : Rec). repeat x.low (high_of x.high) (body_at s l f x i)) (head_there h)
      ∙ ap₂ (repeat low) (high_again high z) (r f i p low high (omega arith) (tail_there h))

  body_codes : (set e : ℕ) → Reads body (codes set) e
  unfolding Reads pattern_at kind_field a_field
  body_codes set e zero i p low high n h = absurd (omega arith)
  body_codes set e (suc f) i p low high n h = refl

  body_literal : (value : Bytes) (e : ℕ) → Reads body (literal value) e
  unfolding Reads pattern_at kind_field a_field b_field pool
  body_literal value e zero i p low high n h = absurd (omega arith)
  body_literal value e (suc f) i p low high n h = ap literal (ap (take (length value)) h.text ∙ take-append_seam value h.over)

  body_group : (bs : Syntax branches) (e : ℕ) → Reads branches bs e → Reads body (group bs) e
  unfolding Reads pattern_at kind_field a_field size records pool
  body_group bs e r zero i p low high n h = absurd (omega arith)
  body_group bs e r (suc f) i p low high n h = ap group (r f (suc i) p (omega arith) h)

  branches_only : (q : Syntax pattern) (e : ℕ) → Reads pattern q e → Reads branches (only q) e
  unfolding Reads pattern_at branch_count size records pool
  branches_only q e r zero i p n h = absurd (omega (arith, some_pattern q))
  branches_only q e r (suc f) i p n h = ap only (r f i p (omega arith) h)

  branches_or : (q : Syntax pattern) (bs : Syntax branches) (e : ℕ) → Reads pattern q e → Reads branches bs e → Reads branches (or q bs) e
  unfolding Reads pattern_at branch_count size
  branches_or q bs e r u zero i p n h = absurd (omega (arith, some_pattern q))
  branches_or q bs e r u (suc f) i p n h =
      let (x, y) = or_there e q bs h in
      if_false _ _ _ (ne_eqb (suc (branch_count bs)) 1 (λ k. omega (arith, some_branch bs))) ∙ ap (λ b. or b (branches_at s l f (branch_count bs) (i + size b))) (r f i p (omega arith) x) ∙ ap (or q) (u f (i + size q) (p + length (pool q)) (omega (arith, some_pattern q)) y)

  reads : {o : Sort} (d : ℕ) (t : Syntax o) (e : ℕ) → InLimits d t → Reads o t e
  unfolding InLimits
  reads d (last a) e g = pattern_last a e (reads d a 1 g)
  reads d (then a q) e (g, k) = pattern_then a q e (reads d a 0 g) (reads d q e k)
  reads d (repeat low high b) e ((x, y, z), k) = atom_repeat low high b e y (reads d b e k)
  reads d (codes set) e g = body_codes set e
  reads d (literal value) e g = body_literal value e
  reads d (group bs) e (x, k) = body_group bs e (reads (suc d) bs e k)
  reads d (only q) e g = branches_only q e (reads d q e g)
  reads d (or q bs) e (g, k) = branches_or q bs e (reads d q e g) (reads d bs e k)

-- ---- the table of a tree

module _ (v : Version) (t : Syntax pattern) where
  pub encode_length : length (encode_in v t) ≡ header_size v + record_size * size t + length (pool t)
  unfolding encode_in header little
  encode_length =
      let n = length_record_bytes (records 1 t 0 0) (pool t) in
      let m = count_records 1 t 0 0 in
      elim v as (λ v. length (encode_in v t) ≡ header_size v + record_size * size t + length (pool t)) [ v1 ↦ omega (arith, n, m) | v2 ↦ omega (arith, n, m) ]

  -- it names its version
  pub version_encode : version_of (encode_in v t) ≡ v
  unfolding version_of encode_in header little
  version_encode = elim v as (λ v. version_of (encode_in v t) ≡ v) [ v1 ↦ refl | v2 ↦ refl ]

-- its records begin after the header, and its pool after them, if there are no more atoms than the version allows
pub encode_placed : (v : Version) (t : Syntax pattern) → size t ≤ (format v).atoms → Placed (encode_in v t) (layout (encode_in v t)) 1 t 0 0
unfolding version_of encode_in header little number_in
encode_placed v1 t few = placed_first t (omega (arith, few, count_records 1 t 0 0)) refl
encode_placed v2 t few = placed_first t (omega (arith, few, count_records 1 t 0 0)) refl

-- a good tree is what its table is read as
pub tree_encode : (v : Version) (t : Syntax pattern) → InLimits 0 t → size t ≤ (format v).atoms → tree_of (encode_in v t) ≡ t
unfolding tree_of Reads
tree_encode v t g few = reads (encode_in v t) (layout (encode_in v t)) 0 t 1 g (length (encode_in v t)) 0 0 (omega (arith, encode_length v t)) (encode_placed v t few)

-- ---- which sources compile to a table

-- no version takes more than the compiler
pub limits_grow : (v : Version) → ((format v).source ≤ source_limit) × ((format v).atoms ≤ atom_limit)
limits_grow v1 = (omega arith, omega arith)
limits_grow v2 = (omega arith, omega arith)

module _ {v : Version} {source : Bytes} {t : Syntax pattern} {s : Bytes} (c : Compiles v source t s) where
  -- so each is accepted
  pub compiles_accepted : outcome source ≡ accepted t
  compiles_accepted =
      let (n, m) = limits_grow v in
      (accepted_exactly source t).1 (omega (arith, n, c.short), c.derives, record { tree = c.within; atoms = omega (arith, m, c.few) })

  -- and the table names the version
  pub compiles_version : version_of s ≡ v
  compiles_version = ap version_of (sym c.whole) ∙ version_encode v t

-- in the version that is written every accepted source compiles
pub accepted_compiles : (source : Bytes) (t : Syntax pattern) → outcome source ≡ accepted t → Compiles written_version source t (encode t)
accepted_compiles source t e =
    let (n, h, g) = (accepted_exactly source t).0 e in
    record { derives = h; within = g.tree; short = n; few = g.atoms; whole = refl }

module _ (v : Version) (s : Bytes) where
  -- what `is_table_in` tests
  abbrev TableIn : Syntax pattern → Type 0
  TableIn t = (length (print t) ≤ (format v).source) × ((size t ≤ (format v).atoms) × (encode_in v t ≡ s))

  table_in_decides : (t : Syntax pattern) → Decides (is_table_in v t s) (TableIn t)
  unfolding is_table_in
  table_in_decides t = both (leb_decides (length (print t)) (format v).source) (both (leb_decides (size t) (format v).atoms) (equal_decides (encode_in v t) s))

  compiled_is : (o : Outcome) (t : Syntax pattern) → (compiled_to v s o ≡ some t) ↔ ((o ≡ accepted t) × TableIn t)
  unfolding compiled_to
  compiled_is (refused f p) t = (λ e. absurd (none-ne-some t e), λ (e, m). absurd (let z : ◌≡◌ {A = ℕ} 0 1 = cc in omega arith))
  compiled_is (accepted u) t = go (is_table_in v u s) (table_in_decides u)
    where
      go : (b : Bool) → Decides b (TableIn u) → (◌≡◌ {A = Option (Syntax pattern)} (elim b [ true ↦ some u | false ↦ none ]) (some t)) ↔ ((accepted u ≡ accepted t) × TableIn t)
      go true d = (λ e. let x : u ≡ t = cc in (ap accepted x, subst TableIn x (d.sound tt)), λ (e, m). let x : u ≡ t = cc in ap some x)
      go false d = (λ e. absurd (none-ne-some t e), λ (e, m). let x : u ≡ t = cc in absurd (d.complete (subst TableIn (sym x) m)))

-- good exactly: bytes are decoded to a tree just when by the limits of a version some source with this tree compiles to them
pub good_exactly : (s : Bytes) (t : Syntax pattern) → (decode s ≡ some t) ↔ ((v : Version) × (source : Bytes) × Compiles v source t s)
unfolding decode
good_exactly s t = (
  λ e. let (a, (n, (k, m))) = (compiled_is (version_of s) s (outcome (print (tree_of s))) t).0 e in
      let (l, h, g) = (accepted_exactly (print t) t).0 ((good_tree t).0 (print (tree_of s), a)) in
      (version_of s, print t, record { derives = h; within = g.tree; short = n; few = k; whole = m }),
  λ (v, source, c).
      let x : tree_of s ≡ t = ap tree_of (sym c.whole) ∙ tree_encode v t c.within c.few in
      let p : outcome (print (tree_of s)) ≡ accepted t = ap (λ u. outcome (print u)) x ∙ (good_tree t).0 (source, compiles_accepted c) in
      rw (compiles_version c) ((compiled_is v s (outcome (print (tree_of s))) t).1 (p, (omega (arith, shortest 0 t source c.within c.derives, c.short), (c.few, c.whole)))),
)
