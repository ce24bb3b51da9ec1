-- The record of an atom says what stands there, in a good table. Assumes nothing.
use mathlib.Core.Path.{◌≡◌, refl, sym, ap, ap₂, subst, ◌∙◌}
use mathlib.Core.List.{List, [], ◌++◌, append-nil}
use mathlib.Core.Option.{Option}
use Prim.Native.Nat.{ℕ, zero, suc, ◌+◌, ◌*◌, ◌-◌, ◌≤◌, ◌<◌}
use native.Mathlib.Omega.{arith}
use lib.ListN.{length, get_or, take, drop, length-append, length-drop}
use Rattle.std.proofs.lemmas.List.{nil_from_length}
use lib.Seq.{get_or-drop, take-append_seam}
use Rattle.pattern.specs.Numbers.{codes_kind, group_kind, literal_kind, record_size}
use Rattle.pattern.specs.Bytes.{Bytes}
use Rattle.pattern.specs.Syntax.{pattern, atom, body, branches, Syntax, last, then, repeat, codes, literal, group, only, or, size, nodes}
use Rattle.pattern.specs.Table.{pool, branch_count, kind_field, a_field, b_field, rec, records}
use Rattle.pattern.specs.Decode.{rec_at, version_of, dummy, layout, record_at, high_of, tree_of}
use Rattle.std.specs.Prelude.{None}
use Rattle.pattern.specs.Kinds.{kind_of}
use Rattle.pattern.specs.declared.kind.Kind.TheVariants.{Codes, Literal, Group}
use Rattle.pattern.proofs.KindBytes.{kind_none}
use Rattle.pattern.proofs.Bound.{all_nodes, nodes_size, outside}
use Rattle.pattern.proofs.Stretch.{slice_take}
use Rattle.pattern.proofs.Records.{Placed, head_there, then_there}
use Rattle.pattern.proofs.RoundTrip.{some_pattern, encode_length, high_again}
use Rattle.pattern.proofs.Nodes.{At, at_atom, at_last, at_next, at_branch, Held, held}
use Rattle.pattern.proofs.Calls.{print_compiles}
use Rattle.table.specs.declared.record.Record.{Record}
use Rattle.table.specs.Fields.{record_of, RecordIn}
use Rattle.table.specs.Headers.{header_of}
use Rattle.table.specs.declared.header.Header.{Header}
use Rattle.atoms.specs.Atoms.{atoms, node, branches_from, head, body_of, AtomIn}
use Rattle.atoms.specs.Records.{LiteralAt, GroupIn, FollowedIn, RecordOf}
use Rattle.atoms.proofs.Goods.{count_fits}

-- the first node of a pattern is the pattern
first_node : (p : Syntax pattern) (xs : List (Syntax pattern)) → get_or (nodes p ++ xs) 0 (last dummy) ≡ p
unfolding nodes
first_node (last a) xs = refl
first_node (then a p) xs = refl

module _ (table : Bytes) where
  at_node : {x : ℕ} {p : Syntax pattern} → At (nodes (tree_of table)) x p → node table x ≡ p
  unfolding node
  at_node {x} {p} h =
      let z : x ≡ x + 0 = omega arith in
      ap (λ (k : ℕ). get_or (nodes (tree_of table)) k (last dummy)) z
      ∙ sym (get_or-drop x (nodes (tree_of table)) 0 (last dummy)) ∙ ap (λ (l : List (Syntax pattern)). get_or l 0 (last dummy)) h.from ∙ first_node p h.rest

  at_size : {x : ℕ} {p : Syntax pattern} → At (nodes (tree_of table)) x p → x + size p ≤ atoms table
  at_size {x} {p} h =
      omega (arith, simp (length-drop, length-append) at (ap length h.from), nodes_size (tree_of table), nodes_size p, some_pattern p)

  -- the branches that begin at atom y
  at_branches : (bs : Syntax branches) (y : ℕ) → At (nodes (tree_of table)) y bs → (k : ℕ) → k ≡ branch_count bs → (0 < k) × (bs ≡ branches_from table (k - 1) y) × (y + size bs ≤ atoms table)
  unfolding branch_count branches_from nodes size
  at_branches (only p) y h k c =
      let g : At (nodes (tree_of table)) y p = record { rest = h.rest; from = h.from } in
      let z : k - 1 ≡ 0 = omega arith in
      (omega arith, rw z (ap only (sym (at_node g))), at_size g)
  at_branches (or p bs) y h k c =
      let (f, g) = at_branch h in
      let z : y + length (nodes p) ≡ y + size p = omega (arith, nodes_size p) in
      let (m, e, l) = at_branches bs (y + size p) (subst (λ (k : ℕ). At (nodes (tree_of table)) k bs) z g) (k - 1) (omega arith) in
      let u : k - 1 ≡ suc (k - 1 - 1) = omega arith in
      (omega arith, rw (u, at_node f) (ap (or p) e), omega arith)

  -- the first node is the tree
  pub node_first : node table 0 ≡ tree_of table
  node_first = at_node (record { rest = []; from = sym (append-nil (nodes (tree_of table))) })

record View (table : Bytes) (x : ℕ) : Type 0 where
  pub low : ℕ
  pub high : Option ℕ
  pub bodied : Syntax body
  pub ends : ℕ
  pub text : ℕ
  pub over : Bytes
  pub heads : head (node table x) ≡ repeat low high bodied
  pub fields : record_at table (layout table) x ≡ rec ends low high bodied x text
  pub words : drop ((layout table).pool + text) table ≡ pool bodied ++ over
  pub inner : At (nodes (tree_of table)) (x + 1) bodied
  pub is_last : ends ≡ 1 → node table x ≡ last (head (node table x))
  pub is_followed : (ends ≡ 1 → ⊥) → FollowedIn table x

-- an atom's nodes are its body's
at_body : {xs : List (Syntax pattern)} {x low : ℕ} {high : Option ℕ} {b : Syntax body} → At xs x (repeat low high b) → At xs x b
unfolding nodes
at_body h = record { rest = h.rest; from = h.from }

module _ (table : Bytes) (x : ℕ) (ok : AtomIn table x) where
  view_of : (e text : ℕ) (p : Syntax pattern) → At (nodes (tree_of table)) x p → Placed table (layout table) e p x text → View table x
  unfolding records pool head size outside
  view_of e text (last (repeat low high b)) h s = record {
    low = low;
    high = high;
    bodied = b;
    ends = 1;
    text = text;
    over = s.over;
    heads = ap head (at_node table h);
    fields = head_there s;
    words = s.text;
    inner = at_body (at_last h);
    is_last = λ e. at_node table h ∙ ap last (sym (ap head (at_node table h)));
    is_followed = λ n. absurd (n refl);
  }
  view_of ends text (then (repeat low high b) q) h s =
      let a : Syntax atom = repeat low high b in
      let e : head (node table x) ≡ a = ap head (at_node table h) in
      let f = (then_there ends a q s).0 in
      let n : x + suc (length (nodes a)) ≡ x + size a = omega (arith, all_nodes a) in
      let g : At (nodes (tree_of table)) (x + size a) q = subst (λ (k : ℕ). At (nodes (tree_of table)) k q) n (at_next h) in
      record {
        low = low;
        high = high;
        bodied = b;
        ends = 0;
        text = text;
        over = f.over;
        heads = e;
        fields = head_there f;
        words = f.text;
        inner = at_body (at_atom h);
        is_last = λ e. absurd (omega arith);
        is_followed = λ n. record { is = rw e (at_node table h ∙ ap (then a) (sym (at_node table g))); there = rw e (omega (arith, at_size table g, some_pattern q)) };
      }

  view : View table x
  view =
      let t : Syntax pattern = tree_of table in
      let c = print_compiles table t ok.good.decoded in
      let k = subst (λ (s : Bytes). Held s (layout s) (nodes t) 0 x) c.whole (held (version_of table) t c.few x ok.there) in
      let z : 0 + x ≡ x = omega arith in
      view_of k.ends k.text k.node k.at (subst (λ (i : ℕ). Placed table (layout table) k.ends k.node i k.text) z k.placed)

-- ---- what the fields say

kinds_known : (b : Syntax body) → kind_of (kind_field b) ≡ None → ⊥
unfolding kind_field
kinds_known (codes set) e = kind_none codes_kind Codes e refl
kinds_known (literal value) e = kind_none literal_kind Literal e refl
kinds_known (group bs) e = kind_none group_kind Group e refl

kinds_leaf : (b : Syntax body) → (kind_field b ≡ group_kind → ⊥) → size b ≡ 0
unfolding kind_field size
kinds_leaf (codes set) n = refl
kinds_leaf (literal value) n = refl
kinds_leaf (group bs) n = absurd (n refl)

kinds_codes : (b : Syntax body) (p : ℕ) → kind_field b ≡ codes_kind → b ≡ codes (a_field b p)
unfolding kind_field a_field
kinds_codes (codes set) p e = refl
kinds_codes (literal value) p e = absurd (omega arith)
kinds_codes (group bs) p e = absurd (omega arith)

kinds_literal : (b : Syntax body) → kind_field b ≡ literal_kind → b ≡ literal (pool b)
unfolding kind_field pool
kinds_literal (codes set) e = absurd (omega arith)
kinds_literal (literal value) e = refl
kinds_literal (group bs) e = absurd (omega arith)

-- the fields of a literal
literal_fields : (b : Syntax body) (v : Bytes) (i p : ℕ) → b ≡ literal v → (pool b ≡ v) × (a_field b p ≡ p) × (b_field b i ≡ length v)
unfolding a_field b_field pool
literal_fields b v i p e = (ap pool e, ap (λ (y : Syntax body). a_field y p) e, ap (λ (y : Syntax body). b_field y i) e)

kinds_group : (b : Syntax body) (i p : ℕ) → (kind_field b ≡ codes_kind → ⊥) → (kind_field b ≡ literal_kind → ⊥)
    → (bs : Syntax branches) × (b ≡ group bs) × (a_field b p ≡ branch_count bs) × (b_field b i ≡ suc i + size b) × (size b ≡ size bs)
unfolding kind_field a_field b_field size
kinds_group (codes set) i p n m = absurd (n refl)
kinds_group (literal value) i p n m = absurd (m refl)
kinds_group (group bs) i p n m = (bs, refl, refl, refl, refl)

at_group : {xs : List (Syntax pattern)} {k : ℕ} {b : Syntax body} (bs : Syntax branches) → b ≡ group bs → At xs k b → At xs k bs
unfolding nodes
at_group bs e h = record { rest = h.rest; from = h.from ∙ ap (λ (y : Syntax body). nodes y ++ h.rest) e }

-- what has no byte, by its length
pub no_bytes : (l : Bytes) → length l ≡ 0 → l ≡ []
no_bytes = nil_from_length

module _ (table : Bytes) (x : ℕ) (ok : AtomIn table x) where
  -- the header and the record lie in the table
  pub record_in : RecordIn table (header_of table).records x
  record_in = record { within = omega (arith, ok.there, ap length (print_compiles table (tree_of table) ok.good.decoded).whole, encode_length (version_of table) (tree_of table)) }

  -- a record that is read where the header says
  pub record_from : {h : Header} → h ≡ header_of table → record_of (rec_at table (h.records + record_size * x)) ≡ record_of (record_at table (layout table) x)
  record_from e = ap (λ (h : Header). record_of (rec_at table (h.records + record_size * x))) e

  v : View table x
  v = view table x ok

  abbrev b : Syntax body
  b = v.bodied

  inside_is : body_of (head (node table x)) ≡ b
  unfolding body_of
  inside_is = ap body_of v.heads

  size_is : size (head (node table x)) ≡ suc (size b)
  unfolding size
  size_is = ap size v.heads

  module _ (r : Record) (got : r ≡ record_of (record_at table (layout table) x)) where
    said : r ≡ record_of (rec v.ends v.low v.high b x v.text)
    said = got ∙ ap record_of v.fields

    kind_is : r.kind ≡ kind_field b
    kind_is = ap (λ (z : Record). z.kind) said

    ends_is : r.ends ≡ v.ends
    ends_is = ap (λ (z : Record). z.ends) said

    a_is : r.a ≡ a_field b v.text
    a_is = ap (λ (z : Record). z.a) said

    b_is : r.b ≡ b_field b x
    b_is = ap (λ (z : Record). z.b) said

    count_is : repeat v.low v.high b ≡ repeat r.low (high_of r.high) b
    count_is =
        let f = count_fits table x ok v.low v.high b v.heads in
        ap₂ (λ (k : ℕ) (h : Option ℕ). repeat k h b) (sym (ap (λ (z : Record). z.low) said)) (sym (ap (λ (z : Record). high_of z.high) said ∙ high_again v.high f.1))

    group_is : (r.kind ≡ codes_kind → ⊥) → (r.kind ≡ literal_kind → ⊥) → GroupIn table x r.a
    group_is n m =
        let (bs, e, a, c, z) = kinds_group b x v.text (λ k. n (kind_is ∙ k)) (λ k. m (kind_is ∙ k)) in
        let (some, q, l) = at_branches table bs (x + 1) (at_group bs e v.inner) r.a (a_is ∙ a) in
        record {
          some = some;
          is = inside_is ∙ e ∙ ap group q;
          sized = size_is ∙ ap suc (z ∙ ap (λ (y : Syntax branches). size y) q);
          within = subst (λ (y : Syntax branches). x + 1 + size y ≤ atoms table) q l;
        }

    next_group_is : r.kind ≡ group_kind → r.b ≡ x + size (head (node table x))
    next_group_is e =
        let (bs, q, a, c, z) = kinds_group b x v.text (λ k. omega (arith, kind_is)) (λ k. omega (arith, kind_is)) in
        omega (arith, b_is, c, size_is)

    pub record_is : RecordOf table x r
    record_is =
        let c : head (node table x) ≡ repeat r.low (high_of r.high) (body_of (head (node table x))) = v.heads ∙ count_is ∙ ap (repeat r.low (high_of r.high)) (sym inside_is) in
        record {
          fields = got;
          count = c;
          fits = count_fits table x ok r.low (high_of r.high) _ c;
          known = λ e. kinds_known b (ap kind_of (sym kind_is) ∙ e);
          is_codes = λ e. inside_is ∙ kinds_codes b v.text (sym kind_is ∙ e) ∙ ap codes (sym a_is);
          is_literal = λ e. record { atom = ok; value = pool b; is = inside_is ∙ kinds_literal b (sym kind_is ∙ e) };
          is_group = group_is;
          next_group = next_group_is;
          next_leaf = λ n. size_is ∙ ap suc (kinds_leaf b (λ k. n (kind_is ∙ k)));
          is_last = λ e. v.is_last (sym ends_is ∙ e);
          is_followed = λ n. v.is_followed (λ e. n (ends_is ∙ e));
        }

    -- a literal's value lies in the pool, where the record says
    module _ (w : Bytes) (e : body_of (head (node table x)) ≡ literal w) where
      pub literal_none : r.b ≡ 0 → LiteralAt table x 0 r.b
      literal_none z =
          let (p, a, l) = literal_fields b w x v.text (sym inside_is ∙ e) in
          record { is = rw z (e ∙ ap literal (nil_from_length w (omega (arith, b_is)))); within = omega arith }

      pub literal_there : (r.b ≡ 0 → ⊥) → LiteralAt table x ((layout table).pool + r.a) r.b
      literal_there n =
          let (p, a, l) = literal_fields b w x v.text (sym inside_is ∙ e) in
          let from : ℕ = (layout table).pool + r.a in
          let t : drop from table ≡ w ++ v.over = ap (λ (k : ℕ). drop ((layout table).pool + k) table) (a_is ∙ a) ∙ v.words ∙ ap (λ (y : Bytes). y ++ v.over) p in
          let z : from + r.b - from ≡ length w = omega (arith, b_is) in record {
            is = e ∙ ap literal (sym (slice_take table from (from + r.b) ∙ ap₂ take z t ∙ take-append_seam w v.over));
            within = omega (arith, b_is, simp (length-drop, length-append) at (ap length t));
          }

-- a record of kind 3 is a group's
pub group_of : {table : Bytes} {x : ℕ} {r : Record} → RecordOf table x r → r.kind ≡ group_kind → GroupIn table x r.a
group_of got k = got.is_group (λ e. omega arith) (λ e. omega arith)

-- ---- branches one by one

module _ (table : Bytes) (more x : ℕ) where
  pub branches_last : more ≡ 0 → branches_from table more x ≡ only (node table x)
  unfolding branches_from
  branches_last e = rw e

  pub branches_more : (more ≡ 0 → ⊥) → branches_from table more x ≡ or (node table x) (branches_from table (more - 1) (x + size (node table x)))
  unfolding branches_from
  branches_more n = let z : more ≡ suc (more - 1) = omega arith in ap (λ (k : ℕ). branches_from table k x) z

pub branches_some : (table : Bytes) (more x : ℕ) → size (node table x) ≤ size (branches_from table more x)
unfolding branches_from size
branches_some table zero x = omega arith
branches_some table (suc more) x = omega arith

-- ---- where a branch ends

module _ {table : Bytes} {x : ℕ} {r : Record} (h : RecordOf table x r) where
  pub branch_last : r.ends ≡ 1 → size (node table x) ≡ size (head (node table x))
  unfolding size
  branch_last e = ap size (h.is_last e)

  pub branch_then : (r.ends ≡ 1 → ⊥) → size (node table x) ≡ size (head (node table x)) + size (node table (x + size (head (node table x))))
  unfolding size
  branch_then n = ap size (h.is_followed n).is
