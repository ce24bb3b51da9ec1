-- The summary of an atom with its followers, by the rows after its own. Assumes nothing.
use mathlib.Core.Path.{◌≡◌, refl, sym, ap, ap₂, subst, ◌∙◌}
use mathlib.Core.Logic.{⊎_elim}
use mathlib.Core.List.{List, []}
use Prim.Native.Nat.{ℕ, suc, ◌+◌, ◌*◌, ◌-◌, ◌≤◌, ◌<◌}
use native.Mathlib.Nat.{eq-or-lt_of_le}
use native.Mathlib.Omega.{arith}
use lib.ListN.{length, set}
use lib.Seq.{slice, slice_empty, get_or-set_same, get_or-set_other}
use Rattle.pattern.specs.Numbers.{codes_kind, literal_kind, group_kind, record_size}
use Rattle.pattern.specs.Versions.{header_size}
use Rattle.pattern.specs.Bytes.{Bytes}
use Rattle.pattern.specs.Codes.{in_set}
use Rattle.pattern.specs.Syntax.{pattern, atom, body, branches, Syntax, size}
use Rattle.pattern.specs.Decode.{high_of, version_of, rec_at, tree_of}
use Rattle.pattern.proofs.RoundTrip.{some_pattern, some_atom}
use Rattle.table.specs.declared.header.Header.{Header}
use Rattle.table.specs.declared.record.Record.{Record}
use Rattle.table.specs.Fields.{RecordIn, record_of}
use Rattle.table.specs.Headers.{header_of}
use Rattle.atoms.specs.Atoms.{AtomIn, atoms, node, branches_from, head, body_of}
use Rattle.atoms.specs.Records.{LiteralAt, GroupIn, RecordOf}
use Rattle.atoms.proofs.Views.{record_in, record_from, record_is, literal_none, literal_there, node_first, branches_last, branches_more, branches_some}
use Rattle.summary.specs.Summary.{Summary, of_class, of_literal, of_either, summary_of}
use Rattle.summary.specs.Packing.{packed_of, both_packed, either_packed, repeat_packed}
use Rattle.summary.specs.Rows.{row, Room, Settled, Settling, Next}
use Rattle.summary.specs.declared.packed.Packed.{Packed}
use Rattle.summary.proofs.Packings.{both_law, either_law, either_assoc, repeat_law}

-- the summary of the body of atom x
abbrev body_packed : Bytes → ℕ → Packed
body_packed table x = packed_of (summary_of (body_of (head (node table x))))

module _ {table : Bytes} {s : List Packed} {x : ℕ} (ok : Settling table s x) where
  -- the row of an atom lies in the rows
  pub row_in : (y : ℕ) → y < atoms table → y < length s
  row_in y h = omega (arith, ok.room.room)

  pub row_is : (y : ℕ) → x < y → y < atoms table → row s y ≡ packed_of (summary_of (node table y))
  row_is y h k = ok.after.rows y (omega arith) k

  atom_in : AtomIn table x
  atom_in = record { good = ok.room.good; there = ok.there }

  -- the record is read where the header says
  module _ {h : Header} (e : h ≡ header_of table) where
    pub record_there : RecordIn table h.records x
    record_there = subst (λ (h : Header). RecordIn table h.records x) (sym e) (record_in table x atom_in)

    pub record_got : (r : Record) → r ≡ record_of (rec_at table (h.records + record_size * x)) → RecordOf table x r
    record_got r f = record_is table x atom_in r (f ∙ record_from table x atom_in e)

    -- and so is a literal's value
    pub literal_got : {r : Record} → RecordOf table x r → r.kind ≡ literal_kind → ¬ (r.b ≡ 0) → LiteralAt table x (h.pool + r.a) r.b
    literal_got {r} got k n = rw (ap (λ (h : Header). h.pool) e) (literal_there table x atom_in r got.fields _ (got.is_literal k).is n)

-- ---- branches

-- the branch at a place and those before it are joined, and more are left
pub record Joined (table : Bytes) (x : ℕ) (m : Packed) (at more : ℕ) : Type 0 where
  pub ahead : x < at
  pub there : at < atoms table
  pub passed : Summary
  pub is : m ≡ packed_of passed
  pub all : more ≡ 0 → passed ≡ summary_of (body_of (head (node table x)))
  pub rest : 0 < more → of_either passed (summary_of (branches_from table (more - 1) (at + size (node table at)))) ≡ summary_of (body_of (head (node table x)))
  pub within : 0 < more → at + size (node table at) + size (branches_from table (more - 1) (at + size (node table at))) ≤ atoms table

-- the first of several branches joins what was joined before it
join_one : (table : Bytes) (x at more : ℕ) (join : Summary → Summary) → ((a b : Summary) → join (of_either a b) ≡ of_either (join a) b)
    → x < at → at + size (branches_from table more at) ≤ atoms table → join (summary_of (branches_from table more at)) ≡ summary_of (body_of (head (node table x)))
    → (m : Packed) → m ≡ packed_of (join (summary_of (node table at))) → Joined table x m at more
unfolding summary_of size
join_one table x at more join assoc h w e m f = record {
  ahead = h;
  there = omega (arith, branches_some table more at, some_pattern (node table at));
  passed = join (summary_of (node table at));
  is = f;
  all = λ z. ap (λ (b : Syntax branches). join (summary_of b)) (sym (branches_last table more at z)) ∙ e;
  rest = λ k. sym (assoc _ _) ∙ ap (λ (b : Syntax branches). join (summary_of b)) (sym (branches_more table more at (λ z. omega arith))) ∙ e;
  within = λ k. omega (arith, ap (λ (b : Syntax branches). size b) (branches_more table more at (λ z. omega arith)));
}

module _ {table : Bytes} {s : List Packed} {x : ℕ} (ok : Settling table s x) where
  pub first_there : {count : ℕ} → GroupIn table x count → x + 1 < atoms table
  first_there {count} g = omega (arith, g.within, branches_some table (count - 1) (x + 1), some_pattern (node table (x + 1)))

  pub join_start : {count : ℕ} → GroupIn table x count → (m : Packed) → m ≡ row s (x + 1) → Joined table x m (x + 1) (count - 1)
  unfolding summary_of
  join_start {count} g m e =
      join_one table x (x + 1) (count - 1) (λ a. a) (λ a b. refl) (omega arith) g.within (sym (ap (λ (b : Syntax body). summary_of b) g.is)) m (e ∙ row_is ok (x + 1) (omega arith) (first_there g))

  module _ {m : Packed} {at more : ℕ} (inv : Joined table x m at more) (h : 0 < more) (to : ℕ) (e : to ≡ at + size (node table at)) where
    pub next_branch : to < atoms table
    next_branch = omega (arith, inv.within h, branches_some table (more - 1) (at + size (node table at)), some_pattern (node table (at + size (node table at))))

    pub join_step : (got m' : Packed) → got ≡ row s to → m' ≡ either_packed m got → Joined table x m' to (more - 1)
    join_step got m' f g =
        let w : to + size (branches_from table (more - 1) to) ≤ atoms table = rw e (inv.within h) in
        let b : of_either inv.passed (summary_of (branches_from table (more - 1) to)) ≡ summary_of (body_of (head (node table x))) = rw e (inv.rest h) in
        join_one table x to (more - 1) (of_either inv.passed) (either_assoc inv.passed) (omega (arith, inv.ahead)) w b m'
        (g ∙ ap₂ either_packed inv.is (f ∙ row_is ok to (omega (arith, inv.ahead)) next_branch) ∙ either_law inv.passed (summary_of (node table to)))

  pub join_end : {m : Packed} {at more : ℕ} → Joined table x m at more → more ≤ 0 → m ≡ body_packed table x
  join_end inv h = inv.is ∙ ap packed_of (inv.all (omega arith))

-- ---- an atom and its followers

module _ {table : Bytes} {x : ℕ} {r : Record} (got : RecordOf table x r) where
  pub codes_packed : (m : Packed) → r.kind ≡ codes_kind → m ≡ packed_of (of_class (in_set r.a)) → m ≡ body_packed table x
  unfolding summary_of
  codes_packed m e f = f ∙ ap (λ (y : Syntax body). packed_of (summary_of y)) (sym (got.is_codes e))

  pub atom_packed : (m own : Packed) → m ≡ body_packed table x → own ≡ repeat_packed r.low (high_of r.high) m → own ≡ packed_of (summary_of (head (node table x)))
  unfolding summary_of
  atom_packed m own e f =
      f ∙ ap (repeat_packed r.low (high_of r.high)) e ∙ repeat_law r.low (high_of r.high) (summary_of (body_of (head (node table x))))
      ∙ ap (λ (y : Syntax atom). packed_of (summary_of y)) (sym got.count)

  pub last_packed : (own : Packed) → own ≡ packed_of (summary_of (head (node table x))) → r.ends ≡ 1 → own ≡ packed_of (summary_of (node table x))
  unfolding summary_of
  last_packed own e f = e ∙ ap (λ (y : Syntax pattern). packed_of (summary_of y)) (sym (got.is_last f))

  -- what follows a leaf is the next atom
  pub leaf_next : (r.kind ≡ group_kind → ⊥) → suc x ≡ x + size (head (node table x))
  leaf_next n = omega (arith, got.next_leaf n)

  module _ (n : r.ends ≡ 1 → ⊥) (next : ℕ) (e : next ≡ x + size (head (node table x))) where
    pub next_there : next < atoms table
    next_there = omega (arith, (got.is_followed n).there)

    pub next_ahead : x < next
    next_ahead = omega (arith, some_atom (head (node table x)))

    pub then_packed : (own rest m : Packed) → own ≡ packed_of (summary_of (head (node table x))) → rest ≡ packed_of (summary_of (node table next)) → m ≡ both_packed own rest → m ≡ packed_of (summary_of (node table x))
    unfolding summary_of
    then_packed own rest m p q f =
        f ∙ ap₂ both_packed p (q ∙ ap (λ (y : ℕ). packed_of (summary_of (node table y))) e)
        ∙ both_law (summary_of (head (node table x))) (summary_of (node table (x + size (head (node table x)))))
        ∙ ap (λ (y : Syntax pattern). packed_of (summary_of y)) (sym (got.is_followed n).is)

pub empty_packed : {table : Bytes} {s : List Packed} {x : ℕ} {r : Record} → Settling table s x → RecordOf table x r → r.kind ≡ literal_kind → r.b ≡ 0 → (m : Packed) → m ≡ packed_of (of_literal []) → m ≡ body_packed table x
unfolding summary_of
empty_packed {table} {x = x} {r = r} ok got k z m e =
    let l = literal_none table x (record { good = ok.room.good; there = ok.there }) r got.fields _ (got.is_literal k).is z in
    let w : 0 ≡ 0 + r.b = omega arith in
    e ∙ ap (λ (v : Bytes). packed_of (of_literal v)) (sym (slice_empty 0 table) ∙ ap (λ (k : ℕ). slice 0 k table) w)
    ∙ ap (λ (y : Syntax body). packed_of (summary_of y)) (sym l.is)

pub literal_packed : {table : Bytes} {x from len : ℕ} → LiteralAt table x from len → (m : Packed) → m ≡ packed_of (of_literal (slice from (from + len) table)) → m ≡ body_packed table x
unfolding summary_of
literal_packed l m e = e ∙ ap (λ (y : Syntax body). packed_of (summary_of y)) (sym l.is)

-- the row of what follows
pub next_row : {table : Bytes} {s : List Packed} {x : ℕ} {r : Record} → Settling table s x → (got : RecordOf table x r) → (r.ends ≡ 1 → ⊥) → (next : ℕ) → next ≡ x + size (head (node table x)) → row s next ≡ packed_of (summary_of (node table next))
next_row ok got n next e = row_is ok next (next_ahead got n next e) (next_there got n next e)

-- ---- the loop over the atoms

-- a row that is set settles one atom more
pub settled_more : {table : Bytes} {s : List Packed} {x : ℕ} {m : Packed} → x < length s → m ≡ packed_of (summary_of (node table x)) → Settled table s (suc x) → Settled table (set s x m) x
settled_more {table} {s} {x} {m} r e h = record {
  rows = λ y l k.
      ⊎_elim (λ (z : x ≡ y). ap (row (set s x m)) (sym z) ∙ get_or-set_same s x m _ r ∙ e ∙ ap (λ (q : ℕ). packed_of (summary_of (node table q))) z)
      (λ z. get_or-set_other s x y m _ (λ e. omega arith) ∙ h.rows y z k) (eq-or-lt_of_le l);
}

-- the rows from x on are settled, m is the first of them, and they are as long as before
pub record SettledFrom (table : Bytes) (s₀ s : List Packed) (m : Packed) (x : ℕ) : Type 0 where
  pub long : length s ≡ length s₀
  pub below : x ≤ atoms table
  pub settled : Settled table s x
  pub first : Next table x m

module _ {table : Bytes} {s₀ : List Packed} (room : Room table s₀) where
  -- there are bytes enough for a header
  pub header_there : header_size (version_of table) ≤ length table
  header_there = omega (arith, (record_in table 0 (record { good = room.good; there = some_pattern (tree_of table) })).within)

  pub settled_start : (m : Packed) (x : ℕ) → x ≡ atoms table → SettledFrom table s₀ s₀ m x
  settled_start m x e =
      record { long = refl; below = omega arith; settled = record { rows = λ y l k. absurd (omega arith) }; first = record { is = λ k. absurd (omega arith) } }

  module _ {s : List Packed} {m : Packed} {x : ℕ} (inv : SettledFrom table s₀ s m x) where
    module _ (h : 0 < x) where
      before : x ≡ suc (x - 1)
      before = omega arith

      pub settled_ready : Settling table s (x - 1)
      settled_ready = record {
        room = record { good = room.good; room = omega (arith, room.room, inv.long) };
        there = omega (arith, inv.below);
        after = subst (Settled table s) before inv.settled;
      }

      pub next_ready : Next table (suc (x - 1)) m
      next_ready = subst (λ (y : ℕ). Next table y m) before inv.first

    pub settled_step : {s' : List Packed} {m' : Packed} → length s' ≡ length s → Settled table s' (x - 1) → Next table (x - 1) m' → SettledFrom table s₀ s' m' (x - 1)
    settled_step e h k = record { long = e ∙ inv.long; below = omega (arith, inv.below); settled = h; first = k }

    pub settled_end : x ≤ 0 → m ≡ packed_of (summary_of (tree_of table))
    settled_end h =
        let z : x ≡ 0 = omega arith in
        inv.first.is (omega (arith, some_pattern (tree_of table)))
        ∙ ap (λ (y : ℕ). packed_of (summary_of (node table y))) z ∙ ap (λ (p : Syntax pattern). packed_of (summary_of p)) (node_first table)
