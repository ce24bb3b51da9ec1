-- The reading of what follows a header with every check: the tree that the test walks. Private: a model for contracts inside the library.
use Rattle.std.specs.Prelude.{Bool, true, false, ◌&&◌, ◌||◌, [], ◌∷◌, ℕ, zero, suc, ◌+◌, ◌*◌, pred, leb, ltb, eqb, length, take, drop}
use Rattle.std.proofs.Math.Option.{Option, none, some}
use Rattle.pattern.specs.Numbers.{depth_limit, number_limit, set_limit, codes_kind, literal_kind, group_kind, record_size, open_high}
use Rattle.pattern.specs.Bytes.{Bytes, between}
use Rattle.pattern.specs.Syntax.{pattern, atom, body, branches, Syntax, last, then, repeat, codes, literal, group, only, or, size}
use Rattle.pattern.specs.Print.{print}
use Rattle.pattern.specs.Table.{pool, Rec}
use Rattle.pattern.specs.Decode.{rec_at, Layout, high_of}
use Rattle.table.specs.Headers.{header_of, headed}
use Rattle.table.specs.declared.header.Header.{Header}

-- ---- tests one after the other

unfoldable pub bind : {A B : Type 0} → Option A → (A → Option B) → Option B
bind (some x) k = k x
bind none k = none

unfoldable pub only_if : {A : Type 0} → Bool → Option A → Option A
only_if true x = x
only_if false x = none

unfoldable pub choose : {A : Type 0} → Bool → Option A → Option A → Option A
choose true x y = x
choose false x y = y

-- ---- the fields of a record

-- the bytes of a literal
unfoldable pub all_plain : Bytes → Bool
all_plain [] = true
all_plain (b ∷ v) = between 32 126 b && all_plain v

-- the numbers of a count, the high one as in a record
unfoldable pub ordered : ℕ → ℕ → Bool
ordered low high = leb low number_limit && (eqb high open_high || leb low high && leb high number_limit)

-- the set of a record of codes
unfoldable pub a_set : ℕ → Bool
a_set set = ltb 0 set && ltb set set_limit

-- codes, by the fields a and b of their record
abbrev pub codes_leaf : (a b : ℕ) → Option (Syntax body)
codes_leaf a b = only_if (a_set a) (only_if (eqb b 0) (some (codes a)))

-- ---- the records and the pool of A atoms

-- they begin where the header ends
abbrev pub payload_layout : ℕ → Layout
payload_layout A = record { records = 0; pool = record_size * A }

-- the record of atom i, the records beginning at 0
abbrev pub payload_record : Bytes → ℕ → Rec
payload_record s i = rec_at s (0 + record_size * i)

module _ (s : Bytes) (A : ℕ) where
  -- n bytes of the pool from p on
  abbrev pub pool_slice : (p n : ℕ) → Bytes
  pool_slice p n = take n (drop (record_size * A + p) s)

  -- a literal, by the fields a and b of its record, with p bytes of the pool before it
  abbrev pub text_leaf : (a b p : ℕ) → Option (Syntax body)
  text_leaf a b p =
      only_if (eqb a p)
      (only_if (leb (record_size * A + p + b) (length s))
      (only_if (all_plain (pool_slice p b)) (some (literal (pool_slice p b)))))

  -- a leaf, by its kind
  unfoldable pub leaf : (kind a b p : ℕ) → Option (Syntax body)
  leaf kind a b p = choose (eqb kind codes_kind) (codes_leaf a b) (only_if (eqb kind literal_kind) (text_leaf a b p))

  -- the group of atom i is over where its record says
  unfoldable pub closed_group : (b i : ℕ) → Syntax branches → Option (Syntax body)
  closed_group b i bs = only_if (eqb (suc i + size bs) b) (some (group bs))

  -- the tree from atom i on, with p bytes of the pool passed and d groups open; the first number bounds the depth of calls
  unfoldable mutual
    pub read_pattern : (f i p d : ℕ) → Option (Syntax pattern)
    read_pattern zero i p d = none
    read_pattern (suc f) i p d =
        bind (read_atom f i p d) λ a.
        choose (eqb (payload_record s i).ends 1) (some (last a))
        (only_if (eqb (payload_record s i).ends 0) (bind (read_pattern f (i + size a) (p + length (pool a)) d) λ q. some (then a q)))

    pub read_atom : (f i p d : ℕ) → Option (Syntax atom)
    read_atom zero i p d = none
    read_atom (suc f) i p d =
        only_if (ltb i A)
        (only_if (ordered (payload_record s i).low (payload_record s i).high)
        (bind (
        choose (eqb (payload_record s i).kind group_kind)
        (only_if (ltb d depth_limit) (bind (read_branches f (payload_record s i).a (suc i) p (suc d)) (closed_group (payload_record s i).b i)))
        (leaf (payload_record s i).kind (payload_record s i).a (payload_record s i).b p)
        ) λ b. some (repeat (payload_record s i).low (high_of (payload_record s i).high) b)))

    pub read_branches : (f k i p d : ℕ) → Option (Syntax branches)
    read_branches zero k i p d = none
    read_branches (suc f) k i p d =
        only_if (ltb 0 k)
        (bind (read_pattern f i p d) λ q.
        choose (eqb k 1) (some (only q))
        (bind (read_branches f (pred k) (i + size q) (p + length (pool q)) d) λ bs. some (or q bs)))

-- the tree of a whole table: all its atoms and its whole pool
abbrev pub read_by : Bytes → Header → Option (Syntax pattern)
read_by s h =
    let A : ℕ = h.atoms in
    only_if (leb A h.format.atoms)
    (bind (read_pattern (drop h.records s) A (3 * A + 2) 0 0 0) λ t.
    only_if (eqb (size t) A) (only_if (eqb (length (pool t)) h.length) (some t)))

unfoldable pub read_table : Bytes → Option (Syntax pattern)
read_table s = only_if (headed s) (read_by s (header_of s))

-- and its source is short enough
unfoldable pub walk : Bytes → Option (Syntax pattern)
walk s = bind (read_table s) λ t. only_if (leb (length (print t)) (header_of s).format.source) (some t)
