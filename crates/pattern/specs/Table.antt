-- The table of a tree, as a list of bytes. To be believed.
use Rattle.std.specs.Prelude.{List, [], ◌∷◌, ◌++◌, ℕ, suc, ◌+◌, length}
use Rattle.std.proofs.Math.Option.{Option, none, some}
use Rattle.pattern.specs.Numbers.{mark, codes_kind, literal_kind, group_kind, open_high}
use Rattle.pattern.specs.Versions.{Version, written_version, format}
use Rattle.pattern.specs.Bytes.{Bytes, le16, little}
use Rattle.pattern.specs.Syntax.{Sort, pattern, branches, body, Syntax, last, then, repeat, codes, literal, group, only, or, size}

-- the values of the literals, in atom order
unfoldable pub pool : {s : Sort} → Syntax s → Bytes
pool (last a) = pool a
pool (then a p) = pool a ++ pool p
pool (repeat low high b) = pool b
pool (codes set) = []
pool (literal value) = value
pool (group bs) = pool bs
pool (only p) = pool p
pool (or p bs) = pool p ++ pool bs

-- the number of branches
unfoldable pub branch_count : Syntax branches → ℕ
branch_count (only p) = 1
branch_count (or p bs) = suc (branch_count bs)

-- the high number in a record
abbrev pub high_field : Option ℕ → ℕ
high_field none = open_high
high_field (some m) = m

-- what a record says of an atom; ends is the paper's last
pub record Rec : Type 0 where
  pub kind : ℕ
  pub ends : ℕ
  pub low : ℕ
  pub high : ℕ
  pub a : ℕ
  pub b : ℕ

-- what a record says of the body of the atom with index i, with p bytes in the pool before it: kind, a and b
unfoldable pub kind_field : Syntax body → ℕ
kind_field (codes set) = codes_kind
kind_field (literal value) = literal_kind
kind_field (group bs) = group_kind

unfoldable pub a_field : Syntax body → (p : ℕ) → ℕ
a_field (codes set) p = set
a_field (literal value) p = p
a_field (group bs) p = branch_count bs

unfoldable pub b_field : Syntax body → (i : ℕ) → ℕ
b_field (codes set) i = 0
b_field (literal value) i = length value
b_field (group bs) i = suc i + size bs

-- an atom's record; e is 1 if the atom ends its branch, else 0
abbrev pub rec : (e low : ℕ) → Option ℕ → Syntax body → (i p : ℕ) → Rec
rec e low high x i p =
    record { kind = kind_field x; ends = e; low = low; high = high_field high; a = a_field x p; b = b_field x i }

-- the records in source order, a group before its contents; e is for an atom alone, a pattern knows which of its atoms ends the branch
unfoldable pub records : {s : Sort} → ℕ → Syntax s → (i p : ℕ) → List Rec
records e (last a) i p = records 1 a i p
records e (then a q) i p = records 0 a i p ++ records e q (i + size a) (p + length (pool a))
records e (repeat low high b) i p = rec e low high b i p ∷ records e b (suc i) p
records e (codes set) i p = []
records e (literal value) i p = []
records e (group bs) i p = records e bs i p
records e (only q) i p = records e q i p
records e (or q bs) i p = records e q i p ++ records e bs (i + size q) (p + length (pool q))

-- the bytes of records, before others
unfoldable pub record_bytes : List Rec → Bytes → Bytes
record_bytes [] s = s
record_bytes (r ∷ rs) s = r.kind ∷ r.ends ∷ le16 r.low (le16 r.high (le16 r.a (le16 r.b (record_bytes rs s))))

-- the header of n atoms and m bytes of pool, before others
unfoldable pub header : Version → (n m : ℕ) → Bytes → Bytes
header v n m s = mark ++ le16 (format v).version (little (format v).width n ++ le16 m s)

-- "a table" of a version: header, records, pool
unfoldable pub encode_in : Version → Syntax pattern → Bytes
encode_in v t = header v (size t) (length (pool t)) (record_bytes (records 1 t 0 0) (pool t))

-- the table that a tree compiles to
abbrev pub encode : Syntax pattern → Bytes
encode t = encode_in written_version t
