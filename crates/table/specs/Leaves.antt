-- What is said of a leaf: the bytes that it has in the pool and in the source. Private: a model for contracts inside the library.
use Rattle.std.specs.Prelude.{Some, None, cond, ◌≡◌, ℕ, ◌+◌, ◌*◌, ◌≤◌, ◌<◌, length}
use Rattle.std.specs.declared.option.Option as code
use Rattle.std.proofs.Math.Option.{Option, none, some}
use Rattle.pattern.specs.Numbers.{atom_limit, record_size}
use Rattle.pattern.specs.Bytes.{Bytes}
use Rattle.pattern.specs.Syntax.{body, Syntax}
use Rattle.pattern.specs.Table.{pool}
use Rattle.pattern.specs.Print.{double, print}
use Rattle.table.specs.Headers.{length_bound}
use Rattle.table.specs.Checked.{all_plain}
use Rattle.table.specs.declared.walk.Leaf.{Leaf}

-- the bytes of a literal's value with its quotes doubled, if it is plain
unfoldable pub text_of : Bytes → code.Option ℕ
text_of v = cond (all_plain v) (Some (length (double v))) None

abbrev pub leaf_bytes : (pool source : ℕ) → Leaf
leaf_bytes v w = record { pool = v; source = w }

unfoldable pub leaf_of : Option (Syntax body) → code.Option Leaf
leaf_of (some b) = Some (leaf_bytes (length (pool b)) (length (print b)))
leaf_of none = None

-- a leaf's bytes keep within the pool, and are few in the source
abbrev pub Short : Bytes → (A p : ℕ) → code.Option Leaf → Type 0
Short s A p (Some x) = (record_size * A + p + x.pool ≤ length s) × (x.source ≤ 2 * x.pool + 7)
Short s A p None = Unit {0}

-- where a leaf may be read
pub record LeafPre (s : Bytes) (A p : ℕ) : Type 0 where
  pub pool : record_size * A + p ≤ length s
  pub small : length s < length_bound
  pub few : A ≤ atom_limit

pub record LeafPost (s : Bytes) (A p : ℕ) (o : Option (Syntax body)) (x : code.Option Leaf) : Type 0 where
  pub short : Short s A p x
  pub reads : x ≡ leaf_of o
