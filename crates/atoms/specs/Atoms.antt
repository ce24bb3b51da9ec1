-- The atoms of a good table, by the index of their records. Private: a model for contracts inside the library.
use Rattle.std.specs.Prelude.{◌≡◌, ℕ, zero, suc, ◌+◌, ◌<◌, get_or}
use Rattle.std.proofs.Math.Option.{some}
use Rattle.pattern.specs.Bytes.{Bytes}
use Rattle.pattern.specs.Syntax.{pattern, atom, body, branches, Syntax, last, then, repeat, only, or, size, nodes}
use Rattle.pattern.specs.Decode.{dummy, tree_of, decode}

-- the table is good: its tree is what it is read as
pub record GoodTable (table : Bytes) : Type 0 where
  pub decoded : decode table ≡ some (tree_of table)

-- the paper's A
abbrev pub atoms : Bytes → ℕ
atoms table = size (tree_of table)

-- atom x with its followers
unfoldable pub node : Bytes → ℕ → Syntax pattern
node table x = get_or (nodes (tree_of table)) x (last dummy)

-- the branch that begins at atom x, and more branches after it
unfoldable pub branches_from : Bytes → (more x : ℕ) → Syntax branches
branches_from table zero x = only (node table x)
branches_from table (suc more) x = or (node table x) (branches_from table more (x + size (node table x)))

-- the first atom of a pattern, and the body of an atom
unfoldable pub head : Syntax pattern → Syntax atom
head (last a) = a
head (then a p) = a

unfoldable pub body_of : Syntax atom → Syntax body
body_of (repeat low high b) = b

-- a good table has an atom x
pub record AtomIn (table : Bytes) (x : ℕ) : Type 0 where
  pub good : GoodTable table
  pub there : x < atoms table
