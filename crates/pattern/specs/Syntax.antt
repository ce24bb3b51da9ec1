-- The syntax of a pattern, as a tree. To be believed.
use Rattle.std.specs.Prelude.{List, [], ◌∷◌, ◌++◌, ℕ, suc, ◌+◌}
use Rattle.std.proofs.Math.Option.{Option}
use Rattle.pattern.specs.Bytes.{Bytes}

-- what a tree stands for
pub data Sort : Type 0 where
  pattern atom body branches : Sort

-- a pattern, which a branch is too, is one or more atoms; an atom is a repeat count, whose high number may be missing, and a body
pub data Syntax : Sort → Type 0 where
  last : Syntax atom → Syntax pattern
  then : Syntax atom → Syntax pattern → Syntax pattern
  repeat : (low : ℕ) (high : Option ℕ) → Syntax body → Syntax atom
  codes : (set : ℕ) → Syntax body
  literal : (value : Bytes) → Syntax body
  group : Syntax branches → Syntax body
  only : Syntax pattern → Syntax branches
  or : Syntax pattern → Syntax branches → Syntax branches

-- the number of atoms, groups counted: the paper's A
unfoldable pub size : {s : Sort} → Syntax s → ℕ
size (last a) = size a
size (then a p) = size a + size p
size (repeat low high b) = suc (size b)
size (codes set) = 0
size (literal value) = 0
size (group bs) = size bs
size (only p) = size p
size (or p bs) = size p + size bs

-- the number of top-level atoms: the paper's T
unfoldable pub top_size : Syntax pattern → ℕ
top_size (last a) = 1
top_size (then a p) = suc (top_size p)

-- the atoms of a tree in source order, each with what follows it in its branch
unfoldable pub nodes : {s : Sort} → Syntax s → List (Syntax pattern)
nodes (last a) = last a ∷ nodes a
nodes (then a p) = then a p ∷ (nodes a ++ nodes p)
nodes (repeat low high b) = nodes b
nodes (codes set) = []
nodes (literal value) = []
nodes (group bs) = nodes bs
nodes (only p) = nodes p
nodes (or p bs) = nodes p ++ nodes bs
