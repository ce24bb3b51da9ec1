-- Planes of w x w bytes, one after another in a list: cell (p, i, j) is the byte at (p * w + i) * w + j. A plane says twice of each stretch i to j whether it is in its relation, in row i and in row j, so that a search over ends runs along two rows. Private: a model for contracts inside the library.
use Rattle.std.specs.Prelude.{◌≡◌, Bool, cond, not, List, ℕ, ◌+◌, ◌*◌, ◌≤◌, ◌<◌, eqb, length, get_or, set}
use Rattle.pattern.specs.Decision.{Rel}

-- the index of a cell, and what stands there
abbrev pub cell_index : ℕ → ℕ → ℕ → ℕ → ℕ
cell_index w p i j = (p * w + i) * w + j

abbrev pub cell : List ℕ → ℕ → ℕ → ℕ → ℕ → ℕ
cell s w p i j = get_or s (cell_index w p i j) 0

-- the list has plane p whole
abbrev pub InRoom : List ℕ → ℕ → ℕ → Type 0
InRoom s w p = (p + 1) * w * w ≤ length s

abbrev pub bit_of : Bool → ℕ
bit_of b = cond b 1 0

-- the bytes with both cells of a stretch set to v
abbrev pub stretch_set : List ℕ → ℕ → ℕ → ℕ → ℕ → ℕ → List ℕ
stretch_set s w p i j v = set (set s (cell_index w p i j) v) (cell_index w p j i) v

-- plane p says b of the stretch i to j, by its begin and by its end
pub record Tells (s : List ℕ) (w p i j : ℕ) (b : Bool) : Type 0 where
  pub by_begin : cell s w p i j ≡ bit_of b
  pub by_end : cell s w p j i ≡ bit_of b

-- the relation that plane p holds of i and j: the cell is not 0
unfoldable pub on : List ℕ → ℕ → ℕ → Rel
on s w p i j = not (eqb (cell s w p i j) 0)

-- plane p holds the relation R: 1 where i to j is in it, else 0
pub record Plane (s : List ℕ) (w p : ℕ) (R : Rel) : Type 0 where
  pub holds : (i j : ℕ) → i ≤ j → j < w → Tells s w p i j (R i j)

-- plane p can be read: it lies in s whole, its cells are 0 or 1, and the two of a stretch agree
pub record Readable (s : List ℕ) (w p : ℕ) : Type 0 where
  pub room : InRoom s w p
  pub flags : Plane s w p (on s w p)

-- s' has every cell of s of which P holds, and every byte of s after N planes
pub record Kept (s s' : List ℕ) (w N : ℕ) (P : ℕ → ℕ → ℕ → Type 0) : Type 0 where
  pub same : (q i j : ℕ) → i < w → j < w → P q i j → cell s' w q i j ≡ cell s w q i j
  pub rest : (k : ℕ) → N * w * w ≤ k → get_or s' k 0 ≡ get_or s k 0

-- the cells of the planes other than p
abbrev pub Others : ℕ → ℕ → ℕ → ℕ → Type 0
Others p q i j = q ≡ p → ⊥
