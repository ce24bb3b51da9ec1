-- A match that nothing but the budget can refuse: what it asks, and how it ends. Private: a model for contracts inside the library.
use Rattle.std.specs.Prelude.{◌≡◌, ℕ, ◌*◌, ◌≤◌, length}
use Rattle.std.proofs.Math.Option.{none}
use Rattle.pattern.specs.Numbers.{label_limit}
use Rattle.pattern.specs.Bytes.{Bytes}
use Rattle.pattern.specs.Syntax.{top_size}
use Rattle.pattern.specs.Parts.{verdict}
use Rattle.pattern.specs.Trials.{trials}
use Rattle.pattern.specs.Decode.{tree_of}
use Rattle.pattern.specs.Answers.{scratch_needed, Ending, ending}
use Rattle.atoms.specs.Atoms.{GoodTable, atoms}

-- a good table with this many atoms, and a label and lent slices that fit it
pub record RunPre (table label scratch parts : Bytes) (count : ℕ) : Type 0 where
  pub good : GoodTable table
  pub counted : count ≡ atoms table
  pub short : length label ≤ label_limit
  pub room : scratch_needed (tree_of table) (length label) ≤ length scratch
  pub fits : 2 * top_size (tree_of table) ≤ length parts

-- how a match ends where 11 to 14 do not apply
abbrev pub unrefused : (table label : Bytes) → (budget : ℕ) → Ending
unrefused table label budget = ending none (scratch_needed (tree_of table) (length label)) (trials label (tree_of table)) budget (verdict label (tree_of table))
