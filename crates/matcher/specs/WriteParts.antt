-- What writing the parts asks and promises. Private: a model for contracts inside the library.
use Rattle.std.specs.Prelude.{◌≡◌, ℕ, ◌*◌, ◌≤◌, length}
use Rattle.pattern.specs.Bytes.{Bytes, overwrite}
use Rattle.pattern.specs.Syntax.{top_size}
use Rattle.pattern.specs.Parts.{parts}
use Rattle.pattern.specs.Decode.{tree_of}
use Rattle.pattern.specs.Answers.{part_bytes}
use Rattle.matcher.specs.Settled.{StepPre, Settled}

pub record WritePartsPre (table label s : Bytes) (w : ℕ) (lent : Bytes) : Type 0 where
  pub work : StepPre table label s w
  pub settled : Settled table label s w 0
  pub fits : 2 * top_size (tree_of table) ≤ length lent

pub record WritePartsPost (table label lent lent' : Bytes) : Type 0 where
  pub written : lent' ≡ overwrite (part_bytes (parts label (tree_of table) 0)) lent
