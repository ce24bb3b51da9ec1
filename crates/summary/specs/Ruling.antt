-- Whether a summary rules out a label, by its bytes. Private: a model for contracts inside the library.
use Rattle.std.specs.Prelude.{◌≡◌, Bool, take}
use Rattle.pattern.specs.Bytes.{Bytes}
use Rattle.summary.specs.Summary.{Summary, summary_bytes, summary_size, rules_out}

-- whatever summary has these bytes
pub record RulesOut (summary label : Bytes) (r : Bool) : Type 0 where
  pub by : (m : Summary) → take summary_size summary ≡ summary_bytes m → r ≡ rules_out m label
