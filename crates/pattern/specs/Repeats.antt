-- The repeat count that two 16-bit numbers stand for. Private: a model for contracts inside the library.
use Rattle.std.proofs.Math.Option.{Option}
use Rattle.std.specs.Prelude.{ℕ}
use Rattle.pattern.specs.Table.{high_field}
use Rattle.pattern.specs.declared.repeat.Repeat.{Repeat}

-- a low number, and a high one or 65,535 for no upper end
abbrev pub repeat_of : ℕ → Option ℕ → Repeat
repeat_of low high = record { low = low; high = high_field high }
