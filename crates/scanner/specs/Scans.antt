-- The scan of a source from a place on. Private: a model for contracts inside the library.
use Rattle.std.specs.Prelude.{ℕ, drop}
use Rattle.pattern.specs.Bytes.{Bytes}
use Rattle.pattern.specs.Parser.{ParserState}
use Rattle.pattern.specs.Scan.{Outcome, scan}

abbrev pub scanned : Bytes → ParserState → (i n : ℕ) → Outcome
scanned s q i n = scan q i n (drop i s)
