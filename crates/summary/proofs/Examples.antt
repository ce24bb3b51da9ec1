-- Summaries of sources by computation, and of classes that are empty. Assumes nothing.
use mathlib.Core.Path.{◌≡◌, refl}
use mathlib.Core.Bool.{Bool, true, false}
use mathlib.Core.List.{List, [], ◌∷◌, map}
use mathlib.Core.Option.{none, some}
use Prim.Native.Nat.{ℕ}
use Rattle.pattern.specs.Bytes.{Bytes, bytes}
use Rattle.pattern.specs.Decision.{any}
use Rattle.pattern.specs.Scan.{Outcome, refused, accepted, outcome}
use Rattle.pattern.proofs.Computed.{computed}
use Rattle.summary.specs.Summary.{Summary, possible, of_class, of_literal, of_both, of_either, often, once, of_repeat, summary_of}

-- a source, the lengths of its summary, and of some bytes whether they can be first
pub record Example : Type 0 where
  pub source : Bytes
  pub shortest : ℕ
  pub longest : ℕ
  pub tried : Bytes
  pub first : List Bool

unfoldable pub examples : List Example
examples =
    record { source = bytes "3N1\".\"2N.U"; shortest = 6; longest = 256; tried = bytes "0.A"; first = true ∷ false ∷ false ∷ [] }
    ∷ record { source = bytes "1.6N1.2N"; shortest = 2; longest = 8; tried = bytes "09A"; first = true ∷ true ∷ false ∷ [] }
    ∷ record { source = bytes ".N.1U1\"x\""; shortest = 1; longest = 256; tried = bytes "0Axy"; first = true ∷ true ∷ true ∷ false ∷ [] }
    ∷ record { source = bytes "2(1N,1\"ab\")"; shortest = 2; longest = 4; tried = bytes "0ab"; first = true ∷ true ∷ false ∷ [] }
    ∷ record { source = bytes "9000(.N)"; shortest = 0; longest = 256; tried = bytes "0A"; first = true ∷ false ∷ [] }
    ∷ record { source = bytes ".\"\""; shortest = 0; longest = 0; tried = bytes "0"; first = false ∷ [] }
    ∷ record { source = bytes "300N"; shortest = 256; longest = 256; tried = bytes "0A"; first = true ∷ false ∷ [] }
    ∷ record { source = bytes "0N"; shortest = 0; longest = 0; tried = bytes "0"; first = false ∷ [] }
    ∷ record { source = bytes "0N255A"; shortest = 255; longest = 255; tried = bytes "0A"; first = false ∷ true ∷ [] }
    ∷ record { source = bytes "1E"; shortest = 1; longest = 1; tried = 0 ∷ 127 ∷ 255 ∷ []; first = true ∷ true ∷ true ∷ [] }
    ∷ []

-- what the summary of an accepted source says
unfoldable pub example : Bytes → Outcome → Bytes → Example
example s (refused f p) tried = record { source = s; shortest = 0; longest = 0; tried = tried; first = [] }
example s (accepted t) tried =
    let m : Summary = summary_of t in record { source = s; shortest = m.shortest; longest = m.longest; tried = tried; first = map m.first tried }

pub examples_hold : map (λ (x : Example). example x.source (outcome x.source) x.tried) examples ≡ examples
unfolding computed examples example possible of_class of_literal of_both of_either often once of_repeat summary_of
examples_hold = refl

-- ---- a class that no byte is of

abbrev empty : Summary
empty = of_class (λ b. false)

abbrev lengths : Summary → ℕ × ℕ
lengths m = (m.shortest, m.longest)

-- once, and before or after something else: nothing satisfies it
pub nothing_satisfies : map lengths (empty ∷ of_repeat 1 (some 1) empty ∷ of_both empty (of_literal (bytes "ab")) ∷ of_both (of_literal (bytes "ab")) empty ∷ of_either empty empty ∷ [])
    ≡ (256, 0) ∷ (256, 0) ∷ (256, 0) ∷ (256, 0) ∷ (256, 0) ∷ []
unfolding of_class any of_repeat often once of_both possible of_literal of_either bytes
nothing_satisfies = refl

-- never, at most once, any number of times: the empty string alone
pub only_empty : map lengths (of_repeat 0 (some 0) empty ∷ of_repeat 0 (some 1) empty ∷ of_repeat 0 none empty ∷ of_either empty (of_repeat 0 (some 0) empty) ∷ []) ≡ (0, 0) ∷ (0, 0) ∷ (0, 0) ∷ (0, 0) ∷ []
unfolding of_class any of_repeat often once of_either
only_empty = refl
