-- A tree within the limits. To be believed.
use Rattle.std.proofs.Math.Option.{Option, none, some}
use Rattle.std.specs.Prelude.{ℕ, suc, ◌≤◌, ◌<◌}
use Rattle.pattern.specs.Numbers.{atom_limit, depth_limit, number_limit, set_limit}
use Rattle.pattern.specs.Syntax.{Sort, pattern, Syntax, last, then, repeat, codes, literal, group, only, or, size}
use Rattle.pattern.specs.Meaning.{UpTo}

-- a second number, if there is one, is at most 9,999
unfoldable pub Small : Option ℕ → Type 0
Small none = Unit {0}
Small (some high) = high ≤ number_limit

-- the numbers of a count fit, and the second is not less than the first
abbrev pub Fits : ℕ → Option ℕ → Type 0
Fits low high = (low ≤ number_limit) × Small high × UpTo high low

-- no second number of a tree is less than its first
unfoldable pub Ordered : {s : Sort} → Syntax s → Type 0
Ordered (last a) = Ordered a
Ordered (then a p) = Ordered a × Ordered p
Ordered (repeat low high b) = UpTo high low × Ordered b
Ordered (codes set) = Unit {0}
Ordered (literal value) = Unit {0}
Ordered (group bs) = Ordered bs
Ordered (only p) = Ordered p
Ordered (or p bs) = Ordered p × Ordered bs

-- a tree that stands in d groups has good counts and codes, and its groups are not too deep
unfoldable pub InLimits : ℕ → {s : Sort} → Syntax s → Type 0
InLimits d (last a) = InLimits d a
InLimits d (then a p) = InLimits d a × InLimits d p
InLimits d (repeat low high b) = Fits low high × InLimits d b
InLimits d (codes set) = set < set_limit
InLimits d (literal value) = Unit {0}
InLimits d (group bs) = (d < depth_limit) × InLimits (suc d) bs
InLimits d (only p) = InLimits d p
InLimits d (or p bs) = InLimits d p × InLimits d bs

-- a pattern within the limits
pub record Limited (t : Syntax pattern) : Type 0 where
  pub tree : InLimits 0 t
  pub atoms : size t ≤ atom_limit
