-- What a match means, on byte lists of any length. To be believed.
use Rattle.std.specs.Prelude.{◌≡◌, ◌⊎◌, [], ◌∷◌, ◌++◌, ℕ, zero, suc, ◌≤◌, T}
use Rattle.std.proofs.Math.Option.{Option, none, some}
use Rattle.pattern.specs.Bytes.{Bytes}
use Rattle.pattern.specs.Codes.{in_set}
use Rattle.pattern.specs.Syntax.{Sort, Syntax, last, then, repeat, codes, literal, group, only, or}

-- a list is cut into one that satisfies P and then one that satisfies Q
unfoldable pub Cut : (Bytes → Type 0) → (Bytes → Type 0) → Bytes → Type 0
Cut P Q s = (a : Bytes) × (b : Bytes) × (s ≡ a ++ b) × P a × Q b

-- a list is cut into k that satisfy P each
unfoldable pub Power : (Bytes → Type 0) → ℕ → Bytes → Type 0
Power P zero s = s ≡ []
Power P (suc k) s = Cut P (Power P k) s

-- k is not above the high number, if there is one
unfoldable pub UpTo : Option ℕ → ℕ → Type 0
UpTo none k = Unit {0}
UpTo (some high) k = k ≤ high

-- a list satisfies a pattern, an atom, a body or one of the branches
unfoldable pub Satisfies : {s : Sort} → Syntax s → Bytes → Type 0
Satisfies (last a) s = Satisfies a s
Satisfies (then a p) s = Cut (Satisfies a) (Satisfies p) s
Satisfies (repeat low high b) s = (k : ℕ) × (low ≤ k) × UpTo high k × Power (Satisfies b) k s
Satisfies (codes set) s = (b : ℕ) × (s ≡ b ∷ []) × T (in_set set b)
Satisfies (literal value) s = s ≡ value
Satisfies (group bs) s = Satisfies bs s
Satisfies (only p) s = Satisfies p s
Satisfies (or p bs) s = Satisfies p s ⊎ Satisfies bs s
