-- What satisfies a pattern is a byte string, so what is exact over lists of numbers is exact over byte strings. Assumes nothing.
use mathlib.Core.Logic.{⊎_elim}
use mathlib.Core.List.{[], ◌∷◌, ◌++◌}
use Prim.Native.Nat.{ℕ, zero, suc, ◌<◌}
use native.Mathlib.Omega.{arith}
use lib.Dec.{leb}
use Rattle.pattern.specs.Bytes.{Bytes, between}
use Rattle.pattern.specs.Syntax.{Sort, Syntax, last, then, repeat, codes, literal, group, only, or}
use Rattle.pattern.specs.Meaning.{Cut, Power, Satisfies}
use Rattle.pattern.specs.Grammar.{Derives}
use Rattle.pattern.proofs.Tests.{and_both, leb_decides}
use Rattle.pattern.proofs.Printed.{Printable, quoted_printable}
use Rattle.stores.proofs.Little.{Octets}
use Rattle.summary.specs.Summary.{byte_count}
use Rattle.summary.proofs.ClassBytes.{set_small}

octets_append : (a b : Bytes) → Octets a → Octets b → Octets (a ++ b)
octets_append [] b f g k = g k
octets_append (x ∷ a) b f g zero = f 0
octets_append (x ∷ a) b f g (suc k) = octets_append a b (λ j. f (suc j)) g k

octets_cons : (b : ℕ) (s : Bytes) → b < byte_count → Octets s → Octets (b ∷ s)
octets_cons b s l f zero = l
octets_cons b s l f (suc k) = f k

octets_none : Octets []
octets_none k = omega arith

cut_bytes : {P Q : Bytes → Type 0} → ((s : Bytes) → P s → Octets s) → ((s : Bytes) → Q s → Octets s) → (s : Bytes) → Cut P Q s → Octets s
unfolding Cut
cut_bytes f g s (a, b, e, p, q) = rw e (octets_append a b (f a p) (g b q))

power_bytes : (P : Bytes → Type 0) → ((s : Bytes) → P s → Octets s) → (k : ℕ) (s : Bytes) → Power P k s → Octets s
unfolding Power
power_bytes P f zero s e = rw e octets_none
power_bytes P f (suc k) s d = cut_bytes f (power_bytes P f k) s d

printable_bytes : (v : Bytes) → Printable v → Octets v
unfolding Printable between
printable_bytes [] p = octets_none
printable_bytes (c ∷ v) (p, q) = octets_cons c v (omega (arith, (leb_decides c 126).sound (and_both (leb 32 c) (leb c 126) p).1)) (printable_bytes v q)

-- what satisfies a pattern that derives some source is a byte string
pub byte_strings : {o : Sort} (t : Syntax o) (source : Bytes) → Derives t source → (s : Bytes) → Satisfies t s → Octets s
unfolding Derives Satisfies Cut
byte_strings (last a) w x s h = byte_strings a w x s h
byte_strings (then a p) w (u, v, e, x, y) s h = cut_bytes (byte_strings a u x) (byte_strings p v y) s h
byte_strings (repeat low high b) w (u, v, e, x, y) s (k, l, m, d) = power_bytes (Satisfies b) (byte_strings b v y) k s d
byte_strings (codes set) w x s (b, e, t) = rw e (octets_cons b [] (set_small set b t) octets_none)
byte_strings (literal value) w (q, e, x) s h = rw h (printable_bytes value (quoted_printable x))
byte_strings (group bs) w (v, e, x) s h = byte_strings bs v x s h
byte_strings (only p) w x s h = byte_strings p w x s h
byte_strings (or p bs) w (u, v, e, x, y) s h = ⊎_elim (byte_strings p u x s) (byte_strings bs v y s) h
