-- A reply stored in lent bytes, and the longest texts of a refusal. Assumes nothing.
use mathlib.Core.Path.{◌≡◌, refl}
use mathlib.Core.List.{◌∷◌}
use Prim.Native.Nat.{ℕ, ◌^◌, ◌≤◌, ◌<◌}
use native.Mathlib.Omega.{arith}
use lib.ListN.{length, length-append}
use Rattle.pattern.specs.Bytes.{Bytes}
use Rattle.pattern.specs.Print.{decimal}
use Rattle.pattern.specs.Refusals.{number_of}
use Rattle.pattern.specs.declared.refusal.Refusal.{Refusal}
use Rattle.replies.specs.Sizes.{space_byte, refused_letter}
use Rattle.replies.specs.Rooms.{number_room, coded_room, refused_room}
use Rattle.replies.specs.Text.{coded_text, refused_text, unmatched_text}
use Rattle.replies.specs.Reply.{Reply}
use Rattle.pattern.specs.Stores.{Puts}
use Rattle.replies.specs.Stores.{PutsWithin, Replied}
use Rattle.pattern.proofs.Decimal.{decimal_short}
use Rattle.pattern.proofs.Refusals.{number_short}

-- what is stored is another reply if the two are the same
pub replied_same : {room : ℕ} {v w : Reply} {l s m : Bytes} {i j : ℕ} → v ≡ w → Replied room v l i s m j → Replied room w l i s m j
replied_same {room} {v} {w} {l} {s} {m} {i} {j} e r = rw e at r

-- a text with the scratch bytes that are there
pub replied : {room : ℕ} {v l s m : Bytes} {i j : ℕ} → PutsWithin room v l i m j → Replied room (record { text = v; scratch = s }) l i s m j
replied w = record { within = w; works = refl }

pub store_at_within : {v l m : Bytes} {i j : ℕ} (room : ℕ) → length v ≤ room → Puts l i v m j → PutsWithin room v l i m j
store_at_within room h s = record { stores = s; short = omega (arith, s.next) }

-- in more room
pub within_more : {room more : ℕ} {v l m : Bytes} {i j : ℕ} → room ≤ more → PutsWithin room v l i m j → PutsWithin more v l i m j
within_more h s = record { stores = s.stores; short = omega (arith, s.short) }

-- the longest texts of a refusal
pub unmatched_short : (r : Refusal) → length (unmatched_text (number_of r)) ≤ coded_room
unfolding unmatched_text coded_text
unmatched_short r = let n : ℕ = number_of r in let h = number_short r in omega (arith, decimal_short 19 n (omega (arith, h)))

pub refused_short : (n p : ℕ) → n < 10 ^ number_room → p < 10 ^ number_room → length (refused_text n p) ≤ refused_room
unfolding refused_text coded_text
refused_short n p h k = omega (arith, decimal_short 19 n h, decimal_short 19 p k, length-append (coded_text refused_letter n) (space_byte ∷ decimal p))
