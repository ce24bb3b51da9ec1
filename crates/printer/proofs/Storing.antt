-- A run of stores that is under way. Assumes nothing.
use mathlib.Core.Path.{◌≡◌, refl, sym, ap, ◌∙◌}
use mathlib.Core.List.{[], ◌++◌, append_assoc, append-nil}
use Prim.Native.Nat.{ℕ, ◌+◌, ◌≤◌}
use native.Mathlib.Omega.{arith}
use lib.ListN.{length}
use Rattle.pattern.specs.Bytes.{Bytes}
use Rattle.pattern.specs.Stores.{Puts}
use Rattle.pattern.proofs.Stores.{puts_none, puts_then, puts_length, puts_room, puts_as}

-- of v, to be stored in l from n on, all but rest is stored
pub record Partly (l : Bytes) (n : ℕ) (v l' : Bytes) (m : ℕ) (rest : Bytes) : Type 0 where
  pub done : Bytes
  pub puts : Puts l n done l' m
  pub split : done ++ rest ≡ v

pub partly_start : (l : Bytes) (n : ℕ) (v : Bytes) → Partly l n v l n v
partly_start l n v = record { done = []; puts = puts_none l n; split = refl }

module _ {l : Bytes} {n : ℕ} {v l' : Bytes} {m : ℕ} where
  pub partly_as : {r q : Bytes} → r ≡ q → Partly l n v l' m r → Partly l n v l' m q
  partly_as e h = record { done = h.done; puts = h.puts; split = ap (λ (x : Bytes). h.done ++ x) (sym e) ∙ h.split }

  pub partly_then : (u r : Bytes) {l'' : Bytes} {k : ℕ} → Partly l n v l' m (u ++ r) → Puts l' m u l'' k → Partly l n v l'' k r
  partly_then u r h g =
      record { done = h.done ++ u; puts = puts_then h.puts g; split = append_assoc h.done u r ∙ h.split }

  pub partly_end : Partly l n v l' m [] → Puts l n v l' m
  partly_end h = puts_as h.puts (sym (append-nil h.done) ∙ h.split)

  pub partly_length : {r : Bytes} → Partly l n v l' m r → length l' ≡ length l
  partly_length h = puts_length h.puts

  pub partly_room : {r : Bytes} → Partly l n v l' m r → n + length v ≤ length l → m + length r ≤ length l'
  partly_room {r} h k = puts_room h.puts r (omega (arith, k, ap length h.split))

  pub partly_at : {r out : Bytes} {k : ℕ} → out ≡ l' → k ≡ m → Partly l n v l' m r → Partly l n v out k r
  partly_at {r} e f h = record { done = h.done; puts = record { bytes = e ∙ h.puts.bytes; next = f ∙ h.puts.next }; split = h.split }
