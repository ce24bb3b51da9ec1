-- Lent bytes after stores. To be believed.
use Rattle.std.specs.Prelude.{◌≡◌, ℕ, ◌+◌, length}
use Rattle.std.proofs.lemmas.List.Edits.{sets}
use Rattle.pattern.specs.Bytes.{Bytes}

-- lent bytes l with v stored from place n on
unfoldable pub store_at : (l : Bytes) (n : ℕ) (v : Bytes) → Bytes
store_at l n v = sets l n v

-- v was stored in l from n on, which gave l', and m is the place after it
pub record Puts (l : Bytes) (n : ℕ) (v l' : Bytes) (m : ℕ) : Type 0 where
  pub bytes : l' ≡ store_at l n v
  pub next : m ≡ n + length v
