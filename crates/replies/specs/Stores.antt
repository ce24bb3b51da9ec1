-- Lent bytes after a text of limited length is stored in them, and bytes that are zero. To be believed.
use Rattle.std.specs.Prelude.{◌≡◌, ℕ, ◌+◌, ◌≤◌, length, replicate}
use Rattle.pattern.specs.Bytes.{Bytes}
use Rattle.pattern.specs.Stores.{Puts}
use Rattle.replies.specs.Reply.{Reply}

-- every byte is zero
abbrev pub Zero : Bytes → Type 0
Zero s = s ≡ replicate (length s) 0

-- a text is stored from a place on, and ends at another, within so many bytes
pub record PutsWithin (room : ℕ) (text out : Bytes) (at : ℕ) (after : Bytes) (end : ℕ) : Type 0 where
  pub stores : Puts out at text after end
  pub short : end ≤ at + room

-- a reply is stored so, and scratch is what it says
pub record Replied (room : ℕ) (reply : Reply) (out : Bytes) (at : ℕ) (scratch' out' : Bytes) (end : ℕ) : Type 0 where
  pub within : PutsWithin room reply.text out at out' end
  pub works : scratch' ≡ reply.scratch
