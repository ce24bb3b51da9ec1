-- The reply to a line, by its length and its first tab. Assumes nothing.
use mathlib.Core.Path.{◌≡◌, sym, ap, ◌∙◌}
use Prim.Native.Nat.{ℕ, ◌+◌, ◌-◌, ◌≤◌, ◌<◌}
use native.Mathlib.Numerals.{add-one}
use native.Mathlib.Omega.{arith}
use lib.ListN.{length, take, drop, length-drop}
use lib.Seq.{take_all}
use borrow.Author.Tests.{lt-ltb, le-ltb}
use Rattle.pattern.specs.Bytes.{Bytes, bytes}
use Rattle.pattern.proofs.Tests.{if_true, if_false}
use Rattle.replies.specs.Sizes.{line_limit, tab_byte}
use Rattle.replies.specs.Reply.{index_of, cut_at, cut, Reply, source_reply, cut_reply, reply}

module _ (line scratch : Bytes) where
  -- a reply that leaves scratch as it was
  abbrev unmoved : Bytes → Reply
  unmoved v = record { text = v; scratch = scratch }

  pub long_reply : line_limit < length line → unmoved (bytes "L") ≡ reply line scratch
  unfolding reply bytes
  long_reply h = sym (if_true _ _ _ (lt-ltb _ _ h))

  module _ (h : length line ≤ line_limit) (k : ℕ) (e : k ≡ index_of tab_byte line) where
    short_reply : cut_reply (cut_at k line) scratch ≡ reply line scratch
    unfolding reply cut
    short_reply = ap (λ i. cut_reply (cut_at i line) scratch) e ∙ sym (if_false _ _ _ (le-ltb _ _ h))

    pub whole_reply : length line ≤ k → unmoved (bytes "T") ≡ reply line scratch
    unfolding cut_at cut_reply bytes
    whole_reply l = sym (ap (λ c. cut_reply c scratch) (if_false _ _ _ (le-ltb k (length line) l))) ∙ short_reply

    pub cut_replied : k < length line → source_reply (take k line) (take (length line - (k + 1)) (drop (k + 1) line)) scratch ≡ reply line scratch
    unfolding cut_at cut_reply
    cut_replied l =
        ap (λ x. source_reply (take k line) x scratch) (take_all (length line - (k + 1)) (drop (k + 1) line) (omega (arith, length-drop (k + 1) line)))
        ∙ ap (λ i. source_reply (take k line) (drop i line) scratch) (add-one k) ∙ sym (ap (λ c. cut_reply c scratch) (if_true _ _ _ (lt-ltb k (length line) l))) ∙ short_reply
