-- A good tree stands in the records and the pool of a table, which follow its header. Assumes nothing.
use mathlib.Core.Path.{◌≡◌, sym, ap, ◌∙◌}
use mathlib.Core.Bool.{true}
use mathlib.Core.List.{List, ◌++◌, append_assoc}
use Prim.Native.Nat.{ℕ, ◌+◌, ◌*◌, ◌≤◌, ◌<◌}
use native.Mathlib.Omega.{arith}
use lib.ListN.{length}
use Rattle.pattern.specs.Numbers.{record_size}
use Rattle.pattern.specs.Bytes.{Bytes}
use Rattle.pattern.specs.Syntax.{Sort, Syntax, last, then, repeat, codes, literal, group, only, or, size}
use Rattle.pattern.specs.Within.{InLimits}
use Rattle.pattern.specs.Table.{pool, Rec, record_bytes}
use Rattle.pattern.specs.Decode.{Layout}
use Rattle.pattern.proofs.Records.{record_bytes_append, next_there, after_there, Stands, Placed}
use Rattle.table.specs.Checked.{payload_layout, all_plain}

-- sets have a code, and literals plain bytes
unfoldable pub Clean : {s : Sort} → Syntax s → Type 0
Clean (last a) = Clean a
Clean (then a p) = Clean a × Clean p
Clean (repeat low high b) = Clean b
Clean (codes set) = 0 < set
Clean (literal value) = all_plain value ≡ true
Clean (group bs) = Clean bs
Clean (only p) = Clean p
Clean (or p bs) = Clean p × Clean bs

-- the tree stands at atom i with p bytes of the pool before it, inside d groups, and ends within the records and the bytes; e is for an atom alone
pub record Set (s : Bytes) (A : ℕ) {o : Sort} (e : ℕ) (t : Syntax o) (i p d : ℕ) : Type 0 where
  pub placed : Placed s (payload_layout A) e t i p
  pub good : InLimits d t
  pub clean : Clean t
  pub within : i + size t ≤ A
  pub pooled : record_size * A + p + length (pool t) ≤ length s

-- two runs of records and of text, one after the other
pub both_placed : {s : Bytes} {l : Layout} {i p : ℕ} (xs ys : List Rec) (v w : Bytes) (n : ℕ) → length xs ≡ n → Stands s l i p xs v → Stands s l (i + n) (p + length v) ys w
    → Stands s l i p (xs ++ ys) (v ++ w)
both_placed {s} {l} {i} {p} xs ys v w n e f g =
    let a : l.records + record_size * (i + n) ≡ l.records + record_size * i + record_size * length xs = omega arith in
    let b : l.pool + (p + length v) ≡ l.pool + p + length v = omega arith in
    record {
      left = g.left;
      over = g.over;
      recs = f.recs ∙ ap (record_bytes xs) (sym (next_there s _ _ xs _ a f.recs) ∙ g.recs) ∙ sym (record_bytes_append xs ys g.left);
      text = f.text ∙ ap (λ (x : Bytes). v ++ x) (sym (after_there s _ _ v _ b f.text) ∙ g.text) ∙ sym (append_assoc v w g.over);
    }
