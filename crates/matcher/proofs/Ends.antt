-- The parts, in plain values: the search for a last end, and the loop over the top-level atoms. Assumes nothing.
use mathlib.Core.Path.{◌≡◌, refl, sym, ap, ◌∙◌}
use mathlib.Core.Bool.{Bool, true, false, cond}
use mathlib.Core.List.{[], ◌++◌, append_assoc}
use Prim.Native.Nat.{ℕ, zero, suc, ◌+◌, ◌*◌, ◌-◌, ◌≤◌, ◌<◌}
use native.Mathlib.Omega.{arith}
use lib.ListN.{length}
use Rattle.pattern.specs.Bytes.{Bytes, le16, overwrite}
use Rattle.pattern.specs.Syntax.{pattern, atom, Syntax, last, then, size, top_size}
use Rattle.pattern.specs.Decision.{trial, decide}
use Rattle.pattern.specs.Parts.{longest, end, parts}
use Rattle.pattern.specs.Decode.{tree_of}
use Rattle.pattern.specs.Answers.{part_bytes}
use Rattle.pattern.specs.Stores.{Puts}
use Rattle.pattern.proofs.Stores.{store_at_overwrite, puts_none, puts_then, puts_length}
use Rattle.pattern.proofs.RoundTrip.{some_pattern}
use Rattle.pattern.proofs.Longest.{longest_le}
use Rattle.table.specs.declared.record.Record.{Record}
use Rattle.atoms.specs.Records.{RecordOf}
use Rattle.planes.specs.Cells.{Plane, Readable, on}
use Rattle.atoms.specs.Atoms.{atoms, node, head}
use Rattle.matcher.specs.WriteParts.{WritePartsPre, WritePartsPost}
use Rattle.atoms.proofs.Views.{node_first}
use Rattle.planes.proofs.Planes.{plane_on, plane_flags}
use Rattle.planes.proofs.Relations.{trial_same}
use Rattle.matcher.proofs.Groups.{work_room}

-- ---- the last end

module _ (p : ℕ → Bool) (i m : ℕ) where
  pub longest_none : m ≤ i → longest (suc m - i) p ≡ 0
  unfolding longest
  longest_none h = go (suc m - i) (omega arith)
    where
      same : (b : Bool) → ◌≡◌ {A = ℕ} (cond b 0 0) 0
      same true = refl
      same false = refl

      go : (c : ℕ) → c ≤ 1 → longest c p ≡ 0
      go zero h = refl
      go (suc zero) h = same (p 0)
      go (suc (suc c)) h = absurd (omega arith)

  module _ (h : i < m) where
    turn : suc m - i ≡ suc (m - i)
    turn = omega arith

    pub longest_hit : p (m - i) ≡ true → longest (suc m - i) p ≡ m - i
    unfolding longest
    longest_hit e = rw (turn, e)

    pub longest_miss : p (m - i) ≡ false → longest (suc m - i) p ≡ longest (suc (m - 1) - i) p
    unfolding longest
    longest_miss e = let z : suc (m - 1) - i ≡ m - i = omega arith in rw (turn, e, z)

longest_same : (p q : ℕ → Bool) (c : ℕ) → ((d : ℕ) → d < c → p d ≡ q d) → longest c p ≡ longest c q
unfolding longest
longest_same p q zero h = refl
longest_same p q (suc c) h = rw (h c (omega arith), longest_same p q c (λ d l. h d (omega arith)))

-- ---- the top-level atoms

-- `done` is written, and what is left begins with atom x at place i
pub record PartsAt (table label lent₀ lent : Bytes) (x i at : ℕ) : Type 0 where
  pub there : x < atoms table
  pub inner : i ≤ length label
  pub room : at + 2 * top_size (node table x) ≤ length lent₀
  pub done : Bytes
  pub puts : Puts lent₀ 0 done lent at
  pub left : part_bytes (parts label (tree_of table) 0) ≡ done ++ part_bytes (parts label (node table x) i)

some_top : (p : Syntax pattern) → 1 ≤ top_size p
unfolding top_size
some_top (last a) = omega arith
some_top (then a p) = omega arith

parts_last : (l : Bytes) (p : Syntax pattern) (a : Syntax atom) (i : ℕ) → p ≡ last a → (part_bytes (parts l p i) ≡ le16 (length l) []) × (top_size p ≡ 1)
unfolding parts part_bytes top_size
parts_last l p a i e = (ap (λ (q : Syntax pattern). part_bytes (parts l q i)) e, ap top_size e)

parts_then : (l : Bytes) (p : Syntax pattern) (a : Syntax atom) (q : Syntax pattern) (i : ℕ) → p ≡ then a q → (part_bytes (parts l p i) ≡ le16 (end l a q i) (part_bytes (parts l q (end l a q i)))) × (top_size p ≡ suc (top_size q))
unfolding parts part_bytes top_size
parts_then l p a q i e = (ap (λ (y : Syntax pattern). part_bytes (parts l y i)) e, ap top_size e)

module _ (table label s : Bytes) (w : ℕ) (lent₀ : Bytes) (ok : WritePartsPre table label s w lent₀) where
  pub parts_start : PartsAt table label lent₀ lent₀ 0 0 0
  parts_start = record {
    there = omega (arith, some_pattern (tree_of table));
    inner = omega arith;
    room = omega (arith, ok.fits, ap top_size (node_first table));
    done = [];
    puts = puts_none lent₀ 0;
    left = ap (λ (p : Syntax pattern). part_bytes (parts label p 0)) (sym (node_first table));
  }

  module _ (lent : Bytes) (x i at : ℕ) (inv : PartsAt table label lent₀ lent x i at) where
    pub parts_lent : at + 2 ≤ length lent
    parts_lent = omega (arith, inv.room, puts_length inv.puts, some_top (node table x))

    module _ (r : Record) (is : RecordOf table x r) where
      pub parts_end : r.ends ≡ 1 → (lent' : Bytes) (k : ℕ) → Puts lent at (le16 (length label) []) lent' k → WritePartsPost table label lent₀ lent'
      parts_end e lent' k got =
          let (l, n) = parts_last label _ _ i (is.is_last e) in
          let whole : part_bytes (parts label (tree_of table) 0) ≡ inv.done ++ le16 (length label) [] = inv.left ∙ ap (λ (y : Bytes). inv.done ++ y) l in
          let p = puts_then inv.puts got in
          record { written = p.bytes ∙ store_at_overwrite lent₀ (inv.done ++ le16 (length label) []) (omega (arith, p.next, got.next, parts_lent, puts_length inv.puts)) ∙ ap (λ (v : Bytes). overwrite v lent₀) (sym whole) }

      module _ (n : r.ends ≡ 1 → ⊥) (next : ℕ) (e : next ≡ x + size (head (node table x))) where
        then_is : node table x ≡ then (head (node table x)) (node table next)
        then_is = (is.is_followed n).is ∙ ap (λ (k : ℕ). then (head (node table x)) (node table k)) (sym e)

        pub parts_next : next < atoms table
        parts_next = rw e (is.is_followed n).there

        own : Plane s w (2 * x) (decide label (head (node table x)))
        own = ok.settled.own x (omega arith) inv.there

        rest : Plane s w (2 * next + 1) (decide label (node table next))
        rest = ok.settled.rest next (omega arith) parts_next

        pub parts_left : Readable s w (2 * x)
        parts_left = record { room = work_room ok.work (2 * x) (omega (arith, inv.there)); flags = plane_flags own }

        pub parts_right : Readable s w (2 * next + 1)
        parts_right = record { room = work_room ok.work (2 * next + 1) (omega (arith, parts_next)); flags = plane_flags rest }

        module _ (m : ℕ) (found : m ≡ i + longest (suc (length label) - i) (trial (on s w (2 * x)) (on s w (2 * next + 1)) i (length label))) where
          pub parts_in : m ≤ length label
          parts_in =
              let z : suc (length label) - i ≡ suc (length label - i) = omega (arith, inv.inner) in
              let y = rw z at found in
              omega (arith, inv.inner, longest_le (length label - i) (trial (on s w (2 * x)) (on s w (2 * next + 1)) i (length label)))

          end_is : m ≡ end label (head (node table x)) (node table next) i
          unfolding end
          end_is =
              let wide = ok.work.wide in
              found ∙ ap (λ (k : ℕ). i + k) (longest_same _ _ (suc (length label) - i) (trial_same w _ _ _ _ (plane_on own) (plane_on rest) i (length label) inv.inner (omega arith)))

          pub parts_step : (lent' : Bytes) (k : ℕ) → Puts lent at (le16 m []) lent' k → PartsAt table label lent₀ lent' next m k
          parts_step lent' k got =
              let (l, z) = parts_then label _ _ _ i then_is in
              let whole : part_bytes (parts label (node table x) i) ≡ le16 m (part_bytes (parts label (node table next) m)) = rw end_is l in
              record {
                there = parts_next;
                inner = parts_in;
                room = omega (arith, inv.room, got.next);
                done = inv.done ++ le16 m [];
                puts = puts_then inv.puts got;
                left = inv.left ∙ ap (λ (y : Bytes). inv.done ++ y) whole ∙ sym (append_assoc inv.done (le16 m []) _);
              }
