-- Where the nodes of a part of a tree stand among the tree's nodes, and where their records: what a walk over a table asks for. Assumes nothing.
use mathlib.Core.Path.{◌≡◌, refl, sym, ap, subst, ◌∙◌}
use mathlib.Core.Logic.{⊎_elim}
use mathlib.Core.List.{List, [], ◌∷◌, ◌++◌, append_assoc, append-nil}
use Prim.Native.Nat.{ℕ, zero, suc, ◌+◌, ◌-◌, ◌≤◌, ◌<◌}
use native.Mathlib.Omega.{arith}
use lib.ListN.{length, drop, length-append}
use lib.Seq.{drop-drop, drop-append_seam, drop-append-le, drop-append-add}
use Rattle.pattern.specs.Versions.{Version, format}
use Rattle.pattern.specs.Bytes.{Bytes}
use Rattle.pattern.specs.Syntax.{Sort, pattern, atom, branches, Syntax, last, then, repeat, codes, literal, group, only, or, size, nodes}
use Rattle.pattern.specs.Table.{pool, records, encode_in}
use Rattle.pattern.specs.Decode.{Layout, layout}
use Rattle.pattern.proofs.Tests.{le_or_lt}
use Rattle.pattern.proofs.Bound.{outside, all_nodes, nodes_size}
use Rattle.pattern.proofs.Records.{Placed, tail_there, then_there, or_there}
use Rattle.pattern.proofs.RoundTrip.{encode_placed}

-- the list from place k on begins with the nodes of y
pub record At (xs : List (Syntax pattern)) (k : ℕ) {s : Sort} (y : Syntax s) : Type 0 where
  pub rest : List (Syntax pattern)
  pub from : drop k xs ≡ nodes y ++ rest

skip : (u v xs : List (Syntax pattern)) (k : ℕ) → drop k xs ≡ u ++ v → drop (k + length u) xs ≡ v
skip u v xs k e = sym (drop-drop (length u) k xs) ∙ ap (drop (length u)) e ∙ drop-append_seam u v

module _ {xs : List (Syntax pattern)} {k : ℕ} where
  -- an atom's body begins right after the atom
  pub at_atom : {a : Syntax atom} {p : Syntax pattern} → At xs k (then a p) → At xs (k + 1) a
  unfolding nodes
  at_atom {a} {p} h = record { rest = nodes p ++ h.rest; from = skip (then a p ∷ []) _ xs k (h.from ∙ rw append_assoc) }

  pub at_last : {a : Syntax atom} → At xs k (last a) → At xs (k + 1) a
  unfolding nodes
  at_last {a} h = record { rest = h.rest; from = skip (last a ∷ []) _ xs k h.from }

  -- the followers begin after the atom and its body
  pub at_next : {a : Syntax atom} {p : Syntax pattern} → At xs k (then a p) → At xs (k + suc (length (nodes a))) p
  unfolding nodes
  at_next {a} {p} h = record { rest = h.rest; from = skip (then a p ∷ nodes a) _ xs k (h.from ∙ rw append_assoc) }

  -- the first branch begins where the branches do, and the others after it
  pub at_branch : {p : Syntax pattern} {bs : Syntax branches} → At xs k (or p bs) → At xs k p × At xs (k + length (nodes p)) bs
  unfolding nodes
  at_branch {p} {bs} h =
      (record { rest = nodes bs ++ h.rest; from = h.from ∙ append_assoc (nodes p) (nodes bs) h.rest }, record { rest = h.rest; from = skip (nodes p) _ xs k (h.from ∙ append_assoc (nodes p) (nodes bs) h.rest) })

-- in a table of this layout the node at place k of the list has its records from index i + k on
module _ (s : Bytes) (l : Layout) where
  -- (the records of a pattern do not depend on ends)
  pub record Held (xs : List (Syntax pattern)) (i k : ℕ) : Type 0 where
    pub node : Syntax pattern
    pub ends : ℕ
    pub text : ℕ
    pub at : At xs k node
    pub placed : Placed s l ends node (i + k) text

  abbrev pub Hold : List (Syntax pattern) → ℕ → Type 0
  Hold xs i = (k : ℕ) → k < length xs → Held xs i k

  hold_append : (u v : List (Syntax pattern)) (i : ℕ) → Hold u i → Hold v (i + length u) → Hold (u ++ v) i
  hold_append u v i f g k h =
      ⊎_elim
      (λ c. let d : ℕ = k - length u in
      let e : k ≡ length u + d = omega arith in
      let n : i + length u + d ≡ i + k = omega arith in
      let a = g d (omega (arith, length-append u v)) in
      record {
        node = a.node;
        ends = a.ends;
        text = a.text;
        at = record { rest = a.at.rest; from = ap (λ t. drop t (u ++ v)) e ∙ drop-append-add u v d ∙ a.at.from };
        placed = subst (λ (j : ℕ). Placed s l a.ends a.node j a.text) n a.placed;
      })
      (λ c. let a = f k c in
      record {
        node = a.node;
        ends = a.ends;
        text = a.text;
        at = record { rest = a.at.rest ++ v; from = drop-append-le k u v (omega arith) ∙ ap (λ t. t ++ v) a.at.from ∙ append_assoc (nodes a.node) a.at.rest v };
        placed = a.placed;
      })
      (le_or_lt (length u) k)

  hold_cons : (e : ℕ) (x : Syntax pattern) (xs : List (Syntax pattern)) (i p : ℕ) → nodes x ≡ x ∷ xs → Placed s l e x i p → Hold xs (suc i) → Hold (x ∷ xs) i
  hold_cons e x xs i p q h f zero n =
      let z : i ≡ i + 0 = omega arith in
      record { node = x; ends = e; text = p; at = record { rest = []; from = sym q ∙ sym (append-nil (nodes x)) }; placed = subst (λ (j : ℕ). Placed s l e x j p) z h }
  hold_cons e x xs i p q h f (suc k) n =
      let a = f k (omega arith) in
      let z : suc i + k ≡ i + suc k = omega arith in
      record { node = a.node; ends = a.ends; text = a.text; at = record { rest = a.at.rest; from = a.at.from }; placed = subst (λ (j : ℕ). Placed s l a.ends a.node j a.text) z a.placed }

  held_from : {o : Sort} (t : Syntax o) (e i p : ℕ) → Placed s l e t i p → Hold (nodes t) (outside o + i)
  unfolding nodes records pool size outside
  held_from (last a) e i p h =
      let z : 0 + i ≡ i = omega arith in
      let y : 1 + i ≡ suc i = omega arith in
      subst (Hold (nodes (last a))) (sym z) (hold_cons e (last a) (nodes a) i p refl h (subst (Hold (nodes a)) y (held_from a 1 i p h)))
  held_from (then a q) e i p h =
      let (b, c) = then_there e a q h in
      let z : 0 + i ≡ i = omega arith in
      let y : 1 + i ≡ suc i = omega arith in
      let w : 0 + (i + size a) ≡ suc i + length (nodes a) = omega (arith, all_nodes a) in
      subst (Hold (nodes (then a q))) (sym z)
      (hold_cons e (then a q) (nodes a ++ nodes q) i p refl h
      (hold_append (nodes a) (nodes q) (suc i) (subst (Hold (nodes a)) y (held_from a 0 i p b)) (subst (Hold (nodes q)) w (held_from q e _ _ c))))
  held_from (repeat low high b) e i p h =
      let y : 0 + suc i ≡ 1 + i = omega arith in
      subst (Hold (nodes b)) y (held_from b e (suc i) p (tail_there h))
  held_from (codes set) e i p h = λ k n. absurd (omega arith)
  held_from (literal value) e i p h = λ k n. absurd (omega arith)
  held_from (group bs) e i p h = held_from bs e i p h
  held_from (only q) e i p h = held_from q e i p h
  held_from (or q bs) e i p h =
      let (b, c) = or_there e q bs h in
      let z : 0 + i ≡ i = omega arith in
      let w : 0 + (i + size q) ≡ i + length (nodes q) = omega (arith, all_nodes q) in
      subst (Hold (nodes (or q bs))) (sym z)
      (hold_append (nodes q) (nodes bs) i (subst (Hold (nodes q)) z (held_from q e i p b)) (subst (Hold (nodes bs)) w (held_from bs e _ _ c)))

-- records: node k of a tree has its record at index k of the tree's table, and its own nodes from place k on
pub held : (v : Version) (t : Syntax pattern) → size t ≤ (format v).atoms → (k : ℕ) → k < size t → Held (encode_in v t) (layout (encode_in v t)) (nodes t) 0 k
unfolding outside
held v t few k h = held_from (encode_in v t) (layout (encode_in v t)) t 1 0 0 (encode_placed v t few) k (omega (arith, nodes_size t))
