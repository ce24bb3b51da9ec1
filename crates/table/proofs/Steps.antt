-- The steps of the walk: what each answer of the code says of the checked reading. Assumes nothing.
use mathlib.Core.Path.{◌≡◌, refl, sym, ap, ap₂, ◌∙◌}
use mathlib.Core.Bool.{true, false}
use mathlib.Core.Option.{Option, none, some}
use mathlib.Core.List.{[], ◌∷◌, ◌++◌}
use Prim.Native.Nat.{ℕ, zero, suc, ◌+◌, ◌-◌, ◌<◌, ◌≤◌, pred}
use native.Mathlib.Numerals.{add-one}
use native.Mathlib.Omega.{arith}
use lib.Dec.{ltb, eqb}
use lib.ListN.{length, length-append}
use borrow.Author.Tests.{lt-ltb, le-ltb, eq-eqb, ne_eqb}
use Rattle.std.specs.Prelude.{Some, None}
use Rattle.std.proofs.lemmas.Option.{none-some}
use Rattle.pattern.specs.Numbers.{depth_limit, opening_byte, closing_byte, comma_byte, group_kind}
use Rattle.pattern.specs.Bytes.{Bytes}
use Rattle.pattern.specs.Syntax.{Sort, pattern, body, branches, Syntax, then, repeat, group, or, size, top_size}
use Rattle.pattern.specs.Table.{pool}
use Rattle.pattern.specs.Print.{print_count, print}
use Rattle.pattern.specs.Decode.{high_of}
use Rattle.table.specs.Fields.{record_of}
use Rattle.table.specs.Checked.{payload_record, ordered, bind, only_if, choose, leaf as leaf_read, closed_group, read_pattern, read_atom, read_branches}
use Rattle.table.specs.Leaves.{leaf_bytes, leaf_of}
use Rattle.table.specs.Walk.{Passed, Walked, place, beyond, passed_by, walked_by, reach}
use Rattle.table.specs.declared.record.Record.{Record}
use Rattle.table.specs.declared.walk.Leaf.{Leaf}
use Rattle.table.specs.declared.walk.Place.{Place}
use Rattle.table.proofs.Options.{kept, dropped, first, second, going_on, stopped}
use Rattle.table.proofs.Complete.{by_record}
use Rattle.table.proofs.Moves.{byte_on, leaf_on, bracket_on}
use Rattle.table.proofs.Leafing.{no_atoms}

-- ---- what an answer says

place_eq : {a b c x y z : ℕ} → a ≡ x → b ≡ y → c ≡ z → place a b c ≡ place x y z
place_eq e f g = λ j. place (e j) (f j) (g j)

to_some : {k : Sort} (at : Place) (o : Option (Syntax k)) (e : Place) → Some e ≡ passed_by at o → (t : Syntax k) × (o ≡ some t) × (e ≡ beyond at t)
unfolding passed_by
to_some at (some t) e q = (t, refl, cc)
to_some at none e q = absurd (none-some _ (sym q))

bad_none : {k : Sort} (at : Place) (o : Option (Syntax k)) → None ≡ passed_by at o → o ≡ none
unfolding passed_by
bad_none at (some t) q = absurd (none-some _ q)
bad_none at none q = refl

pub walked_some : (at : Place) (o : Option (Syntax pattern)) (e : Place) {n : ℕ} → Some (e, n) ≡ walked_by at o → (t : Syntax pattern) × (o ≡ some t) × (e ≡ beyond at t) × (n ≡ top_size t)
unfolding walked_by
walked_some at (some t) e {n} q =
    let p : ◌≡◌ {A = Place × ℕ} (e, n) (beyond at t, top_size t) = cc in
    (t, refl, ap (λ (x : Place × ℕ). x.0) p, ap (λ (x : Place × ℕ). x.1) p)
walked_some at none e q = absurd (none-some _ (sym q))

pub walked_none : (at : Place) (o : Option (Syntax pattern)) → None ≡ walked_by at o → o ≡ none
unfolding walked_by
walked_none at (some t) q = absurd (none-some _ q)
walked_none at none q = refl

leaf_some : (o : Option (Syntax body)) {x : Leaf} → Some x ≡ leaf_of o → (b : Syntax body) × (o ≡ some b) × (x ≡ leaf_bytes (length (pool b)) (length (print b)))
unfolding leaf_of
leaf_some (some b) q = (b, refl, cc)
leaf_some none q = absurd (none-some _ (sym q))

leaf_none : (o : Option (Syntax body)) → None ≡ leaf_of o → o ≡ none
unfolding leaf_of
leaf_none (some b) q = absurd (none-some _ q)
leaf_none none q = refl

-- ---- the promises, for any bound on the depth of calls that is large enough

abbrev pub AtomReads : Bytes → ℕ → Place → ℕ → Passed → Type 0
AtomReads s A at d x = (f : ℕ) → reach A at < f → x ≡ passed_by at (read_atom s A f at.atom at.pool d)

abbrev pub PatternReads : Bytes → ℕ → Place → ℕ → Walked → Type 0
PatternReads s A at d x = (f : ℕ) → reach A at + 1 < f → x ≡ walked_by at (read_pattern s A f at.atom at.pool d)

abbrev pub GroupReads : Bytes → ℕ → Place → ℕ → ℕ → Passed → Type 0
GroupReads s A at d k x = (f : ℕ) → reach A at + 2 < f → x ≡ passed_by at (read_branches s A f k at.atom at.pool d)

module _ (s : Bytes) (A : ℕ) (at : Place) (d : ℕ) where
  -- ---- a pattern

  pub pattern_none : AtomReads s A at d None → PatternReads s A at d None
  unfolding read_pattern walked_by
  pattern_none r zero n = absurd (omega arith)
  pattern_none r (suc f) n = sym (ap (walked_by at) (stopped _ _ (bad_none at _ (r f (omega arith)))))

  pub pattern_last : (next : Place) → AtomReads s A at d (Some next) → (payload_record s at.atom).ends ≡ 1 → PatternReads s A at d (Some (next, 1))
  unfolding read_pattern walked_by size pool print top_size
  pattern_last next r e zero n = absurd (omega arith)
  pattern_last next r e (suc f) n =
      let (a, o, q) = to_some at _ next (r f (omega arith)) in
      ap (λ x. Some (x, 1)) q ∙ sym (ap (walked_by at) (going_on _ _ o ∙ first _ _ _ (eq-eqb _ _ e)))

  pub pattern_other : (next : Place) → AtomReads s A at d (Some next) → ((payload_record s at.atom).ends ≡ 1 → ⊥) → ((payload_record s at.atom).ends ≡ 0 → ⊥)
      → PatternReads s A at d None
  unfolding read_pattern walked_by
  pattern_other next r e g zero n = absurd (omega arith)
  pattern_other next r e g (suc f) n =
      let (a, o, q) = to_some at _ next (r f (omega arith)) in
      sym (ap (walked_by at) (going_on _ _ o ∙ second _ _ _ (ne_eqb _ _ e) ∙ dropped _ _ (ne_eqb _ _ g)))

  module _ (next : Place) (r : AtomReads s A at d (Some next)) (on : at.atom < next.atom) (in_table : next.atom ≤ A)
      (e : (payload_record s at.atom).ends ≡ 0) where
    not_last : (payload_record s at.atom).ends ≡ 1 → ⊥
    not_last g = omega (arith, e, g)

    pub then_none : PatternReads s A next d None → PatternReads s A at d None
    unfolding read_pattern walked_by
    then_none w zero n = absurd (omega arith)
    then_none w (suc f) n =
        let (a, o, q) = to_some at _ next (r f (omega arith)) in
        let v = walked_none next _ (w f (omega arith)) in
        let v2 = ap (λ (x : Place). read_pattern s A f x.atom x.pool d) (sym q) ∙ v in
        sym (ap (walked_by at) (going_on _ _ o ∙ second _ _ _ (ne_eqb _ _ not_last) ∙ kept _ _ (eq-eqb _ _ e) ∙ stopped _ _ v2))

    pub then_more : (dest : Place) {n : ℕ} → PatternReads s A next d (Some (dest, n)) → PatternReads s A at d (Some (dest, 1 + n))
    unfolding read_pattern walked_by size pool print top_size
    then_more dest w zero n = absurd (omega arith)
    then_more dest {n = m} w (suc f) n =
        let (a, o, q) = to_some at _ next (r f (omega arith)) in
        let (t, v, u, k) = walked_some next _ dest (w f (omega arith)) in
        let v2 = ap (λ (x : Place). read_pattern s A f x.atom x.pool d) (sym q) ∙ v in
        let u2 = u ∙ ap (λ (x : Place). beyond x t) q in
        let z : beyond (beyond at a) t ≡ beyond at (then a t) =
        place_eq (omega arith) (omega (arith, length-append (pool a) (pool t))) (omega (arith, length-append (print a) (print t))) in
        let k2 : 1 + m ≡ suc (top_size t) = omega (arith, k) in
        ap₂ (λ x k. Some (x, k)) (u2 ∙ z) k2
        ∙ sym (ap (walked_by at) (going_on _ _ o ∙ second _ _ _ (ne_eqb _ _ not_last) ∙ kept _ _ (eq-eqb _ _ e) ∙ going_on _ _ v2))

  -- ---- an atom

  pub atom_over : A ≤ at.atom → AtomReads s A at d None
  unfolding read_pattern passed_by
  atom_over e zero n = absurd (omega arith)
  atom_over e (suc f) n = sym (ap (passed_by at) (dropped _ _ (le-ltb _ _ e)))

  module _ (r : Record) (same : r ≡ record_of (payload_record s at.atom)) (on : at.atom < A) where
    -- the model at the record that the code has read
    by_fields : (f : ℕ) → read_atom s A (suc f) at.atom at.pool d ≡ by_record s A f r at.atom at.pool d
    unfolding read_pattern
    by_fields f = ap (λ (x : Record). by_record s A f x at.atom at.pool d) (sym same)

    pub atom_unordered : ordered r.low r.high ≡ false → AtomReads s A at d None
    unfolding passed_by
    atom_unordered e zero n = absurd (omega arith)
    atom_unordered e (suc f) n = sym (ap (passed_by at) (by_fields f ∙ kept _ _ (lt-ltb _ _ on) ∙ dropped _ _ e))

    module _ (o : ordered r.low r.high ≡ true) where
      abbrev body-read : ℕ → Option (Syntax body)
      body-read f =
          choose (eqb r.kind 3)
          (only_if (ltb d depth_limit) (bind (read_branches s A f r.a (suc at.atom) at.pool (suc d)) (closed_group s A r.b at.atom)))
          (leaf_read s A r.kind r.a r.b at.pool)

      no_body : (f : ℕ) → body-read f ≡ none → None ≡ passed_by at (read_atom s A (suc f) at.atom at.pool d)
      unfolding passed_by
      no_body f e = sym (ap (passed_by at) (by_fields f ∙ kept _ _ (lt-ltb _ _ on) ∙ kept _ _ o ∙ stopped _ _ e))

      some_body : (f : ℕ) (b : Syntax body) → body-read f ≡ some b → (dest : Place) → dest ≡ beyond at (repeat r.low (high_of r.high) b)
          → Some dest ≡ passed_by at (read_atom s A (suc f) at.atom at.pool d)
      unfolding passed_by
      some_body f b e dest u = ap Some u ∙ sym (ap (passed_by at) (by_fields f ∙ kept _ _ (lt-ltb _ _ on) ∙ kept _ _ o ∙ going_on _ _ e))

      -- ---- a leaf

      pub atom_leafless : (r.kind ≡ group_kind → ⊥) → None ≡ leaf_of (leaf_read s A r.kind r.a r.b at.pool) → AtomReads s A at d None
      atom_leafless k e zero n = absurd (omega arith)
      atom_leafless k e (suc f) n = no_body f (second _ _ _ (ne_eqb _ _ k) ∙ leaf_none _ e)

      pub atom_leaf : (c : ℕ) (x : Leaf) → c ≡ length (print_count r.low (high_of r.high)) → (r.kind ≡ group_kind → ⊥) → Some x ≡ leaf_of (leaf_read s A r.kind r.a r.b at.pool)
          → AtomReads s A at d (Some (leaf_on at c x.pool x.source))
      unfolding size pool print
      atom_leaf c x g k e zero n = absurd (omega arith)
      atom_leaf c x g k e (suc f) n =
          let (b, q, y) = leaf_some _ e in
          let v = ap (λ (l : Leaf). l.pool) y in
          let w = ap (λ (l : Leaf). l.source) y in
          let m = no_atoms s A r.kind r.a r.b at.pool b q in
          some_body f b (second _ _ _ (ne_eqb _ _ k) ∙ q) _
          (place_eq (omega (arith, m)) (omega (arith, v)) (omega (arith, g, w, length-append (print_count r.low (high_of r.high)) (print b))))

      -- ---- a group

      module _ (k : r.kind ≡ group_kind) where
        pub atom_deep : depth_limit ≤ d → AtomReads s A at d None
        atom_deep e zero n = absurd (omega arith)
        atom_deep e (suc f) n = no_body f (first _ _ _ (eq-eqb _ _ k) ∙ dropped _ _ (le-ltb _ _ e))

        module _ (c : ℕ) (g : c ≡ length (print_count r.low (high_of r.high))) (shallow : d < depth_limit) where
          -- the branches, as the model has them
          as_read : (f : ℕ) (x : Option (Syntax branches)) → read_branches s A f r.a (at.atom + 1) at.pool (d + 1) ≡ x
              → read_branches s A f r.a (suc at.atom) at.pool (suc d) ≡ x
          as_read f x e = ap₂ (λ i d. read_branches s A f r.a i at.pool d) (sym (add-one at.atom)) (sym (add-one d)) ∙ e

          pub group_none : GroupReads s A (bracket_on at c) (d + 1) r.a None → AtomReads s A at d None
          group_none w zero n = absurd (omega arith)
          group_none w (suc f) n =
              no_body f (first _ _ _ (eq-eqb _ _ k) ∙ kept _ _ (lt-ltb _ _ shallow) ∙ stopped _ _ (as_read f _ (bad_none (bracket_on at c) _ (w f (omega arith)))))

          pub group_apart : (dest : Place) → GroupReads s A (bracket_on at c) (d + 1) r.a (Some dest) → (dest.atom ≡ r.b → ⊥) → AtomReads s A at d None
          unfolding closed_group
          group_apart dest w e zero n = absurd (omega arith)
          group_apart dest w e (suc f) n =
              let (bs, q, u) = to_some (bracket_on at c) _ dest (w f (omega arith)) in
              let u2 = ap (λ (x : Place). x.atom) u in
              no_body f (first _ _ _ (eq-eqb _ _ k) ∙ kept _ _ (lt-ltb _ _ shallow) ∙ going_on _ _ (as_read f _ q) ∙ dropped _ _ (ne_eqb (suc at.atom + size bs) r.b (λ z. e (omega (arith, u2, z)))))

          pub group_closed : (dest : Place) → GroupReads s A (bracket_on at c) (d + 1) r.a (Some dest) → dest.atom ≡ r.b
              → AtomReads s A at d (Some (byte_on dest))
          unfolding closed_group size pool print
          group_closed dest w e zero n = absurd (omega arith)
          group_closed dest w e (suc f) n =
              let (bs, q, u) = to_some (bracket_on at c) _ dest (w f (omega arith)) in
              let u1 = ap (λ (x : Place). x.atom) u in
              let u2 = ap (λ (x : Place). x.pool) u in
              let u3 = ap (λ (x : Place). x.source) u in
              some_body f (group bs)
              (first _ _ _ (eq-eqb _ _ k) ∙ kept _ _ (lt-ltb _ _ shallow) ∙ going_on _ _ (as_read f _ q) ∙ kept _ _ (eq-eqb (suc at.atom + size bs) r.b (omega (arith, u1, e))))
              _
              (place_eq (omega (arith, u1)) u2 (omega (arith, u3, g, length-append (print_count r.low (high_of r.high)) (opening_byte ∷ print bs ++ (closing_byte ∷ [])), length-append (opening_byte ∷ print bs) (closing_byte ∷ []))))

  -- ---- branches

  pub branches_none : (k : ℕ) → k ≡ 0 → GroupReads s A at d k None
  unfolding read_pattern passed_by
  branches_none k e zero n = absurd (omega arith)
  branches_none k e (suc f) n = sym (ap (passed_by at) (dropped _ _ (le-ltb 0 k (omega arith))))

  module _ (k : ℕ) (some_left : k ≡ 0 → ⊥) where
    more_left : 0 < k
    more_left = omega arith

    pub branch_none : PatternReads s A at d None → GroupReads s A at d k None
    unfolding read_pattern passed_by
    branch_none w zero n = absurd (omega arith)
    branch_none w (suc f) n = sym (ap (passed_by at) (kept _ _ (lt-ltb 0 k more_left) ∙ stopped _ _ (walked_none at _ (w f (omega arith)))))

    pub branch_only : (next : Place) {m : ℕ} → PatternReads s A at d (Some (next, m)) → k ≡ 1 → GroupReads s A at d k (Some next)
    unfolding read_pattern passed_by size pool print
    branch_only next w e zero n = absurd (omega arith)
    branch_only next w e (suc f) n =
        let (t, v, u, z) = walked_some at _ next (w f (omega arith)) in
        ap Some u ∙ sym (ap (passed_by at) (kept _ _ (lt-ltb 0 k more_left) ∙ going_on _ _ v ∙ first _ _ _ (eq-eqb _ _ e)))

    module _ (next : Place) {m : ℕ} (w : PatternReads s A at d (Some (next, m))) (on : at.atom < next.atom) (in_table : next.atom ≤ A) (e : k ≡ 1 → ⊥) where
      as_left : (f : ℕ) (t : Syntax pattern) (x : Option (Syntax branches)) → next ≡ beyond at t → read_branches s A f (k - 1) next.atom next.pool d ≡ x
          → read_branches s A f (pred k) (at.atom + size t) (at.pool + length (pool t)) d ≡ x
      as_left f t x u q =
          let z : pred k ≡ k - 1 = omega arith in
          ap₂ (λ (y : Place) j. read_branches s A f j y.atom y.pool d) (sym u) z ∙ q

      branches_bad : GroupReads s A (byte_on next) d (k - 1) None → GroupReads s A at d k None
      unfolding read_pattern passed_by
      branches_bad x zero n = absurd (omega arith)
      branches_bad x (suc f) n =
          let (t, v, u, z) = walked_some at _ next (w f (omega arith)) in
          sym (ap (passed_by at) (kept _ _ (lt-ltb 0 k more_left) ∙ going_on _ _ v ∙ second _ _ _ (ne_eqb _ _ e) ∙ stopped _ _ (as_left f t _ u (bad_none (byte_on next) (read_branches s A f (k - 1) next.atom next.pool d) (x f (omega arith))))))

      branches_more : (dest : Place) → GroupReads s A (byte_on next) d (k - 1) (Some dest) → GroupReads s A at d k (Some dest)
      unfolding read_pattern passed_by size pool print
      branches_more dest x zero n = absurd (omega arith)
      branches_more dest x (suc f) n =
          let (t, v, u, z) = walked_some at _ next (w f (omega arith)) in
          let (bs, q, y) = to_some (byte_on next) (read_branches s A f (k - 1) next.atom next.pool d) dest (x f (omega arith)) in
          let y2 = y ∙ ap (λ (p : Place). beyond {o = branches} (byte_on p) bs) u in
          let l : beyond {o = branches} (byte_on (beyond at t)) bs ≡ beyond at (or t bs) =
          place_eq (omega arith) (omega (arith, length-append (pool t) (pool bs))) (omega (arith, length-append (print t) (comma_byte ∷ print bs))) in
          ap Some (y2 ∙ l)
          ∙ sym (ap (passed_by at) (kept _ _ (lt-ltb 0 k more_left) ∙ going_on _ _ v ∙ second _ _ _ (ne_eqb _ _ e) ∙ going_on _ _ (as_left f t _ u q)))

      pub branches_on : (x : Passed) → GroupReads s A (byte_on next) d (k - 1) x → GroupReads s A at d k x
      branches_on (Some dest) g = branches_more dest g
      branches_on None g = branches_bad g
