-- The cases of a leaf. Assumes nothing.
use mathlib.Core.Path.{◌≡◌, sym, ap, ap₂, ◌∙◌}
use mathlib.Core.Logic.{⊎_elim}
use mathlib.Core.Bool.{true, false}
use mathlib.Core.Option.{some}
use mathlib.Core.List.{[], ◌∷◌, ◌++◌}
use Prim.Native.Nat.{ℕ, suc, ◌+◌, ◌*◌, ◌<◌, ◌≤◌}
use native.Mathlib.Omega.{arith}
use lib.Dec.{ltb}
use lib.ListN.{length, take, drop, length-take, length-drop, length-append}
use borrow.Author.Tests.{le-leb, lt-leb, eq-eqb, ne_eqb, ltb-true}
use Rattle.std.specs.Prelude.{Some, None}
use Rattle.std.proofs.lemmas.Option.{cond_some}
use Rattle.pattern.specs.Numbers.{record_size, set_limit, quote_byte, codes_kind, literal_kind}
use Rattle.pattern.specs.Bytes.{Bytes}
use Rattle.pattern.specs.Codes.{all_codes}
use Rattle.pattern.specs.Syntax.{body, Syntax, size}
use Rattle.pattern.specs.Table.{pool}
use Rattle.pattern.specs.Print.{print_set, double, print}
use Rattle.table.specs.Checked.{all_plain, a_set, codes_leaf, text_leaf, leaf as leaf_read}
use Rattle.table.specs.Leaves.{leaf_bytes, text_of, leaf_of}
use Rattle.table.proofs.Options.{cond_none, inside, only_some, choose_some, kept, dropped, first, second, and_true}
use Rattle.table.proofs.Measures.{double_length}

-- what an answer on a literal says
text_is : (v : Bytes) (n : ℕ) → Some n ≡ text_of v → (all_plain v ≡ true) × (n ≡ length (double v))
unfolding text_of
text_is v n e = let (a, b) = cond_some (all_plain v) (length (double v)) n (sym e) in (a, sym b)

text_not : (v : Bytes) → None ≡ text_of v → all_plain v ≡ false
unfolding text_of
text_not v e = cond_none (all_plain v) (length (double v)) e

pub small_set : (a : ℕ) → a_set a ≡ true → a < set_limit
unfolding a_set
small_set a e = ltb-true _ _ (and_true (ltb 0 a) (ltb a set_limit) e).1

module _ (a b : ℕ) where
  pub codes_on : (n : ℕ) → a_set a ≡ true → b ≡ 0 → n ≡ length (print_set all_codes a) → Some (leaf_bytes 0 n) ≡ leaf_of (codes_leaf a b)
  unfolding leaf_of pool print
  codes_on n e f g = ap (λ x. Some (leaf_bytes 0 x)) g ∙ sym (ap leaf_of (kept _ _ e ∙ kept _ _ (eq-eqb b 0 f)))

  pub codes_more : a_set a ≡ true → (b ≡ 0 → ⊥) → None ≡ leaf_of (codes_leaf a b)
  unfolding leaf_of
  codes_more e f = sym (ap leaf_of (kept _ _ e ∙ dropped _ _ (ne_eqb b 0 f)))

  pub codes_off : a_set a ≡ false → None ≡ leaf_of (codes_leaf a b)
  unfolding leaf_of
  codes_off e = sym (ap leaf_of (dropped _ _ e))

module _ (s : Bytes) (A a b p : ℕ) where
  pub text_apart : (a ≡ p → ⊥) → None ≡ leaf_of (text_leaf s A a b p)
  unfolding leaf_of
  text_apart e = sym (ap leaf_of (dropped _ _ (ne_eqb a p e)))

  pub text_past : a ≡ p → length s < record_size * A + p + b → None ≡ leaf_of (text_leaf s A a b p)
  unfolding leaf_of
  text_past e f = sym (ap leaf_of (kept _ _ (eq-eqb a p e) ∙ dropped _ _ (lt-leb (record_size * A + p + b) (length s) f)))

  pub text_bad : (k : ℕ) → a ≡ p → record_size * A + p + b ≤ length s → k ≡ b → None ≡ text_of (take k (drop (record_size * A + p) s)) → None ≡ leaf_of (text_leaf s A a b p)
  unfolding leaf_of
  text_bad k e f g t =
      let n = text_not _ (t ∙ ap (λ j. text_of (take j (drop (record_size * A + p) s))) g) in
      sym (ap leaf_of (kept _ _ (eq-eqb a p e) ∙ kept _ _ (le-leb (record_size * A + p + b) (length s) f) ∙ dropped _ _ n))

  pub text_good : (k n : ℕ) → a ≡ p → record_size * A + p + b ≤ length s → k ≡ b → Some n ≡ text_of (take k (drop (record_size * A + p) s))
      → (Some (leaf_bytes b (n + 2)) ≡ leaf_of (text_leaf s A a b p)) × (n ≤ 2 * b)
  unfolding leaf_of pool print
  text_good k n e f g t =
      let v = take b (drop (record_size * A + p) s) in
      let (y, z) = text_is v n (t ∙ ap (λ j. text_of (take j (drop (record_size * A + p) s))) g) in
      let m : length v ≡ b = length-take b (drop (record_size * A + p) s) ∙ omega (arith, length-drop (record_size * A + p) s) in
      let o : n + 2 ≡ suc (length (double v ++ quote_byte ∷ [])) = omega (arith, z, length-append (double v) (quote_byte ∷ [])) in
      (ap₂ (λ x y. Some (leaf_bytes x y)) (sym m) o ∙ sym (ap leaf_of (kept _ _ (eq-eqb a p e) ∙ kept _ _ (le-leb (record_size * A + p + b) (length s) f) ∙ kept _ _ y)), omega (arith, z, double_length v, m))

-- a leaf by its kind
module _ (s : Bytes) (A kind a b p : ℕ) where
  pub leaf_one : kind ≡ codes_kind → leaf_of (codes_leaf a b) ≡ leaf_of (leaf_read s A kind a b p)
  unfolding leaf_read
  leaf_one e = sym (ap leaf_of (first _ _ _ (eq-eqb kind 1 e)))

  pub leaf_two : (kind ≡ codes_kind → ⊥) → kind ≡ literal_kind → leaf_of (text_leaf s A a b p) ≡ leaf_of (leaf_read s A kind a b p)
  unfolding leaf_read
  leaf_two n e = sym (ap leaf_of (second _ _ _ (ne_eqb kind 1 n) ∙ kept _ _ (eq-eqb kind 2 e)))

  pub leaf_other : (kind ≡ codes_kind → ⊥) → (kind ≡ literal_kind → ⊥) → None ≡ leaf_of (leaf_read s A kind a b p)
  unfolding leaf_read leaf_of
  leaf_other n m = sym (ap leaf_of (second _ _ _ (ne_eqb kind 1 n) ∙ dropped _ _ (ne_eqb kind 2 m)))

  -- a leaf has no atoms inside
  pub no_atoms : (x : Syntax body) → leaf_read s A kind a b p ≡ some x → size x ≡ 0
  unfolding leaf_read size
  no_atoms x e =
      ⊎_elim
      (λ (k, g). let (y, g1) = only_some _ _ g in
      let (z, g2) = only_some _ _ g1 in
      ap (λ (x : Syntax body). size x) (sym (inside g2)))
      (λ (k, g). let (y, g1) = only_some _ _ g in
      let (z, g2) = only_some _ _ g1 in
      let (u, g3) = only_some _ _ g2 in
      let (v, g4) = only_some _ _ g3 in
      ap (λ (x : Syntax body). size x) (sym (inside g4)))
      (choose_some _ _ _ e)
