-- The records and the text of a tree, from those of its parts. Assumes nothing.
use mathlib.Core.Path.{◌≡◌, refl, sym, ap, ap₂, ◌∙◌}
use mathlib.Core.List.{List, [], ◌∷◌, ◌++◌}
use mathlib.Core.Option.{Option}
use Prim.Native.Nat.{ℕ, suc, ◌+◌}
use native.Mathlib.Omega.{arith}
use native.Mathlib.Numerals.{add-one}
use lib.ListN.{length, length-append}
use Rattle.pattern.specs.Numbers.{group_kind}
use Rattle.pattern.specs.Bytes.{Bytes}
use Rattle.pattern.specs.Syntax.{Sort, pattern, atom, body, branches, Syntax, last, then, repeat, group, only, or, size}
use Rattle.pattern.specs.Table.{pool, branch_count, Rec, kind_field, a_field, b_field, rec, records}
use Rattle.pattern.specs.Repeats.{repeat_of}
use Rattle.pattern.specs.declared.repeat.Repeat.{Repeat}
use Rattle.pattern.proofs.Records.{count_records}
use Rattle.pattern.specs.Stores.{store_at}
use Rattle.table.specs.Write.{rec_of, put_records}
use Rattle.table.proofs.Writing.{records_then, records_before}
use Rattle.compiler.specs.Readers.{Wrote}
use Rattle.pattern.proofs.Stores.{store_at_then}

-- of two trees one after the other
wrote_both : {o o₁ o₂ : Sort} (e f : ℕ) (x : Syntax o₁) (y : Syntax o₂) (t : Syntax o) (n p m q m' q' : ℕ) (recs recs₁ recs₂ text text₁ text₂ : Bytes)
    → size t ≡ size x + size y → pool t ≡ pool x ++ pool y → records 1 t n p ≡ records e x n p ++ records f y (n + size x) (p + length (pool x))
    → Wrote e x n p m q recs recs₁ text text₁ → Wrote f y m q m' q' recs₁ recs₂ text₁ text₂ → Wrote 1 t n p m' q' recs recs₂ text text₂
wrote_both e f x y t n p m q m' q' recs recs₁ recs₂ text text₁ text₂ z v r a b =
    let xs : List Rec = records e x n p in
    let ys : List Rec = records f y m q in
    let w : records 1 t n p ≡ xs ++ ys = r ∙ ap₂ (λ g h. xs ++ records f y g h) (sym a.atoms) (sym a.pooled) in
    record {
      atoms = omega (arith, a.atoms, b.atoms);
      pooled = omega (arith, a.pooled, b.pooled, ap length v, length-append (pool x) (pool y));
      recs_are = b.recs_are ∙ ap (λ l. put_records l m ys) a.recs_are ∙ records_then recs n m xs ys (omega (arith, a.atoms, count_records e x n p)) ∙ rw w;
      text_is = b.text_is ∙ ap (λ l. store_at l q (pool y)) a.text_is ∙ store_at_then text p q (pool x) (pool y) a.pooled ∙ rw v;
    }

-- of an atom and the pattern after it
pub wrote_then : (a : Syntax atom) (t : Syntax pattern) (n p m q m' q' : ℕ) (recs recs₁ recs₂ text text₁ text₂ : Bytes)
    → Wrote 0 a n p m q recs recs₁ text text₁ → Wrote 1 t m q m' q' recs₁ recs₂ text₁ text₂ → Wrote 1 (then a t) n p m' q' recs recs₂ text text₂
unfolding size pool records
wrote_then a t n p m q m' q' recs recs₁ recs₂ text text₁ text₂ x y = wrote_both 0 1 a t (then a t) n p m q m' q' recs recs₁ recs₂ text text₁ text₂ refl refl refl x y

-- of a branch and those after it
pub wrote_or : (t : Syntax pattern) (bs : Syntax branches) (n p m q m' q' : ℕ) (recs recs₁ recs₂ text text₁ text₂ : Bytes)
    → Wrote 1 t n p m q recs recs₁ text text₁ → Wrote 1 bs m q m' q' recs₁ recs₂ text₁ text₂ → Wrote 1 (or t bs) n p m' q' recs recs₂ text text₂
unfolding size pool records
wrote_or t bs n p m q m' q' recs recs₁ recs₂ text text₁ text₂ x y = wrote_both 1 1 t bs (or t bs) n p m q m' q' recs recs₁ recs₂ text text₁ text₂ refl refl refl x y

module _ (n p m q : ℕ) (recs recs' text text' : Bytes) where
  pub wrote_last : (a : Syntax atom) → Wrote 1 a n p m q recs recs' text text' → Wrote 1 (last a) n p m q recs recs' text text'
  unfolding size pool records
  wrote_last a x = record { atoms = x.atoms; pooled = x.pooled; recs_are = x.recs_are; text_is = x.text_is }

  pub wrote_only : (t : Syntax pattern) → Wrote 1 t n p m q recs recs' text text' → Wrote 1 (only t) n p m q recs recs' text text'
  unfolding size pool records
  wrote_only t x = record { atoms = x.atoms; pooled = x.pooled; recs_are = x.recs_are; text_is = x.text_is }

-- a pattern knows which of its atoms ends the branch
any_end : (e : ℕ) (t : Syntax pattern) (i p : ℕ) → records e t i p ≡ records 1 t i p
unfolding records
any_end e (last a) i p = refl
any_end e (then a t) i p = ap (λ l. records 0 a i p ++ l) (any_end e t (i + size a) (p + length (pool a)))

any_ends : (e : ℕ) (bs : Syntax branches) (i p : ℕ) → records e bs i p ≡ records 1 bs i p
unfolding records
any_ends e (only t) i p = any_end e t i p
any_ends e (or t bs) i p = ap₂ (λ k l. k ++ l) (any_end e t i p) (any_ends e bs (i + size t) (p + length (pool t)))

-- a leaf: its own record
pub wrote_leaf : (e low : ℕ) (high : Option ℕ) (b : Syntax body) (rep : Repeat) (n p m q : ℕ) (recs recs' text text' : Bytes)
    → ((f j i : ℕ) → records f b j i ≡ []) → size b ≡ 0 → rep ≡ repeat_of low high → m ≡ n + 1 → q ≡ p + length (pool b)
    → recs' ≡ put_records recs n (rec_of (kind_field b) e rep (a_field b p) (b_field b n) ∷ []) → text' ≡ store_at text p (pool b)
    → Wrote e (repeat low high b) n p m q recs recs' text text'
unfolding size pool records
wrote_leaf e low high b rep n p m q recs recs' text text' alone z f g h r t = record {
  atoms = omega (arith, z);
  pooled = h;
  recs_are = r ∙ rw (f, alone e (suc n) p);
  text_is = t;
}

-- a group: its record goes before those of its contents
pub wrote_group : (e low : ℕ) (high : Option ℕ) (bs : Syntax branches) (rep : Repeat) (c n p m q : ℕ) (recs recs₁ recs₂ text text' : Bytes)
    → rep ≡ repeat_of low high → c ≡ branch_count bs → Wrote 1 bs (n + 1) p m q recs recs₁ text text'
    → recs₂ ≡ put_records recs₁ n (rec_of group_kind e rep c m ∷ []) → Wrote e (repeat low high (group bs)) n p m q recs recs₂ text text'
unfolding size pool records kind_field a_field b_field
wrote_group e low high bs rep c n p m q recs recs₁ recs₂ text text' f g w r =
    let x : Rec = rec e low high (group bs) n p in
    let a : n + 1 ≡ suc n = add-one n in
    let z : m ≡ suc n + size bs = omega (arith, w.atoms) in
    let k : recs₁ ≡ put_records recs (suc n) (records 1 bs (suc n) p) = w.recs_are ∙ ap (λ i. put_records recs i (records 1 bs i p)) a in
    let v : recs₂ ≡ put_records recs₁ n (x ∷ []) = r ∙ rw (f, g, z) in
    record {
      atoms = omega (arith, w.atoms);
      pooled = w.pooled;
      recs_are = v ∙ ap (λ l. put_records l n (x ∷ [])) k ∙ records_before recs n (suc n) (x ∷ []) _ (sym a) ∙ rw (any_ends e bs (suc n) p);
      text_is = w.text_is;
    }
