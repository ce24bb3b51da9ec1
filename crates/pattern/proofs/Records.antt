-- Where the records and the literals of a tree stand in its table. Assumes nothing.
use mathlib.Core.Path.{◌≡◌, refl, sym, ap, ap₂, ◌∙◌}
use mathlib.Core.List.{List, [], ◌∷◌, ◌++◌, append_assoc, append-nil}
use Prim.Native.Nat.{ℕ, suc, ◌+◌, ◌*◌, ◌/◌, ◌%◌}
use native.Mathlib.Omega.{arith}
use lib.ListN.{length, get_or, drop, length-append}
use lib.Seq.{drop-drop, get_or-drop, drop-append_seam}
use Rattle.pattern.specs.Numbers.{record_size}
use Rattle.pattern.specs.Bytes.{Bytes}
use Rattle.pattern.specs.Syntax.{Sort, pattern, atom, branches, Syntax, last, then, repeat, codes, literal, group, only, or, size}
use Rattle.pattern.specs.Table.{pool, Rec, records, record_bytes}
use Rattle.pattern.specs.Decode.{field, rec_at, Layout, record_at}

pub record_bytes_append : (xs ys : List Rec) (s : Bytes) → record_bytes (xs ++ ys) s ≡ record_bytes xs (record_bytes ys s)
unfolding record_bytes
record_bytes_append [] ys s = refl
record_bytes_append (r ∷ xs) ys s = rw (record_bytes_append xs ys s)

drop_record_bytes : (xs : List Rec) (x : Bytes) → drop (record_size * length xs) (record_bytes xs x) ≡ x
unfolding record_bytes
drop_record_bytes [] x = refl
drop_record_bytes (r ∷ xs) x =
    let n : record_size * suc (length xs) ≡ 10 + record_size * length xs = omega arith in
    ap (λ k. drop k (record_bytes (r ∷ xs) x)) n ∙ sym (drop-drop (record_size * length xs) 10 (record_bytes (r ∷ xs) x)) ∙ drop_record_bytes xs x

pub length_record_bytes : (xs : List Rec) (x : Bytes) → length (record_bytes xs x) ≡ record_size * length xs + length x
unfolding record_bytes
length_record_bytes [] x = omega arith
length_record_bytes (r ∷ xs) x = omega (arith, length_record_bytes xs x)

-- a tree has a record for each atom
pub count_records : {o : Sort} (e : ℕ) (t : Syntax o) (i p : ℕ) → length (records e t i p) ≡ size t
unfolding records size
count_records e (last a) i p = count_records 1 a i p
count_records e (then a q) i p = length-append (records 0 a i p) _ ∙ ap₂ (λ x y. x + y) (count_records 0 a i p) (count_records e q _ _)
count_records e (repeat low high b) i p = ap suc (count_records e b (suc i) p)
count_records e (codes set) i p = refl
count_records e (literal value) i p = refl
count_records e (group bs) i p = count_records e bs i p
count_records e (only q) i p = count_records e q i p
count_records e (or q bs) i p = length-append (records e q i p) _ ∙ ap₂ (λ x y. x + y) (count_records e q i p) (count_records e bs _ _)

module _ (s : Bytes) where
  -- a record's fields stand at its place
  rec_there : (at : ℕ) (r : Rec) (rs : List Rec) (x : Bytes) → drop at s ≡ record_bytes (r ∷ rs) x → rec_at s at ≡ r
  unfolding record_bytes
  rec_there at r rs x e =
      let g : (k : ℕ) → get_or s (at + k) 0 ≡ get_or (record_bytes (r ∷ rs) x) k 0 = λ k. sym (get_or-drop at s k 0) ∙ ap (λ l. get_or l k 0) e in
      let w : (k y : ℕ) → get_or s (at + k) 0 ≡ y % 256 → get_or s (at + suc k) 0 ≡ y / 256 → field s (at + k) ≡ y =
      λ k y lo hi. let n : at + k + 1 ≡ at + suc k = omega arith in let m : get_or s (at + k + 1) 0 ≡ y / 256 = ap (λ j. get_or s j 0) n ∙ hi in omega (arith, lo, m) in
      let z : at + 0 ≡ at = omega arith in
      λ j. record {
        kind = (ap (λ k. get_or s k 0) (sym z) ∙ g 0) j;
        ends = g 1 j;
        low = w 2 r.low (g 2) (g 3) j;
        high = w 4 r.high (g 4) (g 5) j;
        a = w 6 r.a (g 6) (g 7) j;
        b = w 8 r.b (g 8) (g 9) j;
      }

  pub next_there : (at next : ℕ) (xs : List Rec) (x : Bytes) → next ≡ at + record_size * length xs → drop at s ≡ record_bytes xs x → drop next s ≡ x
  next_there at next xs x n e = ap (λ k. drop k s) n ∙ sym (drop-drop (record_size * length xs) at s) ∙ ap (drop (record_size * length xs)) e ∙ drop_record_bytes xs x

  pub after_there : (at next : ℕ) (v x : Bytes) → next ≡ at + length v → drop at s ≡ v ++ x → drop next s ≡ x
  after_there at next v x n e = ap (λ k. drop k s) n ∙ sym (drop-drop (length v) at s) ∙ ap (drop (length v)) e ∙ drop-append_seam v x

-- in a table of this layout these records begin at index i, and this text at p in the pool
pub record Stands (s : Bytes) (l : Layout) (i p : ℕ) (xs : List Rec) (v : Bytes) : Type 0 where
  pub left : Bytes
  pub over : Bytes
  pub recs : drop (l.records + record_size * i) s ≡ record_bytes xs left
  pub text : drop (l.pool + p) s ≡ v ++ over

-- a tree stands there; e is for an atom alone
abbrev pub Placed : Bytes → Layout → {o : Sort} → ℕ → Syntax o → (i p : ℕ) → Type 0
Placed s l e t i p = Stands s l i p (records e t i p) (pool t)

-- a pattern whose records begin the records, and whose pool follows them
pub placed_first : {s : Bytes} {l : Layout} (t : Syntax pattern) → l.pool + 0 ≡ l.records + record_size * 0 + record_size * length (records 1 t 0 0)
    → drop (l.records + record_size * 0) s ≡ record_bytes (records 1 t 0 0) (pool t) → Placed s l 1 t 0 0
placed_first {s} t n e = record { left = pool t; over = []; recs = e; text = next_there s _ _ (records 1 t 0 0) (pool t) n e ∙ sym (append-nil (pool t)) }

module _ {s : Bytes} {l : Layout} {i p : ℕ} where
  -- the first record
  pub head_there : {x : Rec} {xs : List Rec} {v : Bytes} → Stands s l i p (x ∷ xs) v → record_at s l i ≡ x
  head_there {x} {xs} h = rec_there s _ x xs _ h.recs

  -- the records after the first one
  pub tail_there : {x : Rec} {xs : List Rec} {v : Bytes} → Stands s l i p (x ∷ xs) v → Stands s l (suc i) p xs v
  tail_there {x} {xs} h =
      let n : l.records + record_size * suc i ≡ l.records + record_size * i + record_size * length (x ∷ []) = omega arith in
      record { left = h.left; over = h.over; recs = next_there s _ _ (x ∷ []) _ n (h.recs ∙ record_bytes_append (x ∷ []) xs h.left); text = h.text }

  -- two runs of records and of text, one after the other
  pub both_there : (xs ys : List Rec) (v w : Bytes) (n : ℕ) → length xs ≡ n → Stands s l i p (xs ++ ys) (v ++ w) → Stands s l i p xs v × Stands s l (i + n) (p + length v) ys w
  both_there xs ys v w n e h =
      let r : drop (l.records + record_size * i) s ≡ record_bytes xs (record_bytes ys h.left) = h.recs ∙ record_bytes_append xs ys h.left in
      let t : drop (l.pool + p) s ≡ v ++ (w ++ h.over) = h.text ∙ append_assoc v w h.over in
      let a : l.records + record_size * (i + n) ≡ l.records + record_size * i + record_size * length xs = omega arith in
      let b : l.pool + (p + length v) ≡ l.pool + p + length v = omega arith in (
        record { left = record_bytes ys h.left; over = w ++ h.over; recs = r; text = t },
        record { left = h.left; over = h.over; recs = next_there s _ _ xs _ a r; text = after_there s _ _ v _ b t },
      )

  pub then_there : (e : ℕ) (a : Syntax atom) (q : Syntax pattern) → Placed s l e (then a q) i p → Placed s l 0 a i p × Placed s l e q (i + size a) (p + length (pool a))
  unfolding records pool
  then_there e a q h = both_there (records 0 a i p) (records e q _ _) (pool a) (pool q) (size a) (count_records 0 a i p) h

  pub or_there : (e : ℕ) (q : Syntax pattern) (bs : Syntax branches) → Placed s l e (or q bs) i p → Placed s l e q i p × Placed s l e bs (i + size q) (p + length (pool q))
  unfolding records pool
  or_there e q bs h = both_there (records e q i p) (records e bs _ _) (pool q) (pool bs) (size q) (count_records e q i p) h
