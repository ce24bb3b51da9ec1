-- Plain maps: what they keep, and how long it is. Assumes nothing.
use mathlib.Core.Path.{◌≡◌, refl, sym, ap, subst, ◌∙◌}
use mathlib.Core.Logic.{◌⊎◌, inl, inr}
use mathlib.Core.Bool.{Bool, true, false, ◌||◌}
use mathlib.Core.List.{[], ◌∷◌, ◌++◌, append_assoc}
use mathlib.Core.Option.{Option, none, some}
use Prim.Native.Nat.{ℕ, zero, suc, ◌+◌, ◌*◌, ◌≤◌, ◌<◌}
use native.Mathlib.Omega.{arith}
use borrow.Author.Tests.{eqb-true}
use lib.Dec.{T, eqb, eqb→eq}
use lib.ListN.{length, take, drop, set, replicate, length-append, length-set, length-replicate}
use lib.Seq.{split_at, set_split, get_or-set_same, get_or-set_other, take-suc}
use Rattle.pattern.specs.Versions.{table_room}
use Rattle.pattern.specs.Bytes.{Bytes}
use Rattle.pattern.specs.Syntax.{pattern, Syntax}
use Rattle.pattern.specs.Decode.{version_of, decode}
use Rattle.pattern.proofs.Tests.{true-T}
use Rattle.pattern.proofs.Calls.{print_compiles}
use Rattle.pattern.proofs.RoundTrip.{encode_length}
use Rattle.pattern.proofs.Rooms.{good_fits}
use Rattle.std.proofs.lemmas.List.{nil_from_length}
use Rattle.register.specs.Maps.{numbers, Map, table_of, empty, tables, total, is_table, missing}
use Rattle.register.specs.Layout.{allowed, Proper, table_count}

-- each table is none or a good one
abbrev pub AllAllowed : Map → Type 0
AllAllowed m = (k : ℕ) → allowed (table_of m k) ≡ true

-- ---- tables are short

table_short : (t : Bytes) → is_table t ≡ true → length t ≤ table_room
unfolding is_table
table_short t = go (decode t) refl
  where
    go : (o : Option (Syntax pattern)) → decode t ≡ o → (elim o [ none ↦ false | some _ ↦ true ]) ≡ true → length t ≤ table_room
    go none d e = absurd (true-T false e)
    go (some x) d e = good_fits t x d

pub allowed_short : (t : Bytes) → allowed t ≡ true → length t ≤ table_room
unfolding allowed
allowed_short t e = go (eqb (length t) 0) refl
  where
    go : (b : Bool) → eqb (length t) 0 ≡ b → length t ≤ table_room
    go true f = omega (arith, eqb→eq (length t) 0 (true-T _ f))
    go false f = table_short t (ap (λ (x : Bool). x || is_table t) (sym f) ∙ e)

-- no bytes are no table, so a number has one just where it isn't missing
pub no_bytes_no_tree : decode [] ≡ none
no_bytes_no_tree = go (decode []) refl
  where
    go : (o : Option (Syntax pattern)) → decode [] ≡ o → o ≡ none
    go none d = refl
    go (some x) d = absurd (omega (arith, ap length (print_compiles [] x d).whole, encode_length (version_of []) x))

pub missing_tree : (t : Bytes) → length t ≡ 0 → decode t ≡ none
missing_tree t z = ap decode (nil_from_length t z) ∙ no_bytes_no_tree

pub no_bytes_no_table : is_table [] ≡ false
unfolding is_table
no_bytes_no_table = ap (λ (o : Option (Syntax pattern)). elim o [ none ↦ false | some _ ↦ true ]) no_bytes_no_tree

pub there_is_table : (m : Map) → Proper m → (k : ℕ) → missing m k ≡ false → is_table (table_of m k) ≡ true
unfolding allowed
there_is_table m p k h = ap (λ (x : Bool). x || is_table (table_of m k)) (sym h) ∙ p.each k

-- what is allowed is none or a good one
pub table_cases : (t : Bytes) → allowed t ≡ true → (length t ≡ 0) ⊎ ((p : Syntax pattern) × (decode t ≡ some p))
unfolding allowed is_table
table_cases t a = go (eqb (length t) 0) refl a
  where
    there : (o : Option (Syntax pattern)) → decode t ≡ o → (elim o [ none ↦ false | some _ ↦ true ]) ≡ true → (p : Syntax pattern) × (decode t ≡ some p)
    there none e a = absurd (subst T (sym a) tt)
    there (some p) e a = (p, e)

    go : (b : Bool) → eqb (length t) 0 ≡ b → b || is_table t ≡ true → (length t ≡ 0) ⊎ ((p : Syntax pattern) × (decode t ≡ some p))
    go true e a = inl (eqb-true _ _ e)
    go false e a = inr (there (decode t) refl a)

-- ---- maps that are changed

pub none_allowed : allowed [] ≡ true
unfolding allowed
none_allowed = refl

pub table_allowed : (t : Bytes) → is_table t ≡ true → allowed t ≡ true
unfolding allowed
table_allowed t e = go (eqb (length t) 0)
  where
    go : (b : Bool) → (b || is_table t) ≡ true
    go true = refl
    go false = e

allowed_set : (m : Map) (k : ℕ) (t : Bytes) → AllAllowed m → allowed t ≡ true → AllAllowed (set m k t)
allowed_set [] k t f h j = f j
allowed_set (x ∷ m) zero t f h zero = h
allowed_set (x ∷ m) zero t f h (suc j) = f (suc j)
allowed_set (x ∷ m) (suc k) t f h zero = f zero
allowed_set (x ∷ m) (suc k) t f h (suc j) = allowed_set m k t (λ i. f (suc i)) h j

pub proper_set : (m : Map) (k : ℕ) (t : Bytes) → Proper m → allowed t ≡ true → Proper (set m k t)
proper_set m k t p h = record { count = length-set m k t ∙ p.count; each = allowed_set m k t p.each h }

-- an empty map has no tables, a stored one is found again, and every other is what it was
pub empty_none : (k : ℕ) → table_of empty k ≡ []
unfolding empty
empty_none = none_there numbers
  where
    none_there : (n k : ℕ) → table_of (replicate n []) k ≡ []
    none_there zero k = refl
    none_there (suc n) zero = refl
    none_there (suc n) (suc k) = none_there n k

pub proper_empty : Proper empty
unfolding empty
proper_empty = record { count = length-replicate {A = Bytes} numbers []; each = λ k. ap allowed (empty_none k) ∙ none_allowed }

pub stored_found : (m : Map) (k : ℕ) (t : Bytes) → k < length m → table_of (set m k t) k ≡ t
stored_found m k t h = get_or-set_same m k t [] h

pub others_stay : (m : Map) (k j : ℕ) (t : Bytes) → (j ≡ k → ⊥) → table_of (set m k t) j ≡ table_of m j
others_stay m k j t n = get_or-set_other m k j t [] n

-- ---- how long the tables are

pub tables_append : (m n : Map) → tables (m ++ n) ≡ tables m ++ tables n
unfolding tables
tables_append [] n = refl
tables_append (t ∷ m) n = rw (tables_append m n, append_assoc)

pub total_append : (m n : Map) → total (m ++ n) ≡ total m + total n
total_append m n = ap length (tables_append m n) ∙ length-append (tables m) (tables n)

-- the tables up to a number
pub total_suc : (m : Map) (k : ℕ) → k < length m → total (take (suc k) m) ≡ total (take k m) + length (table_of m k)
unfolding tables
total_suc m k h =
    let e : total (take (suc k) m) ≡ total (take k m ++ table_of m k ∷ []) = ap total (take-suc m k [] h) in
    omega (arith, e, total_append (take k m) (table_of m k ∷ []), length-append (table_of m k) [])

-- the tables before a number's, its own, and those after it
module _ (m : Map) (k : ℕ) (there : k < length m) where
  pub tables_split : tables m ≡ tables (take k m) ++ (table_of m k ++ tables (drop (suc k) m))
  unfolding tables
  tables_split = ap tables (split_at m k [] there) ∙ tables_append (take k m) (table_of m k ∷ drop (suc k) m)

  pub tables_set : (t : Bytes) → tables (set m k t) ≡ tables (take k m) ++ (t ++ tables (drop (suc k) m))
  unfolding tables
  tables_set t = ap tables (set_split m k t there) ∙ tables_append (take k m) (t ∷ drop (suc k) m)

  pub total_split : total m ≡ total (take k m) + (length (table_of m k) + total (drop (suc k) m))
  total_split = ap length tables_split ∙ length-append (tables (take k m)) (table_of m k ++ tables (drop (suc k) m)) ∙ ap (λ n. total (take k m) + n) (length-append (table_of m k) (tables (drop (suc k) m)))

  -- replacing frees the old table: "freed room is used again"
  pub total_set : (t : Bytes) → total (set m k t) + length (table_of m k) ≡ total m + length t
  total_set t =
      omega (arith, total_split, ap length (tables_set t), length-append (tables (take k m)) (t ++ tables (drop (suc k) m)), length-append t (tables (drop (suc k) m)))

-- a removal leaves no more
pub total_removed : (m : Map) (k : ℕ) → total (set m k []) ≤ total m
unfolding tables
total_removed [] k = omega arith
total_removed (t ∷ m) zero = omega (arith, length-append t (tables m))
total_removed (t ∷ m) (suc k) = omega (arith, length-append t (tables m), length-append t (tables (set m k [])), total_removed m k)

pub tables_empty : (c : ℕ) → tables (replicate c []) ≡ []
unfolding tables
tables_empty zero = refl
tables_empty (suc c) = tables_empty c

pub total_empty : total empty ≡ 0
unfolding empty
total_empty = ap length (tables_empty numbers)

-- a table of each number that has one
pub total_bounded : (m : Map) → AllAllowed m → total m ≤ table_room * table_count m
unfolding tables table_count
total_bounded [] f = omega arith
total_bounded (t ∷ m) f = go (total_bounded m (λ k. f (suc k))) (eqb (length t) 0) refl
  where
    go : total m ≤ table_room * table_count m → (b : Bool) → eqb (length t) 0 ≡ b → length (t ++ tables m) ≤ table_room * (elim b [ true ↦ table_count m | false ↦ suc (table_count m) ])
    go rest true e = omega (arith, length-append t (tables m), eqb→eq (length t) 0 (true-T _ e), rest)
    go rest false e = omega (arith, length-append t (tables m), allowed_short t (f 0), rest)

-- no map has more tables than numbers
pub count_bounded : (m : Map) → table_count m ≤ length m
unfolding table_count
count_bounded [] = omega arith
count_bounded (t ∷ m) = go (count_bounded m) (eqb (length t) 0)
  where
    go : table_count m ≤ length m → (b : Bool) → (elim b [ true ↦ table_count m | false ↦ suc (table_count m) ]) ≤ suc (length m)
    go rest true = omega (arith, rest)
    go rest false = omega (arith, rest)
