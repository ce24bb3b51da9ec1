-- Tables that are held after others, and where a number's table lies. Assumes nothing.
use mathlib.Core.Path.{◌≡◌, refl, sym, ap, ◌∙◌, subst}
use mathlib.Core.Bool.{Bool, true, false}
use mathlib.Core.List.{[], ◌∷◌, ◌++◌, append_assoc}
use mathlib.Core.Option.{Option, none, some}
use Prim.Native.Nat.{ℕ, zero, suc, ◌+◌, ◌*◌, ◌-◌, ◌≤◌, ◌<◌}
use native.Mathlib.Omega.{arith}
use borrow.Author.Tests.{le-leb, lt-leb}
use lib.ListN.{length, take, drop, length-append, length-drop}
use lib.Seq.{length-take-le, drop-drop, take_at}
use Rattle.std.specs.Prelude.{Some, None}
use Rattle.pattern.specs.Bytes.{Bytes}
use Rattle.register.specs.Maps.{numbers, Map, table_of, tables, total}
use Rattle.register.specs.Layout.{slot_size, directory_size}
use Rattle.register.specs.Sections.{first_size, first_table, intact, cons_if, held, only_if, section_of, tables_end, located}
use Rattle.register.proofs.Maps.{total_append, total_suc}
use Rattle.register.proofs.Sections.{cons_is, intact_is, held_is}
use Rattle.register.proofs.Passing.{held_from}

-- tables before those that may follow
unfoldable pub followed_by : Map → Option Map → Option Map
followed_by m none = none
followed_by m (some n) = some (m ++ n)

nothing_before : (o : Option Map) → o ≡ followed_by [] o
unfolding followed_by
nothing_before none = refl
nothing_before (some n) = refl

cons_followed : (t : Bytes) (m : Map) (o : Option Map) → cons_if true t (followed_by m o) ≡ followed_by (t ∷ m) o
unfolding cons_if followed_by
cons_followed t m none = refl
cons_followed t m (some n) = refl

more_step : (a b : ℕ) (d s : Bytes) (n : Map) → intact d s ≡ true
    → held (a + b) (drop slot_size d) (drop (first_size d) s) ≡ followed_by n (held b (drop (slot_size * a) (drop slot_size d)) (drop (total n) (drop (first_size d) s)))
    → held (suc a + b) d s ≡ followed_by (first_table d s ∷ n) (held b (drop (slot_size * suc a) d) (drop (total (first_table d s ∷ n)) s))
unfolding held tables
more_step a b d s n y i =
    let z : suc a + b ≡ suc (a + b) = omega arith in
    let f : slot_size + slot_size * a ≡ slot_size * suc a = omega arith in
    let g : first_size d + total n ≡ length (first_table d s ++ tables n) = omega (arith, length-append (first_table d s) (tables n), length-take-le (first_size d) s (intact_is d s y).there) in
    let p : drop (slot_size * a) (drop slot_size d) ≡ drop (slot_size * suc a) d = drop-drop (slot_size * a) slot_size d ∙ ap (λ x. drop x d) f in
    let q : drop (total n) (drop (first_size d) s) ≡ drop (length (first_table d s ++ tables n)) s = drop-drop (total n) (first_size d) s ∙ ap (λ x. drop x s) g in
    ap (λ x. held x d s) z ∙ ap (λ (x : Bool). cons_if x (first_table d s) (held (a + b) (drop slot_size d) (drop (first_size d) s))) y ∙ ap (cons_if true (first_table d s)) i
    ∙ cons_followed (first_table d s) n _ ∙ ap (λ (x : Bytes). followed_by (first_table d s ∷ n) (held b x (drop (total n) (drop (first_size d) s)))) p ∙ ap (λ (x : Bytes). followed_by (first_table d s ∷ n) (held b (drop (slot_size * suc a) d) x)) q

held_more : (a b : ℕ) (d s : Bytes) (m : Map) → held a d s ≡ some m → held (a + b) d s ≡ followed_by m (held b (drop (slot_size * a) d) (drop (total m) s))
unfolding held tables
held_more zero b d s m e =
    let x : [] ≡ m = cc in
    let z : 0 + b ≡ b = omega arith in
    rw (z, ← x) (nothing_before (held b d s))
held_more (suc a) b d s m e =
    let (y, (n, o, x)) = cons_is (intact d s) (first_table d s) (held a (drop slot_size d) (drop (first_size d) s)) m e in
    subst (λ (r : Map). held (suc a + b) d s ≡ followed_by r (held b (drop (slot_size * suc a) d) (drop (total r) s))) x
    (more_step a b d s n y (held_more a b (drop slot_size d) (drop (first_size d) s) n o))

cons_none : (b : Bool) (t : Bytes) (o p : Option Map) → cons_if b t o ≡ none → (o ≡ none → p ≡ none) → cons_if b t p ≡ none
unfolding cons_if
cons_none true t none p e f = rw (f refl)
cons_none true t (some m) p e f = absurd (let z : ◌≡◌ {A = ℕ} 0 1 = cc in omega arith)
cons_none false t o p e f = refl

held_none : (a b : ℕ) (d s : Bytes) → held a d s ≡ none → held (a + b) d s ≡ none
unfolding held
held_none zero b d s e = absurd (let z : ◌≡◌ {A = ℕ} 0 1 = cc in omega arith)
held_none (suc a) b d s e =
    let z : suc a + b ≡ suc (a + b) = omega arith in
    rw z (cons_none (intact d s) (first_table d s) (held a (drop slot_size d) (drop (first_size d) s)) (held (a + b) (drop slot_size d) (drop (first_size d) s)) e (held_none a b (drop slot_size d) (drop (first_size d) s)))

-- ---- one stretch of numbers after the other

ended_at : (at e : ℕ) (o : Option Map) → Some e ≡ tables_end at o → (m : Map) × (o ≡ some m) × (e ≡ at + total m)
unfolding tables_end
ended_at at e none x = absurd (let z : ◌≡◌ {A = ℕ} 0 1 = cc in omega arith)
ended_at at e (some m) x = (m, refl, cc)

ended_none : (at : ℕ) (o : Option Map) → None ≡ tables_end at o → o ≡ none
unfolding tables_end
ended_none at none x = refl
ended_none at (some m) x = absurd (let z : ◌≡◌ {A = ℕ} 0 1 = cc in omega arith)

-- the first k numbers have the tables m, which end at a place
pub record FirstTables (s : Bytes) (k at : ℕ) (m : Map) : Type 0 where
  pub holds : held k s (drop directory_size s) ≡ some m
  pub place : at ≡ directory_size + total m

pub no_tables : (s : Bytes) → FirstTables s 0 directory_size []
unfolding held tables
no_tables s = record { holds = refl; place = refl }

module _ {s : Bytes} {a at : ℕ} {m : Map} (w : FirstTables s a at m) where
  pub tables_within : directory_size ≤ length s → at ≤ length s
  tables_within h = omega (arith, w.place, (held_is a s (drop directory_size s) m w.holds).within, length-drop directory_size s)

  pub tables_count : length m ≡ a
  tables_count = (held_is a s (drop directory_size s) m w.holds).count

  module _ {b : ℕ} (h : a ≤ b) where
    onward : held b s (drop directory_size s) ≡ followed_by m (held_from s a b at)
    onward =
        let z : a + (b - a) ≡ b = omega arith in
        let p : drop (total m) (drop directory_size s) ≡ drop at s = drop-drop (total m) directory_size s ∙ ap (λ x. drop x s) (sym w.place) in
        ap (λ x. held x s (drop directory_size s)) (sym z) ∙ held_more a (b - a) s (drop directory_size s) m w.holds ∙ ap (λ (x : Bytes). followed_by m (held (b - a) (drop (slot_size * a) s) x)) p

    pub more_tables : (e : ℕ) → Some e ≡ tables_end at (held_from s a b at) → (n : Map) × FirstTables s b e (m ++ n)
    unfolding followed_by
    more_tables e x =
        let (n, o, y) = ended_at at e (held_from s a b at) x in
        (n, record { holds = onward ∙ ap (followed_by m) o; place = omega (arith, y, w.place, total_append m n) })

    bad_tables : None ≡ tables_end at (held_from s a b at) → held b s (drop directory_size s) ≡ none
    unfolding followed_by
    bad_tables x = onward ∙ ap (followed_by m) (ended_none at (held_from s a b at) x)

-- ---- where the table of number k lies

section_is : (s : Bytes) → directory_size ≤ length s → section_of s ≡ held numbers s (drop directory_size s)
unfolding section_of only_if
section_is s h = rw (le-leb directory_size (length s) h)

pub locate_short : (s : Bytes) (k : ℕ) → length s < directory_size → None ≡ located k (section_of s)
unfolding section_of only_if located
locate_short s k h = sym (rw (lt-leb directory_size (length s) h))

located_none : (k : ℕ) (o : Option Map) → o ≡ none → None ≡ located k o
unfolding located
located_none k o e = sym (rw e)

module _ (s : Bytes) (k : ℕ) (long : directory_size ≤ length s) (small : k < numbers) where
  -- a number below b has no good table
  pub locate_bad : {a at b : ℕ} {m : Map} → FirstTables s a at m → a ≤ b → b ≤ numbers → None ≡ tables_end at (held_from s a b at) → None ≡ located k (section_of s)
  locate_bad {a} {at} {b} {m} w h f x =
      let z : b + (numbers - b) ≡ numbers = omega arith in
      located_none k (section_of s) (section_is s long ∙ ap (λ (n : ℕ). held n s (drop directory_size s)) (sym z) ∙ held_none b (numbers - b) s (drop directory_size s) (bad_tables w h x))

  pub locate_at : {start end used : ℕ} {m : Map} (n o : Map) → FirstTables s k start m → FirstTables s (k + 1) end (m ++ n) → FirstTables s numbers used ((m ++ n) ++ o)
      → Some (record { start = start; end = end; used = used }) ≡ located k (section_of s)
  unfolding located
  locate_at {start} {end} {used} {m} n o w x y =
      let all : Map = (m ++ n) ++ o in
      let one : suc k ≡ k + 1 = omega arith in
      let t : take k all ≡ m = ap (take k) (append_assoc m n o) ∙ take_at m (n ++ o) k (tables_count w) in
      let u : take (suc k) all ≡ m ++ n = take_at (m ++ n) o (suc k) (tables_count x ∙ sym one) in
      let l : k < length all = omega (arith, tables_count y) in
      let a : start ≡ directory_size + total (take k all) = w.place ∙ ap (λ (z : Map). directory_size + total z) (sym t) in
      let b : end ≡ directory_size + total (take k all) + length (table_of all k) = omega (arith, x.place, ap total u, total_suc all k l) in
      let e : located k (section_of s) ≡ located k (some all) = ap (located k) (section_is s long ∙ y.holds) in
      rw (e, a, b, y.place)
