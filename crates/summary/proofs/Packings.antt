-- What the code works out of packed summaries is the packed summary. Assumes nothing.
use mathlib.Core.Path.{◌≡◌, refl, sym, ap, ◌∙◌}
use mathlib.Core.Bool.{Bool, true, false, cond, ◌&&◌, ◌||◌, or_assoc, or-false}
use mathlib.Core.List.{List, [], ◌∷◌}
use mathlib.Core.Option.{Option, none, some}
use Prim.Native.Nat.{ℕ, zero, suc, ◌+◌, ◌*◌, ◌/◌, ◌%◌, ◌^◌, ◌≤◌, ◌<◌, min, max}
use native.Mathlib.Nat.{mul-le-mul}
use native.Mathlib.Decide.{ℕ_discrete}
use native.Mathlib.Omega.{arith}
use borrow.Author.Tests.{lt-leb, le-leb, eq-eqb, ne_eqb}
use lib.Dec.{leb, eqb}
use lib.ListN.{length, get_or, set}
use lib.Seq.{slice, slice-cons, length-slice}
use Rattle.pattern.specs.Numbers.{open_high}
use Rattle.pattern.specs.Bytes.{Bytes}
use Rattle.pattern.specs.Codes.{in_set}
use Rattle.pattern.specs.Syntax.{Sort, Syntax, last, then, repeat, codes, literal, group, only, or}
use Rattle.pattern.specs.Decision.{any}
use Rattle.pattern.specs.Decode.{high_of}
use Rattle.pattern.proofs.Tests.{if_true, if_false}
use Rattle.summary.specs.Summary.{length_cap, byte_count, Summary, possible, of_class, of_literal, of_both, of_either, often, once, of_repeat, summary_of}
use Rattle.summary.specs.Packing.{word_of, words_of, packed_of, no_bytes, union, Capped, longest_both, both_first, both_packed, either_packed, repeat_packed}
use Rattle.summary.specs.declared.packed.Packed.{Packed}
use Rattle.summary.proofs.Exactness.{same_equal}
use Rattle.summary.proofs.Words.{word_same, word_none, word_or, word_there, shift_word}

-- equal numbers and words
pub packed_equal : {s s' l l' : ℕ} {v v' : List ℕ} → s ≡ s' → l ≡ l' → v ≡ v' → ◌≡◌ {A = Packed} (record { shortest = s; longest = l; first = v }) (record { shortest = s'; longest = l'; first = v' })
packed_equal e f p = λ i. record { shortest = e i; longest = f i; first = p i }

four_equal : {a a' b b' c c' d d' : ℕ} → a ≡ a' → b ≡ b' → c ≡ c' → d ≡ d' → ◌≡◌ {A = List ℕ} (a ∷ b ∷ c ∷ d ∷ []) (a' ∷ b' ∷ c' ∷ d' ∷ [])
four_equal p q r z = λ i. p i ∷ q i ∷ r i ∷ z i ∷ []

-- words of equal sets, of no bytes and of a union
pub words_same : (f g : ℕ → Bool) → ((b : ℕ) → f b ≡ g b) → words_of f ≡ words_of g
unfolding words_of
words_same f g h = four_equal (word_same 0 f g h) (word_same 1 f g h) (word_same 2 f g h) (word_same 3 f g h)

pub words_none : words_of (λ b. false) ≡ no_bytes
unfolding words_of
words_none = four_equal (word_none 0) (word_none 1) (word_none 2) (word_none 3)

pub words_union : (f g : ℕ → Bool) → words_of (λ b. f b || g b) ≡ union (words_of f) (words_of g)
unfolding words_of union
words_union f g = four_equal (word_or 0 f g) (word_or 1 f g) (word_or 2 f g) (word_or 3 f g)

-- those of one byte
pub words_byte : (a k : ℕ) → a < 256 → k ≡ a / 64 → set no_bytes k (1 * 2 ^ (a % 64) % 18446744073709551616) ≡ words_of (eqb a)
unfolding words_of
words_byte a k h e = go k (sym e) (omega arith)
  where
    there : (k i : ℕ) → a / 64 ≡ k → ¬ (k ≡ i) → 0 ≡ word_of (eqb a) i
    there k i e n = sym (word_there i a (λ z. n (sym e ∙ z)))

    go : (k : ℕ) → a / 64 ≡ k → k < 4 → set no_bytes k (1 * 2 ^ (a % 64) % 18446744073709551616) ≡ word_of (eqb a) 0 ∷ word_of (eqb a) 1 ∷ word_of (eqb a) 2 ∷ word_of (eqb a) 3 ∷ []
    go zero e l = four_equal (shift_word a 0 e) (there 0 1 e (λ z. omega arith)) (there 0 2 e (λ z. omega arith)) (there 0 3 e (λ z. omega arith))
    go (suc zero) e l = four_equal (there 1 0 e (λ z. omega arith)) (shift_word a 1 e) (there 1 2 e (λ z. omega arith)) (there 1 3 e (λ z. omega arith))
    go (suc (suc zero)) e l = four_equal (there 2 0 e (λ z. omega arith)) (there 2 1 e (λ z. omega arith)) (shift_word a 2 e) (there 2 3 e (λ z. omega arith))
    go (suc (suc (suc zero))) e l = four_equal (there 3 0 e (λ z. omega arith)) (there 3 1 e (λ z. omega arith)) (there 3 2 e (λ z. omega arith)) (shift_word a 3 e)
    go (suc (suc (suc (suc k)))) e l = absurd (omega arith)

-- ---- one after the other

both_words : (p e : Bool) (f g : ℕ → Bool) → both_first p e (words_of f) (words_of g) ≡ words_of (λ b. p && (f b || e && g b))
unfolding both_first
both_words true true f g = sym (words_union f g)
both_words true false f g = words_same f _ (λ b. sym (or-false (f b)))
both_words false e f g = sym words_none

both_longest : (p q : Bool) (l : ℕ) → cond p (cond q l 0) 0 ≡ cond (q && p) l 0
both_longest true true l = refl
both_longest true false l = refl
both_longest false true l = refl
both_longest false false l = refl

pub both_law : (m n : Summary) → both_packed (packed_of m) (packed_of n) ≡ packed_of (of_both m n)
unfolding both_packed packed_of of_both possible longest_both
both_law m n =
    let p : Bool = leb n.shortest n.longest in
    let e : Bool = eqb m.shortest 0 in
    packed_equal refl (both_longest p (leb m.shortest m.longest) (min (m.longest + n.longest) length_cap)) (both_words p e m.first n.first)

-- ---- one or the other

pub either_law : (m n : Summary) → either_packed (packed_of m) (packed_of n) ≡ packed_of (of_either m n)
unfolding either_packed packed_of of_either
either_law m n = packed_equal refl refl (sym (words_union m.first n.first))

pub either_assoc : (m n o : Summary) → of_either m (of_either n o) ≡ of_either (of_either m n) o
unfolding of_either
either_assoc m n o = same_equal (record { shortest = omega arith; longest = omega arith; first = λ b. sym (or_assoc (m.first b) (n.first b) (o.first b)) })

-- ---- repeats

once_words : (p : Bool) (f : ℕ → Bool) → cond p (words_of f) no_bytes ≡ words_of (λ b. p && f b)
once_words true f = refl
once_words false f = sym words_none

pub repeat_law : (low : ℕ) (high : Option ℕ) (m : Summary) → repeat_packed low high (packed_of m) ≡ packed_of (of_repeat low high m)
unfolding repeat_packed packed_of of_repeat
repeat_law low high m = packed_equal refl refl (once_words (once high) m.first)

-- ---- the numbers of a summary are at most 256

cond_capped : (b : Bool) (x y : ℕ) → x ≤ length_cap → y ≤ length_cap → cond b x y ≤ length_cap
cond_capped true x y h k = h
cond_capped false x y h k = k

often_capped : (high : Option ℕ) (n : ℕ) → often high n ≤ length_cap
unfolding often
often_capped none n = cond_capped (eqb n 0) 0 length_cap (omega arith) (omega arith)
often_capped (some h) n = omega arith

literal_capped : (v : Bytes) → ((of_literal v).shortest ≤ length_cap) × ((of_literal v).longest ≤ length_cap)
unfolding of_literal
literal_capped [] = (omega arith, omega arith)
literal_capped (a ∷ v) = (omega arith, omega arith)

pub summary_capped : {s : Sort} (t : Syntax s) → ((summary_of t).shortest ≤ length_cap) × ((summary_of t).longest ≤ length_cap)
unfolding summary_of of_both of_repeat of_class of_either
summary_capped (last a) = summary_capped a
summary_capped (then a p) = (omega arith, cond_capped (possible (summary_of a) && possible (summary_of p)) _ _ (omega arith) (omega arith))
summary_capped (repeat low high b) = (omega arith, often_capped high (summary_of b).longest)
summary_capped (codes set) = let full : Bool = any byte_count (in_set set) in (cond_capped full _ _ (omega arith) (omega arith), cond_capped full _ _ (omega arith) (omega arith))
summary_capped (literal value) = literal_capped value
summary_capped (group bs) = summary_capped bs
summary_capped (only p) = summary_capped p
summary_capped (or p bs) = let (a, b) = summary_capped p in let (c, d) = summary_capped bs in (omega arith, omega arith)

pub packed_capped : {s : Sort} (t : Syntax s) (x : Packed) → x ≡ packed_of (summary_of t) → Capped x
unfolding packed_of
packed_capped t x e = let (h, k) = summary_capped t in record { shortest = omega (arith, ap (λ (z : Packed). z.shortest) e); longest = omega (arith, ap (λ (z : Packed). z.longest) e) }

-- ---- what the functions make

module _ (m n : Packed) where
  pub longest_none : m.longest < m.shortest → 0 ≡ longest_both m n
  unfolding longest_both
  longest_none h = rw (lt-leb m.shortest m.longest h)

  pub longest_some : (r : ℕ) → m.shortest ≤ m.longest → r ≡ min (m.longest + n.longest) length_cap → r ≡ longest_both m n
  unfolding longest_both
  longest_some r h e = e ∙ rw (le-leb m.shortest m.longest h)

  module _ (s : ℕ) (e : s ≡ min (m.shortest + n.shortest) length_cap) where
    pub both_none : n.longest < n.shortest → ◌≡◌ {A = Packed} (record { shortest = s; longest = 0; first = no_bytes }) (both_packed m n)
    unfolding both_packed both_first
    both_none h = rw (lt-leb n.shortest n.longest h, e)

    module _ (l : ℕ) (f : l ≡ longest_both m n) (h : n.shortest ≤ n.longest) where
      pub both_empty : m.shortest ≡ 0 → {v : List ℕ} → v ≡ union m.first n.first → ◌≡◌ {A = Packed} (record { shortest = s; longest = l; first = v }) (both_packed m n)
      unfolding both_packed both_first
      both_empty z g = rw (le-leb n.shortest n.longest h, eq-eqb m.shortest 0 z, e, f, g)

      pub both_full : ¬ (m.shortest ≡ 0) → ◌≡◌ {A = Packed} (record { shortest = s; longest = l; first = m.first }) (both_packed m n)
      unfolding both_packed both_first
      both_full z = rw (le-leb n.shortest n.longest h, ne_eqb m.shortest 0 z, e, f)

  pub either_made : (s l : ℕ) → s ≡ min m.shortest n.shortest → l ≡ max m.longest n.longest → {v : List ℕ} → v ≡ union m.first n.first
      → ◌≡◌ {A = Packed} (record { shortest = s; longest = l; first = v }) (either_packed m n)
  unfolding either_packed
  either_made s l e f g = rw (e, f, g)

high_none : (h : ℕ) → h ≡ open_high → high_of h ≡ none
unfolding high_of
high_none h e = if_true _ _ _ (eq-eqb h open_high e)

high_some : (h : ℕ) → ¬ (h ≡ open_high) → high_of h ≡ some h
unfolding high_of
high_some h n = if_false _ _ _ (ne_eqb h open_high n)

-- an open count's number is as good as any that is above the cap
often_open : (n : ℕ) → min (open_high * n) length_cap ≡ often none n
unfolding often
often_open zero = refl
often_open (suc n) = rw (ne_eqb (suc n) 0 (λ e. omega arith)) (omega arith)

pub often_times : (high n w r : ℕ) → w ≡ high → r ≡ min (w * n) length_cap → r ≡ often (high_of high) n
unfolding often
often_times high n w r e f =
    f ∙ ap (λ (k : ℕ). min (k * n) length_cap) e
    ∙ elim (ℕ_discrete high open_high) [ yes z ↦ ap (λ (k : ℕ). min (k * n) length_cap) z ∙ often_open n ∙ rw (high_none high z) | no z ↦ rw (high_some high z) ]

once_never : (high : ℕ) → high ≡ 0 → once (high_of high) ≡ false
unfolding once
once_never high e = rw (high_some high (λ f. omega arith), e)

once_more : (high : ℕ) → ¬ (high ≡ 0) → once (high_of high) ≡ true
unfolding once
once_more high n = elim (ℕ_discrete high open_high) [ yes e ↦ rw (high_none high e) | no f ↦ rw (high_some high f) (le-leb 1 high (omega arith)) ]

module _ (low high : ℕ) (m : Packed) (w s l : ℕ) (k : w ≡ low) (e : s ≡ min (w * m.shortest) length_cap) (f : l ≡ often (high_of high) m.longest) where
  pub repeat_never : high ≡ 0 → ◌≡◌ {A = Packed} (record { shortest = s; longest = l; first = no_bytes }) (repeat_packed low (high_of high) m)
  unfolding repeat_packed
  repeat_never z = rw (once_never high z, e, f, k)

  pub repeat_some : ¬ (high ≡ 0) → ◌≡◌ {A = Packed} (record { shortest = s; longest = l; first = m.first }) (repeat_packed low (high_of high) m)
  unfolding repeat_packed
  repeat_some z = rw (once_more high z, e, f, k)

pub times_fit : (w n : ℕ) → w ≤ 65535 → n ≤ length_cap → w * n < 2 ^ 64
times_fit w n h k = omega (arith, mul-le-mul h k)

-- ---- a literal

pub empty_made : ◌≡◌ {A = Packed} (record { shortest = 0; longest = 0; first = no_bytes }) (packed_of (of_literal []))
unfolding of_literal packed_of
empty_made = packed_equal refl refl (sym words_none)

-- a literal begins with its first byte
pub literal_made : (s : Bytes) (from len : ℕ) → 0 < len → from + len ≤ length s → (n : ℕ) → n ≡ min len length_cap → {v : List ℕ} → v ≡ words_of (eqb (get_or s from 0))
    → ◌≡◌ {A = Packed} (record { shortest = n; longest = n; first = v }) (packed_of (of_literal (slice from (from + len) s)))
unfolding of_literal packed_of
literal_made s from len k h n e p =
    let v = slice-cons from (from + len) s 0 (omega arith) h in
    let l : n ≡ min (length (get_or s from 0 ∷ slice (suc from) (from + len) s)) length_cap = omega (arith, ap length v, length-slice from (from + len) s h) in
    packed_equal l l p ∙ ap (λ (v : Bytes). packed_of (of_literal v)) (sym v)
