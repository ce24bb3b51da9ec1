-- Lengths of what is printed, and steps along lists. Assumes nothing.
use mathlib.Core.Path.{◌≡◌, refl, sym, ap, ap₂, ◌∙◌}
use mathlib.Core.Bool.{Bool, true, false, ◌&&◌, ◌||◌}
use mathlib.Core.List.{List, [], ◌∷◌, ◌++◌}
use Prim.Native.Nat.{ℕ, suc, ◌+◌, ◌*◌, ◌/◌, ◌%◌, ◌<◌, ◌≤◌}
use native.Mathlib.Numerals.{add-one}
use native.Mathlib.Omega.{arith}
use lib.Dec.{T, leb, eqb, eqb→eq, leb→le}
use lib.ListN.{length, get_or, take, drop, length-append, drop_of_length-le}
use lib.Seq.{drop-cons, get_or-take}
use borrow.Author.Tests.{le-leb, lt-leb, eq-eqb, ne_eqb}
use Rattle.std.specs.Prelude.{Some, None, cond}
use Rattle.pattern.specs.Numbers.{point_byte, quote_byte, open_high, version_place, atoms_place}
use Rattle.pattern.specs.Versions.{Version, v1, v2, written_version, format, header_size}
use Rattle.pattern.proofs.Agree.{equal_decides}
use Rattle.std.specs.Cmp.Lexicographic.{pointwise}
use Rattle.std.proofs.lemmas.Bool.Decides.{nat_tests}
use Rattle.pattern.specs.Bytes.{Bytes, between, equal}
use Rattle.pattern.specs.Codes.{all_codes}
use Rattle.pattern.specs.Print.{decimal, print_low, print_count, print_set, double}
use Rattle.pattern.specs.Decode.{field, high_of, version_of}
use Rattle.pattern.proofs.Tests.{true-T, and_both, all, all_at, if_true, if_false}
use Rattle.stores.proofs.Little.{Octets, number_byte, number_field}
use Rattle.table.specs.Headers.{first_bytes, marked, header_of, headed, read_header}
use Rattle.table.specs.Checked.{all_plain}
use Rattle.table.specs.Leaves.{text_of}
use Rattle.table.specs.declared.header.Header.{Header}
use Rattle.std.specs.declared.option.Option as code
use Rattle.table.proofs.Sources.{count_open, count_two, quote_here, plain_here, double_end}

-- ---- counts

module _ (low high a : ℕ) (f : a ≡ length (print_low low)) where
  pub open_length : high ≡ open_high → a + 1 ≡ length (print_count low (high_of high))
  open_length e = omega (arith, f, ap length (count_open low high e), length-append (print_low low) (point_byte ∷ []))

  pub two_length : (b : ℕ) → (high ≡ open_high → ⊥) → (low ≡ high → ⊥) → b ≡ length (decimal high) → a + 1 + b ≡ length (print_count low (high_of high))
  two_length b n e g =
      omega (arith, f, g, ap length (count_two low high n e), length-append (print_low low ++ point_byte ∷ []) (decimal high), length-append (print_low low) (point_byte ∷ []))

-- ---- sets

-- how many codes four bits of a set stand for
unfoldable pub fours : List ℕ
fours = 0 ∷ 1 ∷ 1 ∷ 2 ∷ 1 ∷ 2 ∷ 2 ∷ 3 ∷ 1 ∷ 2 ∷ 2 ∷ 3 ∷ 2 ∷ 3 ∷ 3 ∷ 4 ∷ []

abbrev letters_of : ℕ → ℕ
letters_of set = get_or fours (set % 16) 0 + get_or fours (set / 16) 0

letters_fit : T (all 128 (λ set. eqb (letters_of set) (length (print_set all_codes set)) && leb (letters_of set) 7))
unfolding all fours all_codes print_set
letters_fit = tt

pub letters_at : (set : ℕ) → set < 128 → (letters_of set ≡ length (print_set all_codes set)) × (letters_of set ≤ 7)
letters_at set h =
    let (a, b) = and_both (eqb (letters_of set) (length (print_set all_codes set))) (leb (letters_of set) 7) (all_at 128 (λ x. eqb (letters_of x) (length (print_set all_codes x)) && leb (letters_of x) 7) letters_fit set h) in
    (eqb→eq _ _ a, leb→le _ _ b)

-- ---- steps along lists

plain_step : (v : Bytes) (i j : ℕ) → j ≡ i + 1 → i < length v → all_plain (drop i v) ≡ (leb 32 (get_or v i 0) && leb (get_or v i 0) 126) && all_plain (drop j v)
unfolding all_plain between
plain_step v i j e h =
    let n : suc i ≡ j = omega (arith, e) in
    ap all_plain (drop-cons v i 0 h) ∙ ap (λ m. (leb 32 (get_or v i 0) && leb (get_or v i 0) 126) && all_plain (drop m v)) n

-- doubled quotes at most double a value
pub double_length : (v : Bytes) → length (double v) ≤ 2 * length v
unfolding double
double_length [] = omega arith
double_length (b ∷ v) = go (eqb b quote_byte) (double_length v)
  where
    go : (t : Bool) → length (double v) ≤ 2 * length v → length {A = ℕ} (elim t [ true ↦ quote_byte ∷ quote_byte ∷ double v | false ↦ b ∷ double v ]) ≤ 2 * suc (length v)
    go true h = omega arith
    go false h = omega arith

-- ---- a literal, byte by byte

module _ (v : Bytes) (i : ℕ) where
  abbrev Plain : ℕ → Type 0
  Plain k = all_plain v ≡ all_plain (drop k v)

  pub text_low : i < length v → Plain i → get_or v i 0 < 32 → None ≡ text_of v
  unfolding text_of
  text_low h e n = sym (ap (λ b. cond b (Some (length (double v))) None) (e ∙ plain_step v i (i + 1) refl h ∙ ap (λ b. (b && leb (get_or v i 0) 126) && all_plain (drop (i + 1) v)) (lt-leb _ _ n)))

  pub text_high : i < length v → Plain i → 32 ≤ get_or v i 0 → 126 < get_or v i 0 → None ≡ text_of v
  unfolding text_of
  text_high h e m n = sym (ap (λ b. cond b (Some (length (double v))) None) (e ∙ plain_step v i (i + 1) refl h ∙ ap₂ (λ a b. (a && b) && all_plain (drop (i + 1) v)) (le-leb _ _ m) (lt-leb _ _ n)))

  pub text_on : i < length v → Plain i → 32 ≤ get_or v i 0 → get_or v i 0 ≤ 126 → Plain (i + 1)
  text_on h e m n = e ∙ plain_step v i (i + 1) refl h ∙ ap₂ (λ a b. (a && b) && all_plain (drop (i + 1) v)) (le-leb _ _ m) (le-leb _ _ n)

  pub quote_on : i < length v → get_or v i 0 ≡ quote_byte → length (double (drop i v)) ≡ 2 + length (double (drop (i + 1) v))
  quote_on h e = rw add-one (omega (arith, ap length (quote_here v i h e)))

  pub other_on : i < length v → (get_or v i 0 ≡ quote_byte → ⊥) → length (double (drop i v)) ≡ 1 + length (double (drop (i + 1) v))
  other_on h e = rw add-one (omega (arith, ap length (plain_here v i h e)))

  pub text_end : (n : ℕ) → length v ≤ i → Plain i → length (double v) ≡ n + length (double (drop i v)) → Some n ≡ text_of v
  unfolding text_of all_plain
  text_end n h e f =
      let z = drop_of_length-le v h in
      let q : length (double (drop i v)) ≡ 0 = ap length (double_end v i h) in
      let m : n ≡ length (double v) = omega (arith, f, q) in
      ap (λ x. Some x) m ∙ sym (ap (λ b. cond b (Some (length (double v))) None) (e ∙ ap all_plain z))

-- ---- a header

-- no header is longer than that of the version that is written
pub header_longest : (v : Version) → header_size v ≤ header_size written_version
header_longest v1 = omega arith
header_longest v2 = omega arith

-- the first bytes of a version name it
pub first_version : (v : Version) (s : Bytes) → take atoms_place s ≡ first_bytes v → version_of s ≡ v
unfolding version_of
first_version v s e = ap by_number (named v s e) ∙ again v
  where
    by_number : ℕ → Version
    by_number n = elim (eqb n 1) [ true ↦ v1 | false ↦ v2 ]

    again : (v : Version) → by_number (format v).version ≡ v
    again v1 = refl
    again v2 = refl

    named : (v : Version) (s : Bytes) → take atoms_place s ≡ first_bytes v → field s version_place ≡ (format v).version
    named v1 s e = omega (arith, get_or-take 5 s 3 0 (omega arith), get_or-take 5 s 4 0 (omega arith), ap (λ (x : Bytes). get_or x 3 0) e, ap (λ (x : Bytes). get_or x 4 0) e)
    named v2 s e = omega (arith, get_or-take 5 s 3 0 (omega arith), get_or-take 5 s 4 0 (omega arith), ap (λ (x : Bytes). get_or x 3 0) e, ap (λ (x : Bytes). get_or x 4 0) e)

-- a table is marked if it begins as its version does
pub marked_as : (s : Bytes) → marked s ≡ equal (take atoms_place s) (first_bytes (version_of s))
unfolding marked
marked_as s = go _ _ refl refl
  where
    begins : Version → Bool
    begins v = equal (take atoms_place s) (first_bytes v)

    is_of : (v : Version) → begins v ≡ true → version_of s ≡ v
    is_of v f = first_version v s ((equal_decides (take atoms_place s) (first_bytes v)).sound (true-T _ f))

    neither : (v : Version) → version_of s ≡ v → begins v2 ≡ false → begins v1 ≡ false → false ≡ begins (version_of s)
    neither v1 e f g = sym (ap begins e ∙ g)
    neither v2 e f g = sym (ap begins e ∙ f)

    go : (a b : Bool) → begins v2 ≡ a → begins v1 ≡ b → begins v2 || begins v1 ≡ begins (version_of s)
    go true b f g = ap (λ x. x || begins v1) f ∙ sym (ap begins (is_of v2 f) ∙ f)
    go false true f g = ap₂ (λ x y. x || y) f g ∙ sym (ap begins (is_of v1 g) ∙ g)
    go false false f g = ap₂ (λ x y. x || y) f g ∙ neither _ refl f g

same_test : (x y : ℕ) → eqb x y ≡ eqb y x
same_test x y = grind (arith, nat_tests)

-- what `starts_with` compares
pub starts_as : (s m : Bytes) → pointwise eqb m (take (length m) s) ≡ equal (take (length m) s) m
unfolding equal
starts_as s m = flips m (take (length m) s)
  where
    flips : (a b : Bytes) → pointwise eqb a b ≡ equal b a
    flips [] [] = refl
    flips [] (y ∷ b) = refl
    flips (x ∷ a) [] = refl
    flips (x ∷ a) (y ∷ b) = ap₂ (λ p q. p && q) (same_test x y) (flips a b)

-- whether a table begins as a version does
pub begins_as : (s m : Bytes) (v : Version) (r : Bool) → m ≡ first_bytes v → r ≡ pointwise eqb m (take (length m) s) → r ≡ equal (take atoms_place s) (first_bytes v)
begins_as s m v r f g = g ∙ starts_as s m ∙ ap (λ (m : Bytes). equal (take (length m) s) m) f

module _ (s : Bytes) where
  abbrev Heads : Bool → Bool → Bool → code.Option Header
  Heads a b c = cond ((a && b) && c) (Some (header_of s)) None

  heads : (a b c : Bool) → leb (header_size written_version) (length s) ≡ a → marked s ≡ b → eqb (length s) ((header_of s).pool + (header_of s).length) ≡ c → read_header s ≡ Heads a b c
  unfolding read_header headed
  heads a b c e f g = ap₂ (λ x y. Heads x y (eqb (length s) ((header_of s).pool + (header_of s).length))) e f ∙ ap (λ z. Heads a b z) g

  -- the header by its version
  pub version_1 : field s version_place ≡ 1 → version_of s ≡ v1
  unfolding version_of
  version_1 e = if_true _ _ _ (eq-eqb _ _ e)

  pub version_2 : (field s version_place ≡ 1 → ⊥) → version_of s ≡ v2
  unfolding version_of
  version_2 n = if_false _ _ _ (ne_eqb _ _ n)

  -- the numbers of a header are small
  pub header_small : Octets s → (header_of s).pool + (header_of s).length < 1000000
  header_small f = go (version_of s) refl
    where
      go : (v : Version) → version_of s ≡ v → (header_of s).pool + (header_of s).length < 1000000
      go v1 e = rw e (omega (arith, number_byte s atoms_place, f 5, f 6, f 7))
      go v2 e = rw e (omega (arith, number_field s atoms_place, f 5, f 6, f 7, f 8))

  pub head_short : length s < header_size written_version → None ≡ read_header s
  head_short h = sym (heads false (marked s) _ (lt-leb _ _ h) refl refl)

  pub head_off : marked s ≡ false → None ≡ read_header s
  head_off e = go _ refl
    where
      go : (a : Bool) → leb (header_size written_version) (length s) ≡ a → None ≡ read_header s
      go true f = sym (heads true false _ f e refl)
      go false f = sym (heads false false _ f e refl)

  pub head_wrong : header_size written_version ≤ length s → marked s ≡ true → (length s ≡ (header_of s).pool + (header_of s).length → ⊥) → None ≡ read_header s
  head_wrong h e n = sym (heads true true false (le-leb _ _ h) e (ne_eqb _ _ n))

  pub head_right : header_size written_version ≤ length s → marked s ≡ true → length s ≡ (header_of s).pool + (header_of s).length → Some (header_of s) ≡ read_header s
  head_right h e n = sym (heads true true true (le-leb _ _ h) e (eq-eqb _ _ n))
