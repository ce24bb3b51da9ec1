-- The words of a set of codes: the table of the code by one computed test, and the loop over the codes. Assumes nothing.
use mathlib.Core.Path.{◌≡◌, refl, sym, ap, ap₂, ◌∙◌}
use mathlib.Core.Bool.{Bool, true, false, cond, ◌&&◌, ◌||◌, or_assoc, or-false}
use mathlib.Core.List.{List, [], ◌∷◌, map}
use Prim.Native.Nat.{ℕ, zero, suc, ◌+◌, ◌*◌, ◌/◌, ◌%◌, ◌<◌}
use native.Mathlib.Omega.{arith}
use lib.Dec.{T, eqb}
use Rattle.std.specs.Str.{bytes_eq}
use Rattle.std.proofs.lemmas.Slice.Eq.{bytes_eq-Decides}
use lib.ListN.{length, get_or, drop}
use Rattle.pattern.specs.Bytes.{between}
use Rattle.pattern.specs.Codes.{Code, all_codes, in_ranges, in_codes, in_set}
use Rattle.pattern.specs.Decision.{any}
use Rattle.pattern.proofs.Tests.{all, all_at, any_decides}
use Rattle.summary.specs.Summary.{byte_count, of_class, bits}
use Rattle.summary.specs.Packing.{word_of, words_of, packed_of, no_bytes, union}
use Rattle.summary.specs.declared.packed.Packed.{Packed}
use Rattle.summary.proofs.Words.{word_zero, bits_none}
use Rattle.summary.proofs.Packings.{packed_equal, words_same, words_none, words_union}

-- the table of the code
unfoldable pub classes : List (List ℕ)
classes = (0 ∷ 576460743847706622 ∷ 0 ∷ 0 ∷ []) ∷ (4294967295 ∷ 9223372036854775808 ∷ 0 ∷ 0 ∷ []) ∷ (18446744073709551615 ∷ 18446744073709551615 ∷ 18446744073709551615 ∷ 18446744073709551615 ∷ [])
    ∷ (0 ∷ 576460743713488896 ∷ 0 ∷ 0 ∷ []) ∷ (287948901175001088 ∷ 0 ∷ 0 ∷ 0 ∷ []) ∷ (18158795168239583232 ∷ 8646911293007069185 ∷ 0 ∷ 0 ∷ []) ∷ (0 ∷ 134217726 ∷ 0 ∷ 0 ∷ []) ∷ []

ranges_of : ℕ → List (ℕ × ℕ)
ranges_of k = get_or (map (λ (c : Code). c.ranges) all_codes) k []

holds : (b : Bool) → T b → b ≡ true
holds true t = refl
holds false t = absurd t

class_at : (k : ℕ) → k < 7 → get_or classes k [] ≡ words_of (in_ranges (ranges_of k))
unfolding classes ranges_of all words_of word_of bits all_codes in_ranges between
class_at k h = (bytes_eq-Decides _ _).0 (holds _ (all_at 7 (λ k. bytes_eq (get_or classes k []) (words_of (in_ranges (ranges_of k)))) tt k h))

codes_step : (ls : List Code) (k set b : ℕ) → k < length ls
    → in_codes (drop k ls) set b ≡ eqb (set % 2) 1 && in_ranges (get_or (map (λ (x : Code). x.ranges) ls) k []) b || in_codes (drop (suc k) ls) (set / 2) b
unfolding in_codes
codes_step [] k set b h = absurd (omega arith)
codes_step (l ∷ ls) zero set b h = refl
codes_step (l ∷ ls) (suc k) set b h = codes_step ls k set b (omega arith)

-- after k codes the bytes are those of a set, and that with the codes that are left is the whole
pub record ClassAt (set : ℕ) (w : List ℕ) (left k : ℕ) : Type 0 where
  pub held : ℕ → Bool
  pub words : w ≡ words_of held
  pub rest : (b : ℕ) → held b || in_codes (drop k all_codes) left b ≡ in_set set b

pub class_start : (set : ℕ) → ClassAt set no_bytes set 0
unfolding in_set
class_start set = record { held = λ b. false; words = sym words_none; rest = λ b. refl }

with_words : (o : Bool) (w c : List ℕ) (f g : ℕ → Bool) → w ≡ words_of f → c ≡ words_of g → cond o (union w c) w ≡ words_of (λ b. f b || o && g b)
with_words true w c f g e k = ap₂ union e k ∙ sym (words_union f g)
with_words false w c f g e k = e ∙ words_same _ _ (λ b. sym (or-false (f b)))

module _ {set : ℕ} {w : List ℕ} {left k : ℕ} (inv : ClassAt set w left k) where
  pub class_step : k < 7 → (r : List ℕ) → r ≡ cond (eqb (left % 2) 1) (union w (get_or classes k [])) w → ClassAt set r (left / 2) (k + 1)
  unfolding ranges_of all_codes
  class_step h r q =
      let o : Bool = eqb (left % 2) 1 in
      let z : k + 1 ≡ suc k = omega arith in
      record {
        held = λ b. inv.held b || o && in_ranges (ranges_of k) b;
        words = q ∙ with_words o w _ inv.held (in_ranges (ranges_of k)) inv.words (class_at k h);
        rest = λ b.
            or_assoc (inv.held b) (o && in_ranges (ranges_of k) b) _
            ∙ ap (λ (x : ℕ). inv.held b || (o && in_ranges (ranges_of k) b || in_codes (drop x all_codes) (left / 2) b)) z
            ∙ ap (λ (x : Bool). inv.held b || x) (sym (codes_step all_codes k left b h)) ∙ inv.rest b;
      }

  pub class_end : k ≡ 7 → w ≡ words_of (in_set set)
  unfolding in_codes all_codes
  class_end z = inv.words ∙ words_same _ _ (λ b. sym (or-false (inv.held b)) ∙ ap (λ (x : ℕ). inv.held b || in_codes (drop x all_codes) left b) (sym z) ∙ inv.rest b)

-- ---- whether a class is empty

any_none : (n : ℕ) (f : ℕ → Bool) → ((b : ℕ) → b < n → f b ≡ false) → any n f ≡ false
unfolding any
any_none zero f h = refl
any_none (suc n) f h = rw (h n (omega arith)) (any_none n f (λ b l. h b (omega arith)))

none_any : (n : ℕ) (f : ℕ → Bool) → any n f ≡ false → (b : ℕ) → b < n → f b ≡ false
none_any n f e b h = go (f b) (λ t. (any_decides n {X = λ d. T (f d)} (λ d l. record { sound = λ t. t; complete = λ t. t })).complete (b, h, t))
  where
    go : (x : Bool) → (T x → T (any n f)) → x ≡ false
    go true g = absurd (rw e at (g tt))
    go false g = refl

module _ (f : ℕ → Bool) (w : List ℕ) (p : w ≡ words_of f) where
  pub class_none : w ≡ no_bytes → ◌≡◌ {A = Packed} (record { shortest = 256; longest = 0; first = w }) (packed_of (of_class f))
  unfolding packed_of of_class words_of
  class_none e =
      let n : any byte_count f ≡ false = any_none byte_count f (λ x h. none_at (x / 64) x refl (omega arith)) in
      packed_equal refl refl p ∙ rw n
    where
      word_at : (k : ℕ) → get_or (words_of f) k 0 ≡ get_or no_bytes k 0
      word_at k = ap (λ v. get_or v k 0) (sym p ∙ e)

      none_at : (k x : ℕ) → x / 64 ≡ k → k < 4 → f x ≡ false
      none_at zero x e h = word_zero 0 f (word_at 0) x e
      none_at (suc zero) x e h = word_zero 1 f (word_at 1) x e
      none_at (suc (suc zero)) x e h = word_zero 2 f (word_at 2) x e
      none_at (suc (suc (suc zero))) x e h = word_zero 3 f (word_at 3) x e
      none_at (suc (suc (suc (suc k)))) x e h = absurd (omega arith)

  pub class_some : ¬ (w ≡ no_bytes) → ◌≡◌ {A = Packed} (record { shortest = 1; longest = 1; first = w }) (packed_of (of_class f))
  unfolding packed_of of_class words_of word_of
  class_some n = packed_equal refl refl p ∙ rw (full (any byte_count f) (λ e. e))
    where
      none : any byte_count f ≡ false → w ≡ no_bytes
      none e =
          let z : (k : ℕ) → k < 4 → word_of f k ≡ 0 = λ k h. bits_none 64 _ (λ j l. none_any byte_count f e (64 * k + j) (omega arith)) in
          p ∙ λ i. z 0 (omega arith) i ∷ z 1 (omega arith) i ∷ z 2 (omega arith) i ∷ z 3 (omega arith) i ∷ []

      full : (x : Bool) → (x ≡ false → any byte_count f ≡ false) → x ≡ true
      full true g = refl
      full false g = absurd (n (none (g refl)))
