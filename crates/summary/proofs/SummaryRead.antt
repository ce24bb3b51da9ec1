-- What is read from the bytes of a summary, and what it says of a label. Assumes nothing.
use mathlib.Core.Path.{◌≡◌, refl, sym, ap, ◌∙◌}
use mathlib.Core.Bool.{Bool, true, false, not, cond}
use mathlib.Core.List.{[], ◌∷◌}
use Prim.Native.Nat.{ℕ, zero, suc, ◌+◌, ◌*◌, ◌/◌, ◌%◌, ◌^◌, ◌≤◌, ◌<◌}
use native.Mathlib.Nat.{pow-succ', div-div-eq-div-mul, div-one}
use native.Mathlib.Omega.{arith}
use borrow.Author.Tests.{lt-ltb, le-ltb}
use lib.Dec.{eqb}
use lib.ListN.{length, get_or, take}
use lib.Seq.{get_or-take}
use Rattle.pattern.specs.Bytes.{Bytes}
use Rattle.pattern.specs.Decode.{field}
use Rattle.summary.specs.Summary.{byte_count, Summary, bits, set_bytes, summary_bytes, summary_size, length_out, first_out, rules_out}
use Rattle.summary.specs.Ruling.{RulesOut}
use Rattle.summary.proofs.Words.{bits_same, digit_small}

-- bit j of n bits
bit_at : (n : ℕ) (f : ℕ → Bool) (j : ℕ) → j < n → bits n f / 2 ^ j % 2 ≡ cond (f j) 1 0
unfolding bits
bit_at zero f j h = absurd (omega arith)
bit_at (suc n) f zero h = let x : ℕ = cond (f 0) 1 0 + 2 * bits n (λ k. f (suc k)) in omega (arith, digit_small (f 0), div-one x)
bit_at (suc n) f (suc j) h =
    let x : ℕ = cond (f 0) 1 0 + 2 * bits n (λ k. f (suc k)) in
    let e : x / 2 ≡ bits n (λ k. f (suc k)) = omega (arith, digit_small (f 0)) in
    ap (λ y. x / y % 2) (pow-succ' 2 j) ∙ ap (λ y. y % 2) (sym (div-div-eq-div-mul x 2 (2 ^ j))) ∙ ap (λ y. y / 2 ^ j % 2) e ∙ bit_at n (λ k. f (suc k)) j (omega arith)

-- byte k of a set
set_at : (n : ℕ) (f : ℕ → Bool) (k : ℕ) → k < n → get_or (set_bytes n f) k 0 ≡ bits 8 (λ j. f (8 * k + j))
unfolding set_bytes
set_at zero f k h = absurd (omega arith)
set_at (suc n) f zero h = bits_same 8 _ _ (λ j l. ap f (omega arith))
set_at (suc n) f (suc k) h = set_at n (λ b. f (8 + b)) k (omega arith) ∙ bits_same 8 _ _ (λ j l. ap f (omega arith))

zero_digit : (x : Bool) → eqb (cond x 1 0) 0 ≡ not x
zero_digit true = refl
zero_digit false = refl

first_some : (m : Summary) (l : Bytes) → 0 < length l → not (m.first (get_or l 0 0)) ≡ first_out m l
unfolding first_out
first_some m [] h = absurd (omega arith)
first_some m (b ∷ s) h = refl

first_none : (m : Summary) (l : Bytes) → length l ≡ 0 → false ≡ first_out m l
unfolding first_out
first_none m [] e = refl
first_none m (b ∷ s) e = absurd (omega arith)

module _ (s : Bytes) (m : Summary) (e : take summary_size s ≡ summary_bytes m) where
  at : (k : ℕ) → k < summary_size → get_or s k 0 ≡ get_or (summary_bytes m) k 0
  at k h = sym (get_or-take summary_size s k 0 h) ∙ ap (λ (l : Bytes). get_or l k 0) e

  pub shortest_is : field s 0 ≡ m.shortest
  unfolding summary_bytes
  shortest_is = omega (arith, at 0 (omega arith), at 1 (omega arith))

  pub longest_is : field s 2 ≡ m.longest
  unfolding summary_bytes
  longest_is = omega (arith, at 2 (omega arith), at 3 (omega arith))

  pub bit_is : (b : ℕ) → b < byte_count → get_or s (4 + b / 8) 0 / 2 ^ (b % 8) % 2 ≡ cond (m.first b) 1 0
  unfolding summary_bytes
  bit_is b h =
      let z : 4 + b / 8 ≡ suc (suc (suc (suc (b / 8)))) = omega arith in
      let y : 8 * (b / 8) + b % 8 ≡ b = omega arith in
      let w : get_or s (4 + b / 8) 0 ≡ bits 8 (λ j. m.first (8 * (b / 8) + j)) = at (4 + b / 8) (omega arith) ∙ ap (λ (k : ℕ). get_or (summary_bytes m) k 0) z ∙ set_at 32 m.first (b / 8) (omega arith) in
      ap (λ (x : ℕ). x / 2 ^ (b % 8) % 2) w ∙ bit_at 8 (λ j. m.first (8 * (b / 8) + j)) (b % 8) (omega arith) ∙ ap (λ k. cond (m.first k) 1 0) y

  first_is : (b : ℕ) → b < byte_count → eqb (get_or s (4 + b / 8) 0 / 2 ^ (b % 8) % 2) 0 ≡ not (m.first b)
  first_is b h = ap (λ (x : ℕ). eqb x 0) (bit_is b h) ∙ zero_digit (m.first b)

  module _ (label : Bytes) where
    short_out : length label < field s 0 → true ≡ rules_out m label
    unfolding rules_out length_out
    short_out h = rw (lt-ltb (length label) m.shortest (omega (arith, shortest_is)))

    module _ (h : field s 0 ≤ length label) where
      long_out : field s 2 < length label → true ≡ rules_out m label
      unfolding rules_out length_out
      long_out k = rw (le-ltb (length label) m.shortest (omega (arith, shortest_is)), lt-ltb m.longest (length label) (omega (arith, longest_is)))

      fits : length label ≤ field s 2 → first_out m label ≡ rules_out m label
      unfolding rules_out length_out
      fits k = rw (le-ltb (length label) m.shortest (omega (arith, shortest_is)), le-ltb m.longest (length label) (omega (arith, longest_is)))

-- ---- what the code finds

module _ (s label : Bytes) (x : ℕ) (f : x ≡ field s 0) where
  pub out_short : length label < x → RulesOut s label true
  out_short h = record { by = λ m e. short_out s m e label (omega arith) }

  module _ (y : ℕ) (g : y ≡ field s 2) (h : x ≤ length label) where
    pub out_long : y < length label → RulesOut s label true
    out_long k = record { by = λ m e. long_out s m e label (omega arith) (omega arith) }

    module _ (k : length label ≤ y) where
      pub in_empty : length label ≡ 0 → RulesOut s label false
      in_empty z = record { by = λ m e. first_none m label z ∙ fits s m e label (omega arith) (omega arith) }

      pub out_first : ¬ (length label ≡ 0) → (b w : ℕ) → b ≡ get_or label 0 0 → b < 256 → w ≡ b / 8 → RulesOut s label (eqb (get_or s (4 + w) 0 / 2 ^ (b % 8) % 2) 0)
      out_first n b w i j q = record {
        by = λ m e.
            ap (λ (x : ℕ). eqb (get_or s (4 + x) 0 / 2 ^ (b % 8) % 2) 0) q ∙ first_is s m e b j ∙ ap (λ k. not (m.first k)) i ∙ first_some m label (omega arith)
            ∙ fits s m e label (omega arith) (omega arith);
      }
