-- The bytes that are written are those of the summary. Assumes nothing.
use mathlib.Core.Path.{◌≡◌, refl, sym, ap, ap₂, ◌∙◌}
use mathlib.Core.Bool.{Bool, cond}
use mathlib.Core.List.{List, [], ◌∷◌, ◌++◌, append_assoc, append-nil}
use Prim.Native.Nat.{ℕ, zero, suc, ◌+◌, ◌*◌, ◌/◌, ◌%◌, ◌≤◌, ◌<◌}
use native.Mathlib.Omega.{arith}
use lib.ListN.{length, get_or, take, length-append}
use Rattle.pattern.specs.Bytes.{Bytes, le16, little, overwrite}
use lib.Seq.{length-take-le, take_all}
use Rattle.pattern.specs.Stores.{store_at, Puts}
use Rattle.pattern.proofs.Stores.{puts_then, puts_as, puts_length, store_at_overwrite}
use Rattle.stores.proofs.Little.{length_little}
use Rattle.summary.specs.Summary.{Summary, bits, set_bytes, summary_bytes, summary_size}
use Rattle.summary.specs.Packing.{word_of, words_of, packed_of, words_bytes, packed_bytes}
use Rattle.summary.specs.declared.packed.Packed.{Packed}
use Rattle.summary.proofs.Words.{bits_same, digit_small}

-- ---- the stores

pub length_words : (v : List ℕ) → length (words_bytes v) ≡ 8 * length v
unfolding words_bytes
length_words [] = refl
length_words (x ∷ v) = omega (arith, length-append (little 8 x) (words_bytes v), length_little 8 x, length_words v)

-- a word more
words_more : (v : List ℕ) (i : ℕ) → i < length v → words_bytes (take (suc i) v) ≡ words_bytes (take i v) ++ little 8 (get_or v i 0)
unfolding words_bytes
words_more [] i h = absurd (omega arith)
words_more (x ∷ v) zero h = append-nil (little 8 x)
words_more (x ∷ v) (suc i) h = ap (λ (u : Bytes). little 8 x ++ u) (words_more v i (omega arith)) ∙ sym (append_assoc (little 8 x) (words_bytes (take i v)) (little 8 (get_or v i 0)))

-- the lengths and the first i words are written
pub record Written (m : Packed) (l l' : Bytes) (i n : ℕ) : Type 0 where
  pub puts : Puts l 0 (le16 m.shortest [] ++ le16 m.longest [] ++ words_bytes (take i m.first)) l' n

module _ {m : Packed} {l : Bytes} where
  pub written_start : {l₁ l₂ : Bytes} {n₁ n₂ : ℕ} → Puts l 0 (le16 m.shortest []) l₁ n₁ → Puts l₁ n₁ (le16 m.longest []) l₂ n₂ → Written m l l₂ 0 n₂
  unfolding words_bytes
  written_start p q = record { puts = puts_then p q }

  module _ {l' : Bytes} {i n : ℕ} (w : Written m l l' i n) where
    pub written_more : {l'' : Bytes} {k : ℕ} → i < length m.first → Puts l' n (little 8 (get_or m.first i 0)) l'' k → Written m l l'' (i + 1) k
    written_more h p = let z : suc i ≡ i + 1 = omega arith in record { puts = puts_as (puts_then w.puts p) (append_assoc (le16 m.shortest [] ++ le16 m.longest []) (words_bytes (take i m.first)) _ ∙ ap (λ (u : Bytes). le16 m.shortest [] ++ le16 m.longest [] ++ u) (sym (words_more m.first i h) ∙ ap (λ k. words_bytes (take k m.first)) z)) }

    pub written_room : length m.first ≡ 4 → i < 4 → summary_size ≤ length l → n + 8 ≤ length l'
    written_room e h r = omega (arith, w.puts.next, puts_length w.puts, length_words (take i m.first), length-take-le i m.first (omega arith))

    pub written_all : length m.first ≡ 4 → i ≡ 4 → summary_size ≤ length l → l' ≡ overwrite (packed_bytes m) l
    unfolding packed_bytes
    written_all e z r =
        let t : take i m.first ≡ m.first = take_all i m.first (omega arith) in
        w.puts.bytes ∙ ap (λ v. store_at l 0 (le16 m.shortest [] ++ le16 m.longest [] ++ words_bytes v)) t
        ∙ store_at_overwrite l _ (omega (arith, length_words m.first))

-- ---- the set

set_same : (n : ℕ) (f g : ℕ → Bool) → ((b : ℕ) → f b ≡ g b) → set_bytes n f ≡ set_bytes n g
unfolding set_bytes
set_same zero f g h = refl
set_same (suc n) f g h = ap₂ (λ (x : ℕ) (y : Bytes). x ∷ y) (bits_same 8 f g (λ j l. h j)) (set_same n _ _ (λ b. h (8 + b)))

length_set_bytes : (n : ℕ) (f : ℕ → Bool) → length (set_bytes n f) ≡ n
unfolding set_bytes
length_set_bytes zero f = refl
length_set_bytes (suc n) f = ap suc (length_set_bytes n (λ b. f (8 + b)))

pub length_summary_bytes : (m : Summary) → length (summary_bytes m) ≡ summary_size
unfolding summary_bytes
length_summary_bytes m = omega (arith, length_set_bytes 32 m.first)

-- a byte of bits, and the others
bits_split : (n : ℕ) (f : ℕ → Bool) → let b : ℕ = bits (suc (suc (suc (suc (suc (suc (suc (suc n)))))))) f in (b % 256 ≡ bits 8 f) × (b / 256 ≡ bits n (λ j. f (8 + j)))
unfolding bits
bits_split n f =
    let s : (k : ℕ) → cond (f k) 1 0 < 2 = λ k. digit_small (f k) in
    let e : bits n (λ j. f (8 + j)) ≡ bits n (λ j. f (suc (suc (suc (suc (suc (suc (suc (suc j))))))))) = bits_same n _ _ (λ j l. ap f (omega arith)) in
    (omega (arith, s 0, s 1, s 2, s 3, s 4, s 5, s 6, s 7), omega (arith, s 0, s 1, s 2, s 3, s 4, s 5, s 6, s 7, e))

-- the bytes of a number are those of its bits, before others
bits_before : (m n : ℕ) (f : ℕ → Bool) → little m (bits (8 * m) f) ++ set_bytes n (λ b. f (8 * m + b)) ≡ set_bytes (m + n) f
unfolding little set_bytes
bits_before zero n f = let z : 0 + n ≡ n = omega arith in set_same n _ _ (λ b. ap f (omega arith)) ∙ ap (λ k. set_bytes k f) (sym z)
bits_before (suc m) n f =
    let z : 8 * suc m ≡ suc (suc (suc (suc (suc (suc (suc (suc (8 * m)))))))) = omega arith in
    let y : suc m + n ≡ suc (m + n) = omega arith in
    let (p, q) = bits_split (8 * m) f in
    let later : set_bytes n (λ b. f (8 * suc m + b)) ≡ set_bytes n (λ b. f (8 + (8 * m + b))) = set_same n _ _ (λ b. ap f (omega arith)) in
    ap₂ (λ (k : ℕ) (v : Bytes). little (suc m) (bits k f) ++ v) z later ∙ ap₂ (λ (x : ℕ) (v : Bytes). x ∷ v) p (ap (λ k. little m k ++ set_bytes n (λ b. f (8 + (8 * m + b)))) q ∙ bits_before m n (λ j. f (8 + j)))
    ∙ ap (λ k. set_bytes k f) (sym y)

set_words : (f : ℕ → Bool) → words_bytes (words_of f) ≡ set_bytes 32 f
unfolding words_bytes words_of word_of set_bytes
set_words f =
    let w : (i n : ℕ) (v : Bytes) → v ≡ set_bytes n (λ b. f (64 * suc i + b)) → little 8 (word_of f i) ++ v ≡ set_bytes (8 + n) (λ b. f (64 * i + b)) =
    λ i n v e. ap (λ (u : Bytes). little 8 (word_of f i) ++ u) (e ∙ set_same n _ _ (λ b. ap f (omega arith))) ∙ bits_before 8 n (λ b. f (64 * i + b)) in
    w 0 24 _ (w 1 16 _ (w 2 8 _ (w 3 0 [] refl))) ∙ set_same 32 _ _ (λ b. ap f (omega arith))

pub bytes_law : (m : Summary) (x : Packed) → x ≡ packed_of m → packed_bytes x ≡ summary_bytes m
unfolding packed_bytes summary_bytes packed_of
bytes_law m x e =
    ap packed_bytes e ∙ simp append_assoc (ap (λ (v : Bytes). le16 m.shortest (le16 m.longest v)) (set_words m.first))
