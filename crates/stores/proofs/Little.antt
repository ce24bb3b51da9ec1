-- Numbers in bytes and back, as std writes and reads them. Assumes nothing.
use mathlib.Core.Path.{◌≡◌, refl, sym, ap, ap₂, ◌∙◌}
use mathlib.Core.List.{[], ◌∷◌, append_assoc}
use Prim.Native.Nat.{ℕ, zero, suc, ◌+◌, ◌*◌, ◌-◌, ◌/◌, ◌%◌, ◌^◌, ◌<◌, ◌≤◌}
use native.Mathlib.Nat.{pow-suc, div-div-eq-div-mul}
use native.Mathlib.Omega.{arith}
use borrow.Rule.Slice.PartMut.{put_mid}
use lib.ListN.{length, get_or, take, drop}
use lib.Seq.{get_or-drop, drop-drop, sets-eq}
use Rattle.std.specs.Int.{w16, w32, w64, byte_at, bytes_low_first, to_le_bytes, from_le_bytes}
use Rattle.pattern.specs.Bytes.{Bytes, le16, little, number_in}
use Rattle.pattern.specs.Decode.{field}
use Rattle.pattern.specs.Stores.{store_at, Puts}
use Rattle.pattern.proofs.Stores.{puts_as}

-- std's bytes of a number from byte i on
low_first : (i k x : ℕ) → bytes_low_first i k x ≡ little k (x / 256 ^ i)
unfolding little
low_first i zero x = refl
low_first i (suc k) x = ap₂ (λ (b : ℕ) (v : Bytes). b ∷ v) (byte i) (low_first (suc i) k x ∙ ap (little k) (ap (λ d. x / d) (pow-suc 256 i) ∙ sym (div-div-eq-div-mul x (256 ^ i) 256)))
  where
    byte : (i : ℕ) → byte_at i x ≡ x / 256 ^ i % 256
    byte zero = omega arith
    byte (suc i) = refl

module _ {l : Bytes} {n : ℕ} {v l' : Bytes} {m : ℕ} (h : Puts l n v l' m) where
  -- a number stored as std writes it
  pub puts_two : (x : ℕ) → x < 65536 → v ≡ to_le_bytes w16 x → Puts l n (le16 x []) l' m
  puts_two x k e = let d : x / 256 % 256 ≡ x / 256 = omega arith in puts_as h (e ∙ ap (λ (b : ℕ). x % 256 ∷ b ∷ []) d)

  pub puts_four : (x : ℕ) → v ≡ to_le_bytes w32 x → Puts l n (little 4 x) l' m
  puts_four x e = let d : x / 1 ≡ x = omega arith in puts_as h (e ∙ low_first 0 4 x ∙ ap (little 4) d)

  pub puts_eight : (x : ℕ) → v ≡ to_le_bytes w64 x → Puts l n (little 8 x) l' m
  puts_eight x e = let d : x / 1 ≡ x = omega arith in puts_as h (e ∙ low_first 0 8 x ∙ ap (little 8) d)

-- a part of lent bytes that is written over
pub puts_part : (l : Bytes) (n : ℕ) (v w : Bytes) → n + length v ≤ length l → w ≡ v → Puts l n v (put_mid n (n + length v - n) l w) (n + length v)
unfolding store_at
puts_part l n v w h e =
    let k : n + length v - n ≡ length v = omega arith in
    record { bytes = rw (e, k, drop-drop (length v) n l) (sym (sets-eq v l n h ∙ append_assoc (take n l) v (drop (n + length v) l))); next = refl }

pub length_little : (c x : ℕ) → length (little c x) ≡ c
unfolding little
length_little zero x = refl
length_little (suc c) x = ap suc (length_little c (x / 256))

-- a number below 2^32 is read as it was written
pub number_little : (x : ℕ) → x < 4294967296 → number_in (little 4 x) ≡ x
unfolding little number_in
number_little x h = omega arith

-- every byte is below 256
abbrev pub Octets : Bytes → Type 0
Octets s = (k : ℕ) → get_or s k 0 < 256

pub octets_drop : (n : ℕ) (s : Bytes) → Octets s → Octets (drop n s)
octets_drop n s f k = rw get_or-drop (f (n + k))

pub octets_take : (n : ℕ) (s : Bytes) → Octets s → Octets (take n s)
octets_take zero s f k = omega arith
octets_take (suc n) [] f k = omega arith
octets_take (suc n) (b ∷ s) f zero = f 0
octets_take (suc n) (b ∷ s) f (suc k) = octets_take n s (λ j. f (suc j)) k

-- bytes are what their number is written as
pub little_number : (s : Bytes) → Octets s → little (length s) (number_in s) ≡ s
unfolding little number_in
little_number [] f = refl
little_number (b ∷ s) f =
    let low : (b + 256 * number_in s) % 256 ≡ b = omega (arith, f 0) in
    let high : (b + 256 * number_in s) / 256 ≡ number_in s = omega (arith, f 0) in
    rw (low, high, little_number s (λ k. f (suc k)))

-- ---- one byte, and two

one : (s : Bytes) → number_in (take 1 s) ≡ get_or s 0 0
unfolding number_in
one [] = refl
one (a ∷ s) = omega arith

pub number_byte : (s : Bytes) (i : ℕ) → number_in (take 1 (drop i s)) ≡ get_or s i 0
number_byte s i =
    let e : i + 0 ≡ i = omega arith in
    one (drop i s) ∙ get_or-drop i s 0 0 ∙ ap (λ k. get_or s k 0) e

two : (s : Bytes) → number_in (take 2 s) ≡ get_or s 0 0 + 256 * get_or s 1 0
unfolding number_in
two [] = refl
two (a ∷ []) = omega arith
two (a ∷ b ∷ s) = omega arith

pub number_field : (s : Bytes) (i : ℕ) → number_in (take 2 (drop i s)) ≡ field s i
number_field s i =
    let e : i + 0 ≡ i = omega arith in
    let first : get_or (drop i s) 0 0 ≡ get_or s i 0 = get_or-drop i s 0 0 ∙ ap (λ k. get_or s k 0) e in
    omega (arith, two (drop i s), first, get_or-drop i s 1 0)

-- ---- four bytes

four : (s : Bytes) → number_in (take 4 s) ≡ get_or s 0 0 + get_or s 1 0 * 256 + get_or s 2 0 * 65536 + get_or s 3 0 * 16777216
unfolding number_in
four [] = refl
four (a ∷ []) = omega arith
four (a ∷ b ∷ []) = omega arith
four (a ∷ b ∷ c ∷ []) = omega arith
four (a ∷ b ∷ c ∷ d ∷ s) = omega arith

pub number_four : (s : Bytes) (i : ℕ) → from_le_bytes w32 (get_or s i 0 ∷ get_or s (i + 1) 0 ∷ get_or s (i + 2) 0 ∷ get_or s (i + 3) 0 ∷ []) ≡ number_in (take 4 (drop i s))
number_four s i =
    let e : i + 0 ≡ i = omega arith in
    let first : get_or (drop i s) 0 0 ≡ get_or s i 0 = get_or-drop i s 0 0 ∙ ap (λ k. get_or s k 0) e in
    omega (arith, four (drop i s), first, get_or-drop i s 1 0, get_or-drop i s 2 0, get_or-drop i s 3 0)
