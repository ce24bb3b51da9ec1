-- A stretch of a label, cut in two. Assumes nothing.
use mathlib.Core.Path.{◌≡◌, refl, sym, ap, ◌∙◌}
use mathlib.Core.List.{[], ◌∷◌, ◌++◌}
use Prim.Native.Nat.{ℕ, zero, suc, ◌+◌, ◌-◌, ◌≤◌}
use native.Mathlib.Nat.{sub-zero, zero-sub, suc-sub-suc}
use native.Mathlib.Omega.{arith}
use lib.ListN.{length, take, drop, length-append, take-append-drop}
use lib.Seq.{slice, length-slice, length-take-le, take-take, drop-append-le, take_at, drop_at, take-nil}
use Rattle.pattern.specs.Bytes.{Bytes}

-- a stretch, taken from its start
pub slice_take : (l : Bytes) (i j : ℕ) → slice i j l ≡ take (j - i) (drop i l)
slice_take l zero j = rw sub-zero
slice_take l (suc i) zero = rw zero-sub
slice_take [] (suc i) (suc j) = sym (take-nil (suc j - suc i))
slice_take (b ∷ l) (suc i) (suc j) = slice_take l i j ∙ rw suc-sub-suc

-- a stretch is its two parts, cut at any place
pub cut_slice : (l : Bytes) (i m j : ℕ) → i ≤ m → m ≤ j → j ≤ length l → slice i j l ≡ slice i m l ++ slice m j l
cut_slice l i m j h k f =
    ap (drop i) (sym (take-append-drop m (take j l)) ∙ ap (λ (t : Bytes). t ++ slice m j l) (take-take m j l k))
    ∙ drop-append-le i (take m l) (slice m j l) (rw (length-take-le m l (omega arith)) h)

-- a stretch that is a and then b is cut where a ends
pub slice_cut : (l a b : Bytes) (i j : ℕ) → i ≤ j → j ≤ length l → slice i j l ≡ a ++ b
    → (i + length a ≤ j) × (slice i (i + length a) l ≡ a) × (slice (i + length a) j l ≡ b)
slice_cut l a b i j h k e =
    let m : ℕ = i + length a in
    let s : j - i ≡ length a + length b = sym (length-slice i j l k) ∙ ap length e ∙ length-append a b in
    let f : m ≤ j = omega arith in
    let g : slice i m l ++ slice m j l ≡ a ++ b = sym (cut_slice l i m j (omega arith) f k) ∙ e in
    let n : length (slice i m l) ≡ length a = length-slice i m l (omega arith) ∙ omega arith in (
      f,
      sym (take_at (slice i m l) (slice m j l) (length a) n) ∙ ap (take (length a)) g ∙ take_at a b (length a) refl,
      sym (drop_at (slice i m l) (slice m j l) (length a) n) ∙ ap (drop (length a)) g ∙ drop_at a b (length a) refl,
    )
