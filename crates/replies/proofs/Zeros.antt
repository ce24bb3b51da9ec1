-- Bytes that are zero: parts of them, zeros over others, and scratch after a match and after a line. Assumes nothing.
use mathlib.Core.Path.{◌≡◌, refl, sym, ap, ◌∙◌}
use mathlib.Core.Bool.{Bool, true, false}
use mathlib.Core.List.{◌∷◌, ◌++◌}
use mathlib.Core.Option.{Option, none, some}
use Prim.Native.Nat.{ℕ, zero, suc, ◌+◌, ◌≤◌}
use native.Mathlib.Omega.{arith}
use lib.Dec.{eqb, ltb}
use lib.ListN.{length, take, drop, replicate, length-replicate, take-append-drop, replicate-append-replicate}
use Rattle.pattern.specs.Numbers.{parts_room}
use Rattle.pattern.specs.Versions.{table_room}
use Rattle.pattern.specs.Bytes.{Bytes, zeroed}
use Rattle.pattern.specs.Decode.{decode}
use Rattle.pattern.specs.Answers.{compile_of, Ending, untried, exhausted, decided, ended}
use Rattle.pattern.proofs.Calls.{match_cases, lent_fits}
use Rattle.replies.specs.Sizes.{line_limit, budget}
use Rattle.replies.specs.Reply.{cut, Reply, ending_reply, label_reply, table_reply, source_reply, cut_reply, reply}
use Rattle.replies.specs.Stores.{Zero}

-- one of two, by a test
pub either_same : {A : Type 0} (f : A → Bytes) (b : Bool) (x y : A) {s : Bytes} → f x ≡ s → f y ≡ s → f (elim b [ true ↦ x | false ↦ y ]) ≡ s
either_same f true x y p q = p
either_same f false x y p q = q

abbrev zeros_of : ℕ → Bytes
zeros_of n = replicate n 0

-- what is left of bytes that are all the same
pub drop_same : (k n a : ℕ) → (m : ℕ) × (drop k (replicate n a) ≡ replicate m a)
drop_same zero n a = (n, refl)
drop_same (suc k) zero a = (0, refl)
drop_same (suc k) (suc n) a = drop_same k n a

pub blank_zero : (n : ℕ) (s : Bytes) → s ≡ zeros_of n → Zero s
blank_zero n s e = e ∙ ap zeros_of (sym (length-replicate {A = ℕ} n 0) ∙ sym (ap length e))

-- zeros further on, and over what isn't zero yet
pub drop_zero : (k : ℕ) (s : Bytes) → Zero s → Zero (drop k s)
drop_zero k s z = let (m, e) = drop_same k (length s) 0 in blank_zero m (drop k s) (ap (drop k) z ∙ e)

pub rest_zeroed : (n : ℕ) (s : Bytes) → Zero (drop n s) → Zero (zeroed n s)
rest_zeroed n s z = blank_zero (n + length (drop n s)) (zeroed n s) (ap (λ v. zeros_of n ++ v) z ∙ replicate-append-replicate n (length (drop n s)) 0)

-- zeros over zeros
take_blank : (k n : ℕ) → k ≤ n → take k (zeros_of n) ≡ zeros_of k
take_blank zero n h = refl
take_blank (suc k) zero h = absurd (omega arith)
take_blank (suc k) (suc n) h = ap (λ v. 0 ∷ v) (take_blank k n (omega arith))

zeroed_zero : (k : ℕ) (s : Bytes) → k ≤ length s → Zero s → zeroed k s ≡ s
zeroed_zero k s h z = ap (λ v. v ++ drop k s) (sym (take_blank k (length s) h) ∙ ap (take k) (sym z)) ∙ take-append-drop k s

-- ---- scratch of zeros stays so: after a match and after a line

-- the scratch bytes that a match used are not more than these
Used : Ending → ℕ → Type 0
Used (untried number) n = Unit {0}
Used (exhausted used budget) n = used ≤ n
Used (decided used trials v) n = used ≤ n

module _ (scratch : Bytes) (z : Zero scratch) where
  ended_same : (parts : Bytes) (e : Ending) → Used e (length scratch) → (ended e scratch parts).scratch ≡ scratch
  unfolding ended Used
  ended_same parts (untried number) h = refl
  ended_same parts (exhausted used budget) h = zeroed_zero used scratch h z
  ended_same parts (decided used trials none) h = zeroed_zero used scratch h z
  ended_same parts (decided used trials (some ends)) h = zeroed_zero used scratch h z

  label_same : (table label : Bytes) → (label_reply table label scratch).scratch ≡ scratch
  unfolding label_reply ending_reply Used
  label_same table label =
      let parts : Bytes = replicate parts_room 0 in
      ended_same parts _ (match_cases (λ e. Used e (length scratch)) (decode table) label scratch parts budget (λ n l h. tt) (λ t d f h. (lent_fits t label scratch parts f).scratch_long) (λ t d f h. (lent_fits t label scratch parts f).scratch_long))

  source_same : (source label : Bytes) → (source_reply source label scratch).scratch ≡ scratch
  unfolding source_reply table_reply
  source_same source label = let c = compile_of source (replicate table_room 0) in either_same (λ (r : Reply). r.scratch) (eqb c.answer.number 0) _ _ (label_same (take c.answer.value c.bytes) label) refl

  cut_same : (o : Option (Bytes × Bytes)) → (cut_reply o scratch).scratch ≡ scratch
  unfolding cut_reply
  cut_same none = refl
  cut_same (some (source, label)) = source_same source label

  pub reply_same : (line : Bytes) → (reply line scratch).scratch ≡ scratch
  unfolding reply
  reply_same line = either_same (λ (r : Reply). r.scratch) (ltb line_limit (length line)) _ _ refl (cut_same (cut line))
