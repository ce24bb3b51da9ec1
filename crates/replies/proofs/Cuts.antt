-- A source without a tab, a tab and a label are cut so. Assumes nothing.
use mathlib.Core.Path.{◌≡◌, refl, sym, ap, ap₂, ◌∙◌}
use mathlib.Core.Bool.{Bool, true, false}
use mathlib.Core.List.{[], ◌∷◌, ◌++◌}
use mathlib.Core.Option.{some}
use Prim.Native.Nat.{ℕ, suc, ◌<◌}
use native.Mathlib.Numerals.{add-one}
use native.Mathlib.Omega.{arith}
use lib.Dec.{eqb}
use lib.ListN.{length, drop, length-append}
use lib.Seq.{take-append_seam, drop-append-add}
use borrow.Author.Tests.{eq-eqb, lt-ltb}
use Rattle.pattern.specs.Bytes.{Bytes}
use Rattle.pattern.proofs.Tests.{if_true}
use Rattle.replies.specs.Sizes.{tab_byte}
use Rattle.replies.specs.Reply.{index_of, cut_at, cut}

first_after : (b : ℕ) (u w : Bytes) → index_of b u ≡ length u → index_of b (u ++ b ∷ w) ≡ length u
unfolding index_of
first_after b [] w e = if_true _ _ _ (eq-eqb b b refl)
first_after b (c ∷ u) w e = go (eqb c b) e (first_after b u w)
  where
    go : (x : Bool) → (elim x [ true ↦ 0 | false ↦ suc (index_of b u) ]) ≡ suc (length u) → (index_of b u ≡ length u → index_of b (u ++ b ∷ w) ≡ length u)
        → (elim x [ true ↦ 0 | false ↦ suc (index_of b (u ++ b ∷ w)) ]) ≡ suc (length u)
    go true e r = absurd (omega arith)
    go false e r = ap suc (r (omega arith))

-- "cut at the first tab"
pub cut_first : (source label : Bytes) → index_of tab_byte source ≡ length source → cut (source ++ tab_byte ∷ label) ≡ some (source, label)
unfolding cut cut_at
cut_first source label e =
    let line : Bytes = source ++ tab_byte ∷ label in
    let there : length source < length line = omega (arith, length-append source (tab_byte ∷ label)) in
    ap (λ k. cut_at k line) (first_after tab_byte source label e) ∙ if_true _ _ _ (lt-ltb (length source) (length line) there)
    ∙ ap₂ (λ x y. some (x, y)) (take-append_seam source (tab_byte ∷ label)) (ap (λ k. drop k line) (sym (add-one (length source))) ∙ drop-append-add source (tab_byte ∷ label) 1)
