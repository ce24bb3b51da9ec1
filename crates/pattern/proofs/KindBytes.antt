-- The kinds of a record and their bytes. Assumes nothing.
use mathlib.Core.Path.{◌≡◌, refl, ap, ◌∙◌}
use mathlib.Core.Bool.{Bool, true, false}
use Prim.Native.Nat.{ℕ}
use native.Mathlib.Omega.{arith}
use lib.Dec.{eqb}
use borrow.Author.Tests.{eqb-true}
use Rattle.std.specs.Prelude.{Some, None}
use Rattle.std.proofs.lemmas.Option.{same_Some}
use Rattle.pattern.specs.Numbers.{codes_kind, literal_kind, group_kind}
use Rattle.pattern.specs.Kinds.{byte_of, kind_of}
use Rattle.pattern.specs.declared.kind.Kind.{Kind}
use Rattle.pattern.specs.declared.kind.Kind.TheVariants.{Codes, Literal, Group}

-- the byte of a kind has it
pub kind_of_byte : (k : Kind) → kind_of (byte_of k) ≡ Some k
unfolding kind_of
kind_of_byte Codes = refl
kind_of_byte Literal = refl
kind_of_byte Group = refl

-- and no other byte has it
pub kind_byte : (b : ℕ) (k : Kind) → kind_of b ≡ Some k → b ≡ byte_of k
unfolding kind_of
kind_byte b k e = first (eqb b codes_kind) refl e
  where
    third : (t : Bool) → eqb b group_kind ≡ t → elim t [ true ↦ Some Group | false ↦ None ] ≡ Some k → b ≡ byte_of k
    third true f e = eqb-true b group_kind f ∙ ap byte_of (same_Some Group k e)
    third false f e = cc

    second : (t : Bool) → eqb b literal_kind ≡ t → elim t [ true ↦ Some Literal | false ↦ elim (eqb b group_kind) [ true ↦ Some Group | false ↦ None ] ] ≡ Some k → b ≡ byte_of k
    second true f e = eqb-true b literal_kind f ∙ ap byte_of (same_Some Literal k e)
    second false f e = third (eqb b group_kind) refl e

    first : (t : Bool) → eqb b codes_kind ≡ t
        → elim t [ true ↦ Some Codes | false ↦ elim (eqb b literal_kind) [ true ↦ Some Literal | false ↦ elim (eqb b group_kind) [ true ↦ Some Group | false ↦ None ] ] ] ≡ Some k → b ≡ byte_of k
    first true f e = eqb-true b codes_kind f ∙ ap byte_of (same_Some Codes k e)
    first false f e = second (eqb b literal_kind) refl e

-- a byte without a kind is of none of them
pub kind_none : (b : ℕ) (k : Kind) → kind_of b ≡ None → b ≡ byte_of k → ⊥
kind_none b k e f = let g : kind_of b ≡ Some k = ap kind_of f ∙ kind_of_byte k in let h : ◌≡◌ {A = ℕ} 0 1 = cc in absurd (omega arith)
