-- What an exact summary rules out, and that it does not satisfy the pattern. Assumes nothing.
use mathlib.Core.Path.{◌≡◌, refl, sym, ap, subst, ◌∙◌}
use mathlib.Core.Logic.{◌↔◌, ◌⊎◌, inl, inr, ⊎_elim}
use mathlib.Core.Bool.{Bool, true, false, not}
use mathlib.Core.List.{[], ◌∷◌}
use mathlib.Core.Option.{none, some}
use Prim.Native.Nat.{ℕ, suc, ◌≤◌, ◌<◌}
use native.Mathlib.Omega.{arith}
use lib.Dec.{T}
use lib.ListN.{length}
use Rattle.pattern.specs.Numbers.{label_limit}
use Rattle.pattern.specs.Bytes.{Bytes}
use Rattle.pattern.specs.Syntax.{Sort, pattern, Syntax}
use Rattle.pattern.specs.Meaning.{Satisfies}
use Rattle.pattern.specs.Parts.{verdict}
use Rattle.pattern.specs.Within.{Ordered}
use Rattle.pattern.specs.Decode.{decode}
use Rattle.pattern.proofs.Tests.{Decides, via, either, no_test, leb_decides, true-T, passed, le_or_lt}
use Rattle.pattern.proofs.Calls.{unsatisfied_no, good_ordered, good_limited, print_compiles}
use Rattle.stores.proofs.Little.{Octets}
use Rattle.summary.specs.Summary.{length_cap, Summary, Exact, summary_of, length_out, first_out, rules_out, RuledOut, too_short, too_long, never_first}
use Rattle.summary.proofs.Exactness.{first_decides}
use Rattle.summary.proofs.Summaries.{exact}
use Rattle.summary.proofs.ByteStrings.{byte_strings}

-- ---- exact summaries

failed : (b : Bool) → ¬ T b → b ≡ false
failed true f = absurd (f tt)
failed false f = refl

fails : {b : Bool} {X : Type 0} → Decides b X → Decides (not b) (¬ X)
fails {b = true} d = record { sound = λ t. absurd t; complete = λ f. f (d.sound tt) }
fails {b = false} d = record { sound = λ t. d.complete; complete = λ f. tt }

module _ {P : Bytes → Type 0} {m : Summary} (x : Exact P m) where
  -- where nothing satisfies, it says 256, 0 and no byte
  pub impossible : ((s : Bytes) → ¬ P s) → (m.shortest ≡ length_cap) × (m.longest ≡ 0) × ((b : ℕ) → m.first b ≡ false)
  impossible f = (
    ⊎_elim (λ l. omega (arith, x.shortest.capped)) (λ l. let (s, p, e) = x.shortest.met l in absurd (f s p)) (le_or_lt length_cap m.shortest),
    ⊎_elim (λ l. omega arith) (λ l. let (s, p, e) = x.longest.met l in absurd (f s p)) (le_or_lt m.longest 0),
    λ b. failed (m.first b) (λ t. let (s, p) = x.first.sound b t in f (b ∷ s) p),
  )

  abbrev NeverFirst : Bytes → Type 0
  NeverFirst l = (b : ℕ) × (rest : Bytes) × (l ≡ b ∷ rest) × ((s : Bytes) → ¬ P (b ∷ s))

  first_decided : (l : Bytes) → Decides (first_out m l) (NeverFirst l)
  unfolding first_out
  first_decided [] = no_test (λ (b, rest, e, f). omega (arith, ap length e))
  first_decided (b ∷ l) = via (fails (first_decides x b)) (λ f. (b, l, refl, λ s p. f (s, p)), λ (c, rest, e, f) (s, p). f s (let g : b ≡ c = cc in rw g at p))

  module _ (l : Bytes) (short : length l ≤ label_limit) where
    by_lengths : RuledOut P l → ((length l < m.shortest) ⊎ (m.longest < length l)) ⊎ NeverFirst l
    by_lengths (too_short f) =
        inl (inl (⊎_elim (λ h. omega arith) (λ h. let (s, p, e) = x.shortest.met h in omega (arith, f s p)) (le_or_lt length_cap m.shortest)))
    by_lengths (too_long f) =
        let empty : m.longest ≤ 0 → length l ≤ m.longest → length l < m.shortest = λ h k. omega (arith, (impossible (λ s p. omega (arith, f s p))).0) in
        inl (⊎_elim (λ k. inl (⊎_elim (λ h. empty h k) (λ h. let (s, p, e) = x.longest.met h in absurd (omega (arith, f s p))) (le_or_lt m.longest 0))) inr (le_or_lt (length l) m.longest))
    by_lengths (never_first b rest e f) = inr (b, rest, e, f)

    decided : Decides (rules_out m l) (RuledOut P l)
    unfolding rules_out length_out
    decided = via (either (either (leb_decides (suc (length l)) m.shortest) (leb_decides (suc m.longest) (length l))) (first_decided l)) (
      ⊎_elim (⊎_elim (λ h. too_short (λ s p. omega (arith, x.shortest.least s p))) (λ h. too_long (λ s p. omega (arith, x.longest.most s p))))
          (λ (b, rest, e, f). never_first b rest e f),
      by_lengths,
    )

    -- an exact summary rules out exactly what the set itself does
    pub ruled_out_exactly : (rules_out m l ≡ true) ↔ RuledOut P l
    ruled_out_exactly = (λ e. decided.sound (true-T _ e), λ r. passed _ (decided.complete r))

    -- a label of the set is not ruled out
    pub exact_keeps : P l → rules_out m l ≡ false
    exact_keeps p = failed (rules_out m l) (λ t. kept (decided.sound t))
      where
        kept : ¬ RuledOut P l
        kept (too_short f) = omega (arith, f l p)
        kept (too_long f) = omega (arith, f l p)
        kept (never_first b rest e f) = f rest (rw e at p)

-- ---- trees

pub never_ruled_out : {s : Sort} (t : Syntax s) → Ordered t → (l : Bytes) → length l ≤ label_limit → Satisfies t l → rules_out (summary_of t) l ≡ false
never_ruled_out t o = exact_keeps (exact t o)

-- ---- good tables

module _ (table : Bytes) (t : Syntax pattern) (good : decode table ≡ some t) where
  table_ordered : Ordered t
  table_ordered = good_ordered 0 t (good_limited table t good).tree

  pub table_exact : Exact (Satisfies t) (summary_of t)
  table_exact = exact t table_ordered

  pub table_ruled_out_exactly : (l : Bytes) → length l ≤ label_limit → (rules_out (summary_of t) l ≡ true) ↔ RuledOut (Satisfies t) l
  table_ruled_out_exactly = ruled_out_exactly table_exact

  pub table_never_ruled_out : (l : Bytes) → length l ≤ label_limit → Satisfies t l → rules_out (summary_of t) l ≡ false
  table_never_ruled_out = never_ruled_out t table_ordered

  pub table_byte_strings : (s : Bytes) → Satisfies t s → Octets s
  table_byte_strings = byte_strings t _ (print_compiles table t good).derives

  -- a call for a label that is ruled out would have answered no
  pub ruled_out_verdict : (l : Bytes) → length l ≤ label_limit → rules_out (summary_of t) l ≡ true → verdict l t ≡ none
  ruled_out_verdict l h r = unsatisfied_no table t good l (λ p. subst T (sym r ∙ table_never_ruled_out l h p) tt)
