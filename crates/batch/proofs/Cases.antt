-- A batch by its cases: a bad table, what is lent unfit, or every label in turn. Assumes nothing.
use mathlib.Core.Path.{◌≡◌, sym, ap, ◌∙◌}
use mathlib.Core.Bool.{true, false}
use mathlib.Core.Option.{none, some}
use Prim.Native.Nat.{ℕ, ◌*◌}
use Rattle.pattern.specs.Numbers.{TABLE, BATCH}
use Rattle.pattern.specs.Bytes.{Bytes, numbers_in}
use Rattle.pattern.specs.Syntax.{pattern, Syntax, top_size}
use Rattle.pattern.specs.Decode.{decode}
use Rattle.pattern.proofs.Tests.{if_true, if_false}
use Rattle.batch.specs.Batch.{labels_from, unfit, batch_output, in_turn, batched, batch_of}

module _ (table buffer ends scratch verdicts parts : Bytes) (budget : ℕ) where
  pub bad_refused : decode table ≡ none → batch_of table buffer ends scratch verdicts parts budget ≡ batch_output TABLE scratch verdicts parts
  unfolding batch_of batched
  bad_refused e = rw e

  module _ (t : Syntax pattern) (good : decode table ≡ some t) (T : ℕ) (is : T ≡ top_size t) where
    decoded : batch_of table buffer ends scratch verdicts parts budget ≡ batched (some t) table buffer ends scratch verdicts parts budget
    unfolding batch_of
    decoded = ap (λ o. batched o table buffer ends scratch verdicts parts budget) good

    unfit_by : unfit (2 * top_size t) buffer ends verdicts parts ≡ unfit (2 * T) buffer ends verdicts parts
    unfit_by = ap (λ n. unfit (2 * n) buffer ends verdicts parts) (sym is)

    pub unfit_refused : unfit (2 * T) buffer ends verdicts parts ≡ true → batch_of table buffer ends scratch verdicts parts budget ≡ batch_output BATCH scratch verdicts parts
    unfolding batched
    unfit_refused u = decoded ∙ if_true _ _ _ (unfit_by ∙ u)

    pub fit_in_turn : unfit (2 * T) buffer ends verdicts parts ≡ false
        → batch_of table buffer ends scratch verdicts parts budget ≡ in_turn table (2 * T) budget (labels_from 0 (numbers_in ends) buffer) scratch verdicts parts
    unfolding batched
    fit_in_turn u = decoded ∙ if_false _ _ _ (unfit_by ∙ u) ∙ ap (λ n. in_turn table (2 * n) budget (labels_from 0 (numbers_in ends) buffer) scratch verdicts parts) (sym is)
