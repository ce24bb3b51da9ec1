-- What a plain map answers, case by case. Assumes nothing.
use mathlib.Core.Path.{◌≡◌, refl, sym, subst}
use mathlib.Core.Logic.{⊎_elim}
use mathlib.Core.Bool.{Bool, true, false}
use mathlib.Core.List.{[]}
use Prim.Native.Nat.{ℕ, ◌≤◌, ◌<◌}
use borrow.Author.Tests.{lt-ltb, le-ltb}
use lib.ListN.{set}
use Rattle.pattern.specs.Numbers.{TABLE, FULL, MISSING}
use Rattle.pattern.specs.Bytes.{Bytes}
use Rattle.pattern.specs.Scan.{refuse}
use Rattle.pattern.proofs.Tests.{le_or_lt}
use Rattle.register.specs.Maps.{Map, total, is_table, missing, Changed, change, store_in, remove_in}

module _ (capacity : ℕ) (m : Map) (k : ℕ) (t : Bytes) where
  pub store_bad : is_table t ≡ false → store_in capacity m k t ≡ record { number = TABLE; after = m }
  unfolding store_in change refuse
  store_bad g = rw g

  module _ (g : is_table t ≡ true) where
    pub store_full : capacity < total (set m k t) → store_in capacity m k t ≡ record { number = FULL; after = m }
    unfolding store_in change refuse
    store_full h = rw (g, lt-ltb capacity (total (set m k t)) h)

    pub store_done : total (set m k t) ≤ capacity → store_in capacity m k t ≡ record { number = 0; after = set m k t }
    unfolding store_in change refuse
    store_done h = rw (g, le-ltb capacity (total (set m k t)) h)

  -- whatever holds in each case holds
  pub store_cases : (P : Changed Map → Type 0)
      → (is_table t ≡ false → P (record { number = TABLE; after = m }))
      → (is_table t ≡ true → capacity < total (set m k t) → P (record { number = FULL; after = m }))
      → (is_table t ≡ true → total (set m k t) ≤ capacity → P (record { number = 0; after = set m k t }))
      → P (store_in capacity m k t)
  store_cases P bad full done = tested (is_table t) refl
    where
      tested : (b : Bool) → is_table t ≡ b → P (store_in capacity m k t)
      tested true g = ⊎_elim (λ h. subst P (sym (store_done g h)) (done g h)) (λ h. subst P (sym (store_full g h)) (full g h)) (le_or_lt (total (set m k t)) capacity)
      tested false g = subst P (sym (store_bad g)) (bad g)

module _ (m : Map) (k : ℕ) where
  pub remove_missing : missing m k ≡ true → remove_in m k ≡ record { number = MISSING; after = m }
  unfolding remove_in change refuse
  remove_missing h = rw h

  pub remove_done : missing m k ≡ false → remove_in m k ≡ record { number = 0; after = set m k [] }
  unfolding remove_in change refuse
  remove_done h = rw h

  pub remove_cases : (P : Changed Map → Type 0)
      → (missing m k ≡ true → P (record { number = MISSING; after = m }))
      → (missing m k ≡ false → P (record { number = 0; after = set m k [] }))
      → P (remove_in m k)
  remove_cases P none done = tested (missing m k) refl
    where
      tested : (b : Bool) → missing m k ≡ b → P (remove_in m k)
      tested true h = subst P (sym (remove_missing h)) (none h)
      tested false h = subst P (sym (remove_done h)) (done h)
