-- A count of trials against a budget. Private: a model for contracts inside the library.
use Rattle.std.specs.Prelude.{◌≡◌, ℕ, ◌+◌, ◌<◌, Option, None, Some}
use Rattle.planes.specs.declared.budget.Budget.{Budget}

-- the budget with so many trials counted, none where they pass its limit
abbrev pub Counted : Budget → (trials : ℕ) → Option Budget → Type 0
Counted b trials None = b.limit < b.spent + trials
Counted b trials (Some c) = (c.limit ≡ b.limit) × (c.spent ≡ b.spent + trials)
