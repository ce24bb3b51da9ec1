-- What the calls on a register answer, and every lent byte afterwards. To be believed.
use Rattle.std.specs.Prelude.{[], ◌∷◌, ℕ, ltb, length}
use Rattle.std.proofs.Math.Option.{Option, none, some}
use Rattle.pattern.specs.Numbers.{REGISTER}
use Rattle.pattern.specs.Bytes.{Bytes, overwrite}
use Rattle.pattern.specs.Scan.{refuse}
use Rattle.pattern.specs.Answers.{MatchOutput, untried, ended}
use Rattle.register.specs.Maps.{Map, empty, Changed, change, store_in, remove_in, match_in}
use Rattle.register.specs.Layout.{laid_out, overhead, capacity, register_of}

-- "start empty": the length alone is looked at, "a shorter buffer is refused with 18, by every call"
unfoldable pub init_of : (lent : Bytes) → Changed Bytes
init_of lent = change (refuse ((ltb (length lent) overhead, REGISTER) ∷ [])) lent (overwrite (laid_out empty) lent)

-- "refused with 18 by all calls but starting empty"; else a plain map's answer, and what it becomes laid out, the bytes after it as they were
unfoldable pub in_register : Option Map → (Map → Changed Map) → (lent : Bytes) → Changed Bytes
in_register none call lent = record { number = REGISTER; after = lent }
in_register (some m) call lent = let c : Changed Map = call m in record { number = c.number; after = overwrite (laid_out c.after) lent }

unfoldable pub store_of : (lent : Bytes) → (number : ℕ) → (table : Bytes) → Changed Bytes
store_of lent k t = in_register (register_of lent) (λ m. store_in (capacity lent) m k t) lent

unfoldable pub remove_of : (lent : Bytes) → (number : ℕ) → Changed Bytes
remove_of lent k = in_register (register_of lent) (λ m. remove_in m k) lent

-- a match leaves the register as it is: the call only reads it
unfoldable pub match_number_of : (lent : Bytes) → (number : ℕ) → (label scratch parts : Bytes) → (budget : ℕ) → MatchOutput
match_number_of lent k label scratch parts budget =
    elim (register_of lent) [ none ↦ ended (untried REGISTER) scratch parts | some m ↦ match_in m k label scratch parts budget ]
