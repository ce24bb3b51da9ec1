-- "Every call not refused with 9 or 18 leaves a good buffer" and "refusals change nothing in the register", of the calls from C. Assumes nothing.
use mathlib.Core.Path.{◌≡◌, refl}
use mathlib.Core.Bool.{Bool, true, false}
use mathlib.Core.Option.{some}
use Prim.Native.Nat.{ℕ}
use lib.Dec.{leb}
use lib.ListN.{length}
use Rattle.pattern.specs.Numbers.{ANSWER, REGISTER}
use Rattle.pattern.specs.Bytes.{Bytes}
use Rattle.pattern.specs.Answers.{refusal}
use Rattle.register.specs.Maps.{Map, Changed}
use Rattle.register.specs.Layout.{register_of}
use Rattle.register.specs.Register.{init_of, store_of, remove_of}
use Rattle.register.specs.Turns.{init, store, remove, response_number, register_step}
use Rattle.register.proofs.Turns.{good_after, refused_leaves}
use Rattle.mpt.specs.Area.{area_size, area}
use Rattle.mpt.specs.Calls.{Called, called_if, called, change_call, init_call, store_call, remove_call}

-- not refused with 9 or 18, the register means a map
abbrev pub LeavesGood : Called Bytes → Type 0
LeavesGood o = ¬ (o.number ≡ ANSWER) → ¬ (o.number ≡ REGISTER) → (m : Map) × (register_of o.lent ≡ some m)

change_good : (c : Changed Bytes) (lent answer : Bytes) → (¬ (c.number ≡ REGISTER) → (m : Map) × (register_of c.after ≡ some m)) → LeavesGood (change_call c lent answer)
unfolding change_call called called_if
change_good c lent answer good = go (leb area_size (length answer))
  where
    go : (b : Bool) → LeavesGood (called_if b c.number (area (refusal c.number 0)) c.after lent answer)
    go true not_9 not_18 = good not_18
    go false not_9 not_18 = absurd (not_9 refl)

-- refused, with 9 too, every byte of the register is as it was
abbrev pub RefusalLeaves : (lent : Bytes) → Called Bytes → Type 0
RefusalLeaves lent o = ¬ (o.number ≡ 0) → o.lent ≡ lent

change_same : (c : Changed Bytes) (lent answer : Bytes) → (¬ (c.number ≡ 0) → c.after ≡ lent) → RefusalLeaves lent (change_call c lent answer)
unfolding change_call called called_if
change_same c lent answer same = go (leb area_size (length answer))
  where
    go : (b : Bool) → RefusalLeaves lent (called_if b c.number (area (refusal c.number 0)) c.after lent answer)
    go true n = same n
    go false n = refl

module _ (lent : Bytes) where
  pub init_good : (answer : Bytes) → LeavesGood (init_call lent answer)
  unfolding init_call register_step response_number
  init_good answer = change_good (init_of lent) lent answer (good_after lent init)

  pub store_good : (number : ℕ) (table answer : Bytes) → LeavesGood (store_call lent number table answer)
  unfolding store_call register_step response_number
  store_good number table answer = change_good (store_of lent number table) lent answer (good_after lent (store number table))

  pub remove_good : (number : ℕ) (answer : Bytes) → LeavesGood (remove_call lent number answer)
  unfolding remove_call register_step response_number
  remove_good number answer = change_good (remove_of lent number) lent answer (good_after lent (remove number))

  pub init_same : (answer : Bytes) → RefusalLeaves lent (init_call lent answer)
  unfolding init_call register_step response_number
  init_same answer = change_same (init_of lent) lent answer (refused_leaves lent init)

  pub store_same : (number : ℕ) (table answer : Bytes) → RefusalLeaves lent (store_call lent number table answer)
  unfolding store_call register_step response_number
  store_same number table answer = change_same (store_of lent number table) lent answer (refused_leaves lent (store number table))

  pub remove_same : (number : ℕ) (answer : Bytes) → RefusalLeaves lent (remove_call lent number answer)
  unfolding remove_call register_step response_number
  remove_same number answer = change_same (remove_of lent number) lent answer (refused_leaves lent (remove number))
