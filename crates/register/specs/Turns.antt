-- Calls in turn, on a plain map and on a register. To be believed.
use Rattle.std.specs.Prelude.{◌≡◌, List, [], ◌∷◌, ℕ, ◌+◌, length, drop}
use Rattle.std.proofs.Math.Option.{some}
use Rattle.pattern.specs.Bytes.{Bytes}
use Rattle.pattern.specs.Answers.{MatchOutput}
use Rattle.register.specs.Maps.{Map, empty, total, Changed, store_in, remove_in, match_in}
use Rattle.register.specs.Layout.{overhead, register_of}
use Rattle.register.specs.Register.{init_of, store_of, remove_of, match_number_of}

-- "start empty, store or replace, remove, match by number"
pub data Call : Type 0 where
  init : Call
  store : (number : ℕ) → (table : Bytes) → Call
  remove : (number : ℕ) → Call
  match : (number : ℕ) → (label scratch parts : Bytes) → (budget : ℕ) → Call

-- what a call answers: a refusal number, or all of a match
pub data Response : Type 0 where
  answered : (number : ℕ) → Response
  matched : MatchOutput → Response

-- its refusal number, 0 for none
unfoldable pub response_number : Response → ℕ
response_number (answered number) = number
response_number (matched o) = o.answer.number

pub record Step (State : Type 0) : Type 0 where
  pub response : Response
  pub next : State

abbrev pub changed : {State : Type 0} → Changed State → Step State
changed c = record { response = answered c.number; next = c.after }

-- a call on a plain map with a capacity
unfoldable pub map_step : (capacity : ℕ) → Map → Call → Step Map
map_step capacity m init = record { response = answered 0; next = empty }
map_step capacity m (store k t) = changed (store_in capacity m k t)
map_step capacity m (remove k) = changed (remove_in m k)
map_step capacity m (match k label scratch parts budget) = record { response = matched (match_in m k label scratch parts budget); next = m }

-- a call on lent bytes
unfoldable pub register_step : Bytes → Call → Step Bytes
register_step lent init = changed (init_of lent)
register_step lent (store k t) = changed (store_of lent k t)
register_step lent (remove k) = changed (remove_of lent k)
register_step lent (match k label scratch parts budget) = record { response = matched (match_number_of lent k label scratch parts budget); next = lent }

-- what calls in turn answer, and what there is after them
unfoldable pub responses : {State : Type 0} → (State → Call → Step State) → State → List Call → List Response
responses step s [] = []
responses step s (c ∷ cs) = (step s c).response ∷ responses step (step s c).next cs

unfoldable pub after_all : {State : Type 0} → (State → Call → Step State) → State → List Call → State
after_all step s [] = s
after_all step s (c ∷ cs) = after_all step (step s c).next cs

-- ---- what the theorems say

-- the same response, and as many lent bytes as before, which mean what the plain map became: those behind the last table are as they were, and a refusal leaves each
pub record Simulates (lent : Bytes) (p : Step Map) (o : Step Bytes) : Type 0 where
  pub response : o.response ≡ p.response
  pub means : register_of o.next ≡ some p.next
  pub long : length o.next ≡ length lent
  pub behind : drop (overhead + total p.next) o.next ≡ drop (overhead + total p.next) lent
  pub refused_leaves : ¬ (response_number o.response ≡ 0) → o.next ≡ lent
