-- What the calls from C return, and every lent byte afterwards. To be believed.
use Rattle.std.specs.Prelude.{Bool, true, false, ℕ, leb, length}
use Rattle.pattern.specs.Numbers.{ANSWER}
use Rattle.pattern.specs.Bytes.{Bytes, overwrite}
use Rattle.pattern.specs.Answers.{Answer, refusal, Output, compile_of, write_of, MatchOutput, match_of}
use Rattle.batch.specs.Batch.{BatchOutput, batch_of}
use Rattle.register.specs.Maps.{Changed}
use Rattle.register.specs.Register.{init_of, store_of, remove_of, match_number_of}
use Rattle.search.specs.Search.{SearchOutput, search_of}
use Rattle.mpt.specs.Area.{area_size, area, search_area}

-- the number returned, and the lent slices and the answer area afterwards
pub record Called (Lent : Type 0) : Type 0 where
  pub number : ℕ
  pub lent : Lent
  pub answer : Bytes

-- with an area that is long enough, and with a shorter one: ANSWER, "the area stays as it was"
unfoldable pub called_if : {Lent : Type 0} → Bool → (number : ℕ) → (written : Bytes) → (after before : Lent) → (answer : Bytes) → Called Lent
called_if true number written after before answer = record { number = number; lent = after; answer = overwrite written answer }
called_if false number written after before answer = record { number = ANSWER; lent = before; answer = answer }

unfoldable pub called : {Lent : Type 0} → Answer → (after before : Lent) → (answer : Bytes) → Called Lent
called a after before answer = called_if (leb area_size (length answer)) a.number (area a) after before answer

unfoldable pub compile_call : (source table answer : Bytes) → Called Bytes
compile_call source table answer = let o : Output = compile_of source table in called o.answer o.bytes table answer

unfoldable pub write_call : (table source answer : Bytes) → Called Bytes
write_call table source answer = let o : Output = write_of table source in called o.answer o.bytes source answer

pub record MatchLent : Type 0 where
  pub scratch : Bytes
  pub parts : Bytes

unfoldable pub match_call : (table label scratch parts : Bytes) → (budget : ℕ) → (answer : Bytes) → Called MatchLent
match_call table label scratch parts budget answer =
    let o : MatchOutput = match_of table label scratch parts budget in
    called o.answer (record { scratch = o.scratch; parts = o.parts }) (record { scratch = scratch; parts = parts }) answer

pub record BatchLent : Type 0 where
  pub scratch : Bytes
  pub verdicts : Bytes
  pub parts : Bytes

-- the area's numbers are all 0
unfoldable pub batch_call : (table labels ends scratch verdicts parts : Bytes) → (budget : ℕ) → (answer : Bytes) → Called BatchLent
batch_call table labels ends scratch verdicts parts budget answer =
    let o : BatchOutput = batch_of table labels ends scratch verdicts parts budget in
    called (refusal o.number 0) (record { scratch = o.scratch; verdicts = o.verdicts; parts = o.parts }) (record { scratch = scratch; verdicts = verdicts; parts = parts }) answer

-- a call that changes a register: the area's numbers are all 0
unfoldable pub change_call : Changed Bytes → (lent answer : Bytes) → Called Bytes
change_call c lent answer = called (refusal c.number 0) c.after lent answer

unfoldable pub init_call : (lent answer : Bytes) → Called Bytes
init_call lent answer = change_call (init_of lent) lent answer

unfoldable pub store_call : (lent : Bytes) → (number : ℕ) → (table answer : Bytes) → Called Bytes
store_call lent number table answer = change_call (store_of lent number table) lent answer

unfoldable pub remove_call : (lent : Bytes) → (number : ℕ) → (answer : Bytes) → Called Bytes
remove_call lent number answer = change_call (remove_of lent number) lent answer

-- a match by number: the register is only read
unfoldable pub match_number_call : (lent : Bytes) → (number : ℕ) → (label scratch parts : Bytes) → (budget : ℕ) → (answer : Bytes) → Called MatchLent
match_number_call lent number label scratch parts budget answer =
    let o : MatchOutput = match_number_of lent number label scratch parts budget in
    called o.answer (record { scratch = o.scratch; parts = o.parts }) (record { scratch = scratch; parts = parts }) answer

-- a search: the register is only read
unfoldable pub search_call : (lent label scratch parts answer : Bytes) → Called MatchLent
search_call lent label scratch parts answer =
    let o : SearchOutput = search_of lent label scratch parts in
    called_if (leb area_size (length answer)) o.number (search_area o) (record { scratch = o.scratch; parts = o.parts }) (record { scratch = scratch; parts = parts }) answer
