-- Repeat counts: what their readers promise. Private: a model for contracts inside the library.
use Rattle.std.specs.Prelude.{◌≡◌, cond, ℕ, suc, ◌≤◌, ◌<◌, leb, ltb, length, drop, get_or, Result, Ok, Err}
use Rattle.std.proofs.Math.Option.{none, some}
use Rattle.std.specs.declared.option.Option as code
use Rattle.std.specs.Prelude.{Some, None}
use Rattle.pattern.specs.Numbers.{number_limit, atom_limit, NUMBER}
use Rattle.pattern.specs.Bytes.{Bytes}
use Rattle.pattern.specs.Repeats.{repeat_of}
use Rattle.pattern.specs.Grammar.{CountChar, digit, count_char}
use Rattle.pattern.specs.Parser.{CountState, empty, first, pointed, second, counting, Stack, grow}
use Rattle.pattern.specs.Scan.{low, high, longest_count, refuse, atom_rows, Outcome, refused}
use Rattle.pattern.specs.Faults.{Over}
use Rattle.pattern.specs.Refusals.{number_of}
use Rattle.pattern.specs.declared.repeat.Repeat.{Repeat}
use Rattle.pattern.specs.declared.refusal.Refusal.{Refusal}
use Rattle.pattern.specs.declared.refusal.Refusal.TheVariants.{Form, Number, Range, Atoms}
use Rattle.pattern.specs.declared.refusal.Fault.{Fault}
use Rattle.scanner.specs.declared.cursor.Cursor.{Cursor}
use Rattle.scanner.specs.Places.{Onward, class_at, ClassNot}
use Rattle.scanner.specs.Scans.{scanned}

-- a number of a count: its first one, or the second after this first one
pub data CountNumber : Type 0 where
  the_first : CountNumber
  the_second : (n : ℕ) → CountNumber

-- the state before its digits
abbrev pub awaiting : CountNumber → CountState
awaiting the_first = empty
awaiting (the_second n) = pointed n

-- the state after digits of it with this value
abbrev pub valued : CountNumber → ℕ → CountState
valued the_first v = first v
valued (the_second n) v = second n v

-- the atoms begun with its first digit
abbrev pub begun_with : CountNumber → ℕ → ℕ
begun_with the_first n = suc n
begun_with (the_second x) n = n

-- what the scan answers at place i if it would answer o further on: at an atom's first byte the faults of the atom come before
unfoldable pub faults_first : CountNumber → Bytes → (i n : ℕ) → Outcome → Outcome
faults_first the_first s i n o = elim (refuse (atom_rows n (longest_count empty (drop i s)))) [ none ↦ o | some f ↦ refused f i ]
faults_first (the_second x) s i n o = o

-- from before a number at place i the scan comes to place j, where it answers o; the longest run goes on there from state r
pub record Reaches (s : Bytes) (w : CountNumber) (i : ℕ) (r : CountState) (j : ℕ) (o : Stack → ℕ → Outcome) : Type 0 where
  pub longest : longest_count (awaiting w) (drop i s) ≡ longest_count r (drop j s)
  pub scan : (k : Stack) (n : ℕ) → scanned s (counting (awaiting w), k) i n ≡ faults_first w s i n (o k (begun_with w n))

-- the scan goes on there in that state
abbrev pub Advances : Bytes → CountNumber → ℕ → CountState → ℕ → Type 0
Advances s w i r j = Reaches s w i r j (λ k n. scanned s (counting r, k) j n)

-- the digit at place p takes a number of the count over the limit
pub record Exceeds (s : Bytes) (w : CountNumber) (i p : ℕ) : Type 0 where
  pub state : CountState
  pub over : Over state
  pub reaches : Reaches s w i state (suc p) (λ k n. refused NUMBER p)

-- digits with this value, or none, from place i to place j
pub record DigitsAre (s : Bytes) (i v j : ℕ) : Type 0 where
  pub fits : v ≤ number_limit
  pub missing : j ≡ i → v ≡ 0
  pub on : i ≤ j
  pub within : j ≤ length s
  pub goes_on : i < j → (w : CountNumber) → Advances s w i (valued w v) j

unfoldable pub DigitsPost : Bytes → ℕ → Result (ℕ × Cursor) ℕ → Type 0
DigitsPost s i (Ok (v, next)) = DigitsAre s i v next.at × ClassNot s next.at (count_char digit)
DigitsPost s i (Err p) = (w : CountNumber) → Exceeds s w i p

-- a refusal at a place
abbrev pub fault_at : Refusal → ℕ → Result (Cursor × Repeat) Fault
fault_at r p = Err (record { refusal = r; position = p })

-- what was found at a count, unless its atom is one too many
unfoldable pub within_atoms : (n start : ℕ) → Result (Cursor × Repeat) Fault → Result (Cursor × Repeat) Fault
within_atoms n start found = cond (leb atom_limit n) (fault_at Atoms start) found

-- the refusals of what was read, in their order
unfoldable pub judged : (n start : ℕ) → Result (code.Option (Repeat × Cursor)) ℕ → Result (Cursor × Repeat) Fault
judged n start (Ok (Some (rep, end))) = cond (ltb rep.high rep.low) (fault_at Range start) (within_atoms n start (Ok (end, rep)))
judged n start (Ok None) = fault_at Form start
judged n start (Err p) = within_atoms n start (fault_at Number p)

-- the scan goes on after the longest run
pub record CountIs (s : Bytes) (i n : ℕ) (rep : Repeat) (next : Cursor) : Type 0 where
  pub state : CountState
  pub begun : ¬ (state ≡ empty)
  pub rep_is : rep ≡ repeat_of (low state) (high state)
  pub onward : Onward s i next
  pub room : n < atom_limit
  pub stops : (m : CountChar) → next.at < length s → class_at s next.at ≡ count_char m → grow state m (get_or s next.at 0) ≡ none
  pub scan : (k : Stack) → scanned s (counting empty, k) i n ≡ scanned s (counting state, k) next.at (suc n)

pub record CountRefused (s : Bytes) (i n f p : ℕ) : Type 0 where
  pub scan : (k : Stack) → scanned s (counting empty, k) i n ≡ refused f p

unfoldable pub CountPost : Bytes → (i n : ℕ) → Result (Cursor × Repeat) Fault → Type 0
CountPost s i n (Ok (next, rep)) = CountIs s i n rep next
CountPost s i n (Err f) = CountRefused s i n (number_of f.refusal) f.position

-- what was read is right, of whatever atom it is judged
unfoldable pub CountReadPost : Bytes → ℕ → Result (code.Option (Repeat × Cursor)) ℕ → Type 0
CountReadPost s i r = (n : ℕ) → CountPost s i n (judged n i r)

-- what was read after a point, as a count
abbrev pub count_read : Result (Repeat × Cursor) ℕ → Result (code.Option (Repeat × Cursor)) ℕ
count_read (Ok x) = Ok (Some x)
count_read (Err p) = Err p

-- of whatever count comes to place j with its point
unfoldable pub AfterPointPost : Bytes → (j low : ℕ) → Result (Repeat × Cursor) ℕ → Type 0
AfterPointPost s j low r = (i : ℕ) → i < j → low ≤ number_limit → Advances s the_first i (pointed low) j → CountReadPost s i (count_read r)
