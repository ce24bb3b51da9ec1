-- How a map lies in lent bytes, and the map that lent bytes mean (docs/REGISTER.md). To be believed.
use Rattle.std.specs.Prelude.{◌≡◌, ◌↔◌, Bool, true, false, ◌&&◌, ◌||◌, [], ◌∷◌, ◌++◌, ℕ, zero, suc, ◌+◌, ◌*◌, ◌-◌, ◌/◌, ◌%◌, ◌^◌, ◌<◌, eqb, length, get_or, take, drop, replicate}
use Rattle.std.proofs.Math.Option.{Option, none, some}
use Rattle.pattern.specs.Bytes.{Bytes, equal, le16, little, number_in, overwrite}
use Rattle.pattern.specs.Syntax.{pattern, Syntax, size, top_size}
use Rattle.pattern.specs.Meaning.{Satisfies}
use Rattle.pattern.specs.Decode.{field, decode}
use Rattle.summary.specs.Summary.{byte_count, IsShortest, IsLongest, summary_of, summary_bytes}
use Rattle.register.specs.Maps.{numbers, Map, table_of, tables, is_table}

-- "mark MPR" and version 2, and zeros up to 8 bytes
abbrev pub preamble : Bytes
preamble = 77 ∷ 80 ∷ 82 ∷ le16 2 (0 ∷ 0 ∷ 0 ∷ [])

abbrev pub preamble_size : ℕ
preamble_size = 8

abbrev pub length_size : ℕ
length_size = 4

-- "40 bytes for each of the 256 numbers"
abbrev pub entry_size : ℕ
entry_size = 40

-- what is kept of a pattern beside its table: the paper's A and T, and its summary; zeros where there is none
unfoldable pub entry : Option (Syntax pattern) → Bytes
entry none = replicate entry_size 0
entry (some t) = le16 (size t) (le16 (top_size t) (summary_bytes (summary_of t)))

-- a slot has the length of its number's table, and the entry of its pattern
abbrev pub slot_size : ℕ
slot_size = length_size + entry_size

unfoldable pub slot : Bytes → Bytes
slot t = little length_size (length t) ++ entry (decode t)

-- the slot of each number in turn
abbrev pub directory_size : ℕ
directory_size = slot_size * numbers

unfoldable pub directory : Map → Bytes
directory [] = []
directory (t ∷ m) = slot t ++ directory m

-- a section: the directory and the tables of one map
unfoldable pub section : Map → Bytes
section m = directory m ++ tables m

unfoldable pub laid_out : Map → Bytes
laid_out m = preamble ++ section m

-- "Capacity is the buffer length less 1,032", and "less 40 bytes for each of the 256 numbers"
abbrev pub overhead : ℕ
overhead = preamble_size + directory_size

abbrev pub capacity : Bytes → ℕ
capacity lent = length lent - overhead

-- the tables of c numbers, cut from bytes by the lengths in the slots
unfoldable pub cut : (c : ℕ) → (slots bytes : Bytes) → Map
cut zero slots bytes = []
cut (suc c) slots bytes =
    let n : ℕ = number_in (take length_size slots) in
    take n bytes ∷ cut c (drop slot_size slots) (drop n bytes)

-- no table, or a good one
unfoldable pub allowed : Bytes → Bool
allowed t = eqb (length t) 0 || is_table t

unfoldable pub all_allowed : Map → Bool
all_allowed [] = true
all_allowed (t ∷ m) = allowed t && all_allowed m

-- the map that lent bytes mean: "a buffer that doesn't meet" the layout, "or holds a bad table", "a wrong summary", or "a version 1 register", means none
unfoldable pub register_of : Bytes → Option Map
register_of lent =
    let m : Map = cut numbers (drop preamble_size lent) (drop overhead lent) in
    elim (all_allowed m && equal (take (length (laid_out m)) lent) (laid_out m)) [ true ↦ some m | false ↦ none ]

-- ---- what the theorems say

-- a map that lent bytes can mean: no table or a good one for each number
pub record Proper (m : Map) : Type 0 where
  pub count : length m ≡ numbers
  pub each : (k : ℕ) → allowed (table_of m k) ≡ true

-- the lent bytes begin with the map laid out
pub record Meant (lent : Bytes) (m : Map) : Type 0 where
  pub proper : Proper m
  pub bytes : lent ≡ overwrite (laid_out m) lent

-- the place of a number's slot
abbrev pub slot_start : ℕ → ℕ
slot_start k = preamble_size + slot_size * k

-- "These three are exact": a slot has its pattern's shortest length in the two bytes at 8 and the longest in those at 10, and from 12 on bit b % 8 of
-- byte b / 8 is 1 just where b can begin a non-empty string
pub record KeptExact (lent : Bytes) (k : ℕ) (p : Syntax pattern) : Type 0 where
  pub shortest : IsShortest (Satisfies p) (field lent (slot_start k + 8))
  pub longest : IsLongest (Satisfies p) (field lent (slot_start k + 10))
  pub first : (b : ℕ) → b < byte_count → (get_or lent (slot_start k + 12 + b / 8) 0 / 2 ^ (b % 8) % 2 ≡ 1) ↔ ((s : Bytes) × Satisfies p (b ∷ s))

-- how many tables a map has
unfoldable pub table_count : Map → ℕ
table_count [] = 0
table_count (t ∷ m) = elim (eqb (length t) 0) [ true ↦ table_count m | false ↦ suc (table_count m) ]
