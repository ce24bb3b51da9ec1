-- Sizes that always suffice: for a table, for its parts, for scratch, and for a source that is written back. Assumes nothing.
use mathlib.Core.Path.{◌≡◌, ap}
use mathlib.Core.Bool.{Bool, true, false}
use mathlib.Core.List.{[], ◌∷◌}
use mathlib.Core.Option.{Option, some}
use Prim.Native.Nat.{ℕ, ◌+◌, ◌*◌, ◌≤◌, ◌<◌}
use native.Mathlib.Nat.{mul-le-mul}
use native.Mathlib.Omega.{arith}
use lib.ListN.{length, drop, length-append}
use Rattle.pattern.specs.Numbers.{source_limit, atom_limit, label_limit, parts_room, record_size, point_byte, quote_byte, closing_byte, comma_byte}
use Rattle.pattern.specs.Versions.{Version, v1, v2, written_version, header_size, table_room}
use Rattle.pattern.specs.Bytes.{Bytes, overwrite}
use Rattle.pattern.specs.Syntax.{Sort, pattern, Syntax, last, then, repeat, codes, literal, group, only, or, size, top_size}
use Rattle.pattern.specs.Meaning.{Cut}
use Rattle.pattern.specs.Grammar.{Number, one, more, Count, exact, from, range, Quoted, start, byte, quote, Derives}
use Rattle.pattern.specs.Scan.{Outcome, refused, accepted, outcome}
use Rattle.pattern.specs.Print.{print}
use Rattle.pattern.specs.Table.{pool, encode}
use Rattle.pattern.specs.Decode.{decode, Compiles}
use Rattle.pattern.specs.Answers.{result, put_if, put, compiled, compile_of, scratch_needed}
use Rattle.pattern.proofs.RoundTrip.{some_atom, encode_length, accepted_compiles, good_exactly}
use Rattle.pattern.proofs.Accepted.{accepted_exactly}
use Rattle.pattern.proofs.Calls.{print_accepted, good_limited, compile_accepted, compile_zero}

-- a source is longer than the literals' values in it, by a byte for each atom
quoted_pool : {v s : Bytes} → Quoted v s → length v ≤ length s
quoted_pool start = omega arith
quoted_pool (byte {v} {s} q c e) = omega (arith, quoted_pool q, length-append v (c ∷ []), length-append s (c ∷ []))
quoted_pool (quote {v} {s} q) = omega (arith, quoted_pool q, length-append v (quote_byte ∷ []), length-append s (quote_byte ∷ quote_byte ∷ []))

number_some : {n : ℕ} {s : Bytes} → Number n s → 0 < length s
number_some (one c e) = omega arith
number_some (more {s = s} q c e) = omega (arith, length-append s (c ∷ []))

count_some : {low : ℕ} {high : Option ℕ} {s : Bytes} → Count low high s → 0 < length s
count_some (exact n) = number_some n
count_some (from {s = s} l) = omega (arith, length-append s (point_byte ∷ []))
count_some (range {s = s} {w} l n) = omega (arith, length-append s (point_byte ∷ w))

derived_size : {o : Sort} (x : Syntax o) (s : Bytes) → Derives x s → size x + length (pool x) ≤ length s
unfolding Derives Cut size pool
derived_size (last a) s h = derived_size a s h
derived_size (then a p) s (u, v, e, x, y) = omega (arith, ap length e, length-append u v, derived_size a u x, derived_size p v y, length-append (pool a) (pool p))
derived_size (repeat low high b) s (u, v, e, x, y) = omega (arith, ap length e, length-append u v, count_some x, derived_size b v y)
derived_size (codes set) s h = omega arith
derived_size (literal value) s (q, e, r) = omega (arith, ap length e, length-append q (quote_byte ∷ []), quoted_pool r)
derived_size (group bs) s (w, e, h) = omega (arith, ap length e, length-append w (closing_byte ∷ []), derived_size bs w h)
derived_size (only p) s h = derived_size p s h
derived_size (or p bs) s (u, w, e, x, y) = omega (arith, ap length e, length-append u (comma_byte ∷ w), derived_size p u x, derived_size bs w y, length-append (pool p) (pool bs))

pub top_le : (p : Syntax pattern) → top_size p ≤ size p
unfolding top_size size
top_le (last a) = some_atom a
top_le (then a p) = omega (arith, some_atom a, top_le p)

-- the table of a source, in each version
table_fits : (v : Version) (source : Bytes) (t : Syntax pattern) (table : Bytes) → Compiles v source t table → length table ≤ table_room
table_fits v1 source t table c = omega (arith, c.few, c.short, derived_size t source c.derives, encode_length v1 t, ap length c.whole)
table_fits v2 source t table c = omega (arith, c.few, c.short, derived_size t source c.derives, encode_length v2 t, ap length c.whole)

pub good_fits : (table : Bytes) (t : Syntax pattern) → decode table ≡ some t → length table ≤ table_room
good_fits table t good = let (v, source, c) = (good_exactly table t).0 good in table_fits v source t table c

-- an accepted source's table
module _ (source : Bytes) (t : Syntax pattern) (good : outcome source ≡ accepted t) where
  pub encode_fits : length (encode t) ≤ table_room
  encode_fits = table_fits written_version source t (encode t) (accepted_compiles source t good)

  -- by the length of the source
  pub encode_short : length (encode t) ≤ header_size written_version + record_size * length source
  encode_short = let (n, s, l) = (accepted_exactly source t).0 good in omega (arith, derived_size t source s, encode_length written_version t)

  -- so the source is never refused for room
  pub table_has_room : (lent : Bytes) → table_room ≤ length lent → compile_of source lent ≡ record { answer = result (length (encode t)) 0; bytes = overwrite (encode t) lent }
  table_has_room lent r =
      let (n, s, l) = (accepted_exactly source t).0 good in
      compile_accepted source lent t n s l (omega (arith, encode_fits))

-- the parts and the scratch of a good table: with 256 atoms and 255 bytes "(2A+4) x (n+1) x (n+1)" is the most
pub parts_fit : (table : Bytes) (t : Syntax pattern) → decode table ≡ some t → 2 * top_size t ≤ parts_room
parts_fit table t good = omega (arith, (good_limited table t good).atoms, top_le t)

-- the scratch bytes of so many atoms and a label within the limit are few enough to count
module _ (a n : ℕ) (few : a ≤ atom_limit) (short : n ≤ label_limit) where
  doubled_few : 2 * a + 4 ≤ 2 * atom_limit + 4
  doubled_few = omega arith

  length_few : n + 1 ≤ label_limit + 1
  length_few = omega arith

  pub rows_few : (2 * a + 4) * (n + 1) ≤ (2 * atom_limit + 4) * (label_limit + 1)
  rows_few = mul-le-mul doubled_few length_few

  pub bytes_few : (2 * a + 4) * (n + 1) * (n + 1) ≤ (2 * atom_limit + 4) * (label_limit + 1) * (label_limit + 1)
  bytes_few = mul-le-mul rows_few length_few

pub scratch_fits : (table : Bytes) (t : Syntax pattern) (n : ℕ) → decode table ≡ some t → n ≤ label_limit → scratch_needed t n ≤ 33_816_576
scratch_fits table t n good short = bytes_few (size t) n (good_limited table t good).atoms short

-- the source of a good table
pub source_fits : (table : Bytes) (t : Syntax pattern) → decode table ≡ some t → length (print t) ≤ source_limit
source_fits table t good = ((accepted_exactly (print t) t).0 (print_accepted table t good)).0

-- ---- a compiled table in its lent bytes

put_within : (b : Bool) (p : ℕ) (w l : Bytes) → (put_if b p w l).answer.value ≤ length (put_if b p w l).bytes
unfolding put_if overwrite
put_within true p w l = omega (arith, length-append w (drop (length w) l))
put_within false p w l = omega arith

pub compile_fits : (s l : Bytes) → (compile_of s l).answer.value ≤ length (compile_of s l).bytes
unfolding compile_of compiled put
compile_fits s l = go (outcome s)
  where
    go : (o : Outcome) → (compiled o s l).answer.value ≤ length (compiled o s l).bytes
    go (refused f p) = omega arith
    go (accepted t) = put_within _ (length s) (encode t) l

encode_some : (t : Syntax pattern) → 0 < length (encode t)
encode_some t = omega (arith, encode_length written_version t)

-- no table has length 0
pub compile_some : (s l : Bytes) → (compile_of s l).answer.number ≡ 0 → 0 < (compile_of s l).answer.value
compile_some s l e = let (t, n, h, g, r) = compile_zero s l e in rw (compile_accepted s l t n h g r) (encode_some t)
