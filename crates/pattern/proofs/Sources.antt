-- The paper's examples of sources, and more: each refusal with its position, and what accepted sources compile to and are written back as, by computation. Assumes nothing.
use mathlib.Core.Path.{◌≡◌, refl}
use mathlib.Core.List.{List, [], ◌∷◌, ◌++◌, map}
use Prim.Native.Nat.{ℕ, zero, suc}
use lib.ListN.{take, replicate}
use Rattle.pattern.specs.Numbers.{LONG, FORM, CODE, NUMBER, RANGE, ATOMS, DEPTH, ROOM, TABLE}
use Rattle.pattern.specs.Bytes.{Bytes, le16, bytes}
use Rattle.pattern.specs.Answers.{Answer, refusal, Output, compile_of, write_of}
use Rattle.pattern.proofs.Computed.{computed}

-- a source n times over
unfoldable pub times : ℕ → Bytes → Bytes
times zero s = []
times (suc n) s = s ++ times n s

-- each source with its refusal and position, 0 and 0 for none
unfoldable pub sources : List (Bytes × ℕ × ℕ)
sources =
    ([], FORM, 0)
    ∷ (bytes "2N,", FORM, 2)
    ∷ (bytes "1()", FORM, 2)
    ∷ (bytes "1(2N", FORM, 4)
    ∷ (bytes "5.3", RANGE, 0)
    ∷ (bytes "5..", FORM, 2)
    ∷ (bytes "3Q", CODE, 1)
    ∷ (bytes "20000N", NUMBER, 4)
    ∷ (bytes "3.10000N", NUMBER, 6)
    ∷ (bytes "9999N", 0, 0)
    -- a body without a count, a letter that is no code after one that is, a literal that does not end, a byte 127 and a byte 200 in one
    ∷ (bytes "N", FORM, 0)
    ∷ (bytes "3NQ", CODE, 2)
    ∷ (bytes "1\"a", FORM, 3)
    ∷ (49 ∷ 34 ∷ 127 ∷ 34 ∷ [], FORM, 2)
    ∷ (49 ∷ 34 ∷ 200 ∷ 34 ∷ [], FORM, 2)
    -- what is left aside: indirection, negation, bracket ranges, Y and Z codes, names
    ∷ (bytes "@X", FORM, 0)
    ∷ (bytes "1'N", FORM, 1)
    ∷ (bytes "1[\"a\"]", FORM, 1)
    ∷ (bytes "1Y", CODE, 1)
    ∷ (bytes "1z", CODE, 1)
    ∷ (bytes "4N(ITEM)", FORM, 2)
    -- a second number is never the open end; leading zeros; more digits after the one that is too many; the end of the source after it;
    -- in a group and in a later atom; a range that falls there, none where a number does not fit
    ∷ (bytes ".65535N", NUMBER, 5)
    ∷ (bytes "0020000N", NUMBER, 6)
    ∷ (bytes "2000000N", NUMBER, 4)
    ∷ (bytes "3.1000000N", NUMBER, 6)
    ∷ (bytes "20000", NUMBER, 4)
    ∷ (bytes "1(20000N)", NUMBER, 6)
    ∷ (bytes "1N3.10000N", NUMBER, 8)
    ∷ (bytes "1N1(5.3N)", RANGE, 4)
    ∷ (bytes "10000.5N", NUMBER, 4)
    ∷ (bytes "9999.10000N", NUMBER, 9)
    ∷ (bytes "20000.10000N", NUMBER, 4)
    -- 80 atoms; 256; a 257th: plain, with too large a first number, also in a group, with a range that falls, with too large a second number, not a pattern
    ∷ (times 80 (bytes "1N"), 0, 0)
    ∷ (times 256 (bytes "1N"), 0, 0)
    ∷ (times 256 (bytes "1N") ++ bytes "1N", ATOMS, 512)
    ∷ (times 256 (bytes "1N") ++ bytes "20000N", ATOMS, 512)
    ∷ (times 255 (bytes "1N") ++ bytes "1(20000N)", ATOMS, 512)
    ∷ (times 256 (bytes "1N") ++ bytes "5.3", RANGE, 512)
    ∷ (times 256 (bytes "1N") ++ bytes "5.10000N", ATOMS, 512)
    ∷ (times 256 (bytes "1N") ++ bytes "(", FORM, 512)
    -- 8 groups, 8 that do not end, 9, also where no pattern goes on after the ninth
    ∷ (times 8 (bytes "1(") ++ bytes "1N" ++ times 8 (bytes ")"), 0, 0)
    ∷ (times 8 (bytes "1("), FORM, 16)
    ∷ (times 9 (bytes "1("), DEPTH, 17)
    ∷ (times 9 (bytes "1(") ++ bytes ")", DEPTH, 17)
    -- 2,048 bytes, and 2,049
    ∷ (times 2047 (bytes "0") ++ bytes "N", 0, 0)
    ∷ (times 2049 (bytes "1"), LONG, 2048)
    ∷ []

-- the refusal of a source in room enough
unfoldable pub refusal_of : Bytes → ℕ × ℕ
refusal_of s = let a : Answer = (compile_of s (replicate 2569 7)).answer in (a.number, a.position)

-- sources, and what they are written back as
unfoldable pub rewritten : List (Bytes × Bytes)
rewritten =
    (bytes "3N1\".\"2N.U", bytes "3N1\".\"2N.U")
    ∷ (bytes "000002.003nUN", bytes "2.3NU")
    ∷ (bytes "0.5N", bytes ".5N")
    ∷ (bytes "3.3l", bytes "3L")
    ∷ (bytes "0.uplneca", bytes ".ACELNPU")
    ∷ (bytes "0000.00000N", bytes "0N")
    ∷ (bytes "1\"a\"\"b\"5.\"\"", bytes "1\"a\"\"b\"5.\"\"")
    ∷ (bytes ".300(1\"a\",02.(1N,1a)).5E", bytes ".300(1\"a\",2.(1N,1A)).5E")
    ∷ []

-- a source compiled and written back
unfoldable pub rewrite : Bytes → Bytes
rewrite s =
    let c : Output = compile_of s (replicate 128 7) in
    let w : Output = write_of (take c.answer.value c.bytes) (replicate 128 7) in
    take w.answer.value w.bytes

-- the headers of both versions for n atoms, fewer than 256, and m bytes of pool
abbrev pub header_1 : (n m : ℕ) → Bytes → Bytes
header_1 n m s = 0x4D ∷ 0x50 ∷ 0x54 ∷ 0x01 ∷ 0x00 ∷ n ∷ le16 m s

abbrev pub header_2 : (n m : ℕ) → Bytes → Bytes
header_2 n m s = 0x4D ∷ 0x50 ∷ 0x54 ∷ 0x02 ∷ 0x00 ∷ n ∷ 0x00 ∷ le16 m s

-- what follows the header: the record of 2N
abbrev pub Payload-2N : Bytes
Payload-2N = 0x01 ∷ 0x01 ∷ 0x02 ∷ 0x00 ∷ 0x02 ∷ 0x00 ∷ 0x10 ∷ 0x00 ∷ 0x00 ∷ 0x00 ∷ []

-- records and pool of .300(1"a""b",12.AN).5""
abbrev pub Payload-group : Bytes
Payload-group =
    3 ∷ 0 ∷ 0 ∷ 0 ∷ 44 ∷ 1 ∷ 2 ∷ 0 ∷ 3 ∷ 0
    ∷ 2 ∷ 1 ∷ 1 ∷ 0 ∷ 1 ∷ 0 ∷ 0 ∷ 0 ∷ 3 ∷ 0
    ∷ 1 ∷ 1 ∷ 12 ∷ 0 ∷ 255 ∷ 255 ∷ 17 ∷ 0 ∷ 0 ∷ 0
    ∷ 2 ∷ 1 ∷ 0 ∷ 0 ∷ 5 ∷ 0 ∷ 3 ∷ 0 ∷ 0 ∷ 0
    ∷ 97 ∷ 34 ∷ 98 ∷ []

-- records and pool of 1"x"1(1N,1(2A))1"yz": groups that are not first, one of them in the other, and two values in the pool
abbrev pub Payload-nested : Bytes
Payload-nested =
    2 ∷ 0 ∷ 1 ∷ 0 ∷ 1 ∷ 0 ∷ 0 ∷ 0 ∷ 1 ∷ 0
    ∷ 3 ∷ 0 ∷ 1 ∷ 0 ∷ 1 ∷ 0 ∷ 2 ∷ 0 ∷ 5 ∷ 0
    ∷ 1 ∷ 1 ∷ 1 ∷ 0 ∷ 1 ∷ 0 ∷ 16 ∷ 0 ∷ 0 ∷ 0
    ∷ 3 ∷ 1 ∷ 1 ∷ 0 ∷ 1 ∷ 0 ∷ 1 ∷ 0 ∷ 5 ∷ 0
    ∷ 1 ∷ 1 ∷ 2 ∷ 0 ∷ 2 ∷ 0 ∷ 1 ∷ 0 ∷ 0 ∷ 0
    ∷ 2 ∷ 1 ∷ 1 ∷ 0 ∷ 1 ∷ 0 ∷ 1 ∷ 0 ∷ 2 ∷ 0
    ∷ 120 ∷ 121 ∷ 122 ∷ []

-- tables in lent bytes that are longer, ROOM in shorter ones, TABLE and ROOM of a write-back
pub tables_hold : ((compile_of (bytes "2N") (replicate 20 7)).bytes ≡ header_2 1 0 Payload-2N ++ 7 ∷ [])
    × ((compile_of (bytes ".300(1\"a\"\"b\",12.AN).5\"\"") (replicate 53 7)).bytes ≡ header_2 4 3 Payload-group ++ 7 ∷ [])
    × ((compile_of (bytes "1\"x\"1(1N,1(2A))1\"yz\"") (replicate 73 7)).bytes ≡ header_2 6 3 Payload-nested ++ 7 ∷ [])
    × (compile_of (bytes "2N") (replicate 18 7) ≡ record { answer = refusal ROOM 2; bytes = replicate 18 7 })
    × (write_of (header_2 1 0 Payload-2N ++ 0 ∷ []) (7 ∷ []) ≡ record { answer = refusal TABLE 0; bytes = 7 ∷ [] })
    × (write_of (header_2 1 0 Payload-2N) (7 ∷ []) ≡ record { answer = refusal ROOM 0; bytes = 7 ∷ [] })
unfolding computed
tables_hold = (refl, refl, refl, refl, refl, refl)

pub sources_hold : map (λ e. refusal_of e.0) sources ≡ map (λ e. (e.1, e.2)) sources
unfolding computed times sources refusal_of
sources_hold = refl

pub rewritten_hold : map (λ e. rewrite e.0) rewritten ≡ map (λ e. e.1) rewritten
unfolding computed rewritten rewrite
rewritten_hold = refl
