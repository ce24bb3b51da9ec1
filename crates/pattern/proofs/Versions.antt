-- Tables of both versions, by computation: version 1 written back and compiled again, and each version's limits and header. Assumes nothing.
use mathlib.Core.Path.{◌≡◌, refl}
use mathlib.Core.List.{List, [], ◌∷◌, ◌++◌, map}
use Prim.Native.Nat.{ℕ, zero, suc}
use lib.ListN.{replicate}
use Rattle.pattern.specs.Numbers.{TABLE}
use Rattle.pattern.specs.Bytes.{Bytes, le16, bytes}
use Rattle.pattern.specs.Answers.{compile_of, write_of, result_bytes}
use Rattle.pattern.proofs.Computed.{computed}
use Rattle.pattern.proofs.Sources.{header_1, header_2, Payload-2N, Payload-group, Payload-nested}

-- a table written back, and the source compiled again
unfoldable pub again : Bytes → Bytes × Bytes
again table =
    let s : Bytes = result_bytes (write_of table (replicate 512 7)) in
    (s, result_bytes (compile_of s (replicate 1200 7)))

pub renewed_hold : (again (header_1 1 0 Payload-2N) ≡ (bytes "2N", header_2 1 0 Payload-2N))
    × (again (header_1 4 3 Payload-group) ≡ (bytes ".300(1\"a\"\"b\",12.AN).5\"\"", header_2 4 3 Payload-group))
    × (again (header_1 6 3 Payload-nested) ≡ (bytes "1\"x\"1(1N,1(2A))1\"yz\"", header_2 6 3 Payload-nested))
unfolding computed again
renewed_hold = (refl, refl, refl)

-- the records of n atoms in a row that have this count and these codes
unfoldable pub in_a_row : ℕ → Bytes → Bytes
in_a_row zero r = []
in_a_row (suc n) r = 1 ∷ (elim n [ zero ↦ 1 | suc m ↦ 0 ]) ∷ r ++ in_a_row n r

-- 1N
abbrev two_bytes : Bytes
two_bytes = 1 ∷ 0 ∷ 1 ∷ 0 ∷ 16 ∷ 0 ∷ 0 ∷ 0 ∷ []

-- record and pool of a literal of n letters, which has n + 3 bytes of source
abbrev one_literal : ℕ → Bytes
one_literal n = 2 ∷ 1 ∷ 1 ∷ 0 ∷ 1 ∷ 0 ∷ 0 ∷ 0 ∷ le16 n (replicate n 97)

-- tables, and 0 if they are good or 11
unfoldable pub judged : List (Bytes × ℕ)
judged =
    -- the limits of version 1: 64 atoms, and 512 bytes of source
    (header_1 64 0 (in_a_row 64 two_bytes), 0)
    ∷ (header_1 65 0 (in_a_row 65 two_bytes), TABLE)
    ∷ (header_2 65 0 (in_a_row 65 two_bytes), 0)
    ∷ (header_1 1 509 (one_literal 509), 0)
    ∷ (header_1 1 510 (one_literal 510), TABLE)
    ∷ (header_2 1 510 (one_literal 510), 0)
    ∷ (header_2 1 2045 (one_literal 2045), 0)
    ∷ (header_2 1 2046 (one_literal 2046), TABLE)
    -- the header of the one version with the number of the other, and versions that there are not: 0, 3 and 257
    ∷ (0x4D ∷ 0x50 ∷ 0x54 ∷ 2 ∷ 0 ∷ 1 ∷ 0 ∷ 0 ∷ Payload-2N, TABLE)
    ∷ (0x4D ∷ 0x50 ∷ 0x54 ∷ 1 ∷ 0 ∷ 1 ∷ 0 ∷ 0 ∷ 0 ∷ Payload-2N, TABLE)
    ∷ (0x4D ∷ 0x50 ∷ 0x54 ∷ 0 ∷ 0 ∷ 1 ∷ 0 ∷ 0 ∷ 0 ∷ Payload-2N, TABLE)
    ∷ (0x4D ∷ 0x50 ∷ 0x54 ∷ 3 ∷ 0 ∷ 1 ∷ 0 ∷ 0 ∷ 0 ∷ Payload-2N, TABLE)
    ∷ (0x4D ∷ 0x50 ∷ 0x54 ∷ 1 ∷ 1 ∷ 1 ∷ 0 ∷ 0 ∷ Payload-2N, TABLE)
    ∷ []

pub judged_hold : map (λ e. (write_of e.0 (replicate 2048 7)).answer.number) judged ≡ map (λ e. e.1) judged
unfolding computed in_a_row judged
judged_hold = refl
