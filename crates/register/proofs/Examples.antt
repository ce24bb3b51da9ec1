-- A layout and a slot byte by byte, and tables of both versions. Assumes nothing.
use mathlib.Core.Path.{◌≡◌, refl}
use mathlib.Core.Bool.{true}
use mathlib.Core.List.{◌∷◌, ◌++◌}
use lib.ListN.{take, drop, set, replicate}
use Rattle.pattern.specs.Bytes.{Bytes, little, bytes}
use Rattle.pattern.specs.Decision.{any}
use Rattle.pattern.specs.Answers.{compile_of}
use Rattle.pattern.proofs.Computed.{computed}
use Rattle.pattern.proofs.Sources.{header_1, header_2, Payload-2N}
use Rattle.summary.specs.Summary.{possible, of_class, of_literal, of_both, of_either, often, once, of_repeat, summary_of, bits, set_bytes, summary_bytes}
use Rattle.register.specs.Maps.{Map, empty, tables, is_table}
use Rattle.register.specs.Layout.{entry, slot, directory, section, laid_out}

-- the table of 2N, version 2, under number 2, and that of version 1 under number 255: the mark, version and zeros, the slots of 0 to 2, and the last slot
-- with the tables; the slot of 2N has its length, one atom, one top-level atom, lengths 2 and 2, and the ten digits
abbrev two_kept : Map
two_kept = set (set empty 2 (header_2 1 0 Payload-2N)) 255 (header_1 1 0 Payload-2N)

abbrev digits : Bytes
digits = replicate 6 0 ++ 255 ∷ 3 ∷ replicate 24 0

pub layout_holds :
    (take 140 (laid_out two_kept) ≡ 77 ∷ 80 ∷ 82 ∷ 2 ∷ 0 ∷ 0 ∷ 0 ∷ 0 ∷ replicate 88 0 ++ 19 ∷ 0 ∷ 0 ∷ 0 ∷ 1 ∷ 0 ∷ 1 ∷ 0 ∷ 2 ∷ 0 ∷ 2 ∷ 0 ∷ digits)
    × (drop 11228 (laid_out two_kept) ≡ 18 ∷ 0 ∷ 0 ∷ 0 ∷ 1 ∷ 0 ∷ 1 ∷ 0 ∷ 2 ∷ 0 ∷ 2 ∷ 0 ∷ digits ++ header_2 1 0 Payload-2N ++ header_1 1 0 Payload-2N)
unfolding computed empty tables slot entry directory section laid_out little summary_bytes set_bytes bits summary_of of_repeat of_class often once any
layout_holds = (refl, refl)

-- the slot of 2(1N,1"ab"): 41 bytes, three atoms, one top-level atom, lengths 2 and 4, and the ten digits and `a`
pub slot_holds : slot (compile_of (bytes "2(1N,1\"ab\")") (replicate 41 0)).bytes
    ≡ 41 ∷ 0 ∷ 0 ∷ 0 ∷ 3 ∷ 0 ∷ 1 ∷ 0 ∷ 2 ∷ 0 ∷ 4 ∷ 0 ∷ replicate 6 0 ++ 255 ∷ 3 ∷ replicate 4 0 ++ 2 ∷ replicate 19 0
unfolding computed slot entry little summary_bytes set_bytes bits summary_of of_repeat of_class of_literal of_both of_either possible often once any
slot_holds = refl

-- "The register keeps either version": the tables of 2N
pub either_kept : (is_table (header_1 1 0 Payload-2N) ≡ true) × (is_table (header_2 1 0 Payload-2N) ≡ true)
unfolding computed is_table
either_kept = (refl, refl)
