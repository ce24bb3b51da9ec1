-- The scan over one byte of a source, at a place. Assumes nothing.
use mathlib.Core.Path.{◌≡◌, ◌∙◌}
use mathlib.Core.Option.{Option, none, some}
use Prim.Native.Nat.{ℕ, suc, ◌<◌, ◌≤◌}
use lib.ListN.{length, drop, get_or, drop_of_length-le}
use lib.Seq.{drop-cons}
use Rattle.pattern.specs.Numbers.{FORM}
use Rattle.pattern.specs.Bytes.{Bytes}
use Rattle.pattern.specs.Parser.{ParserState, step, finish}
use Rattle.pattern.specs.Scan.{depth, begins, begun, fault, refused, scan}
use Rattle.scanner.specs.Places.{class_at}
use Rattle.scanner.specs.Scans.{scanned}

-- the fault at a byte, and the atoms begun after it
abbrev pub fault_here : Bytes → ParserState → (i n : ℕ) → Option ℕ
fault_here s q i n = fault (begins q.0 (class_at s i)) (depth q.1) n (get_or s i 0) (drop (suc i) s)

abbrev pub begun_here : Bytes → ParserState → (i n : ℕ) → ℕ
begun_here s q i n = begun (begins q.0 (class_at s i)) n

module _ (s : Bytes) (i n : ℕ) (l : i < length s) (q : ParserState) where
  pub stepped : (q' : ParserState) → step q (get_or s i 0) ≡ some q'
      → scanned s q i n ≡ elim (fault_here s q i n) [ some f ↦ refused f i | none ↦ scanned s q' (suc i) (begun_here s q i n) ]
  unfolding scan
  stepped q' e = rw (drop-cons s i 0) (rw (e, scan))

  pub onward : (q' : ParserState) → step q (get_or s i 0) ≡ some q' → fault_here s q i n ≡ none → begun_here s q i n ≡ n → scanned s q i n ≡ scanned s q' (suc i) n
  onward q' e f b = stepped q' e ∙ rw f (rw b)

  pub faulty : (q' : ParserState) (x : ℕ) → step q (get_or s i 0) ≡ some q' → fault_here s q i n ≡ some x → scanned s q i n ≡ refused x i
  faulty q' x e f = stepped q' e ∙ rw f

  pub stuck : step q (get_or s i 0) ≡ none → scanned s q i n ≡ refused FORM i
  unfolding scan
  stuck e = rw (drop-cons s i 0) (rw (e, scan))

-- a source that ends too soon
pub short : (s : Bytes) (i n : ℕ) → length s ≤ i → (q : ParserState) → finish q.0 q.1 ≡ none → scanned s q i n ≡ refused FORM i
unfolding scan
short s i n l q e = rw (drop_of_length-le s l) (rw (e, scan))
