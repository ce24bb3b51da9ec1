-- Code letters and literals: what their readers promise, as equations on the scan. Private: a model for contracts inside the library.
use Rattle.std.specs.Prelude.{◌≡◌, [], ◌∷◌, ◌++◌, ℕ, ◌+◌, ◌<◌, ◌≤◌, length, Result, Ok, Err}
use Rattle.std.proofs.Math.Option.{Option}
use Rattle.pattern.specs.Numbers.{FORM, CODE, set_limit}
use Rattle.pattern.specs.Bytes.{Bytes}
use Rattle.pattern.specs.Syntax.{codes, literal}
use Rattle.pattern.specs.Grammar.{letter, quote, body_start}
use Rattle.pattern.specs.Parser.{ParserState, inside, after, Stack}
use Rattle.pattern.specs.Scan.{refused}
use Rattle.scanner.specs.declared.cursor.Cursor.{Cursor}
use Rattle.scanner.specs.declared.cursor.Text.{Text}
use Rattle.scanner.specs.declared.cursor.Text.TheVariants as text
use Rattle.scanner.specs.Places.{Onward, ClassNot}
use Rattle.scanner.specs.Scans.{scanned}
use Rattle.pattern.specs.Stores.{store_at}
use Rattle.pattern.specs.Refusals.{number_of}
use Rattle.pattern.specs.declared.refusal.Fault.{Fault}

-- a state of the parser in or after a body, for any count and any stack
abbrev pub Inside : Type 0
Inside = ℕ → Option ℕ → Stack → ParserState

abbrev pub after_codes : ℕ → Inside
after_codes set l h k = (after l h (codes set), k)

abbrev pub in_literal : Bytes → Inside
in_literal v l h k = (inside l h v, k)

abbrev pub past_literal : Bytes → Inside
past_literal v l h k = (after l h (literal v), k)

-- the scan goes on from place i to place j
pub record Passes (s : Bytes) (from : Inside) (i : ℕ) (to : Inside) (j : ℕ) : Type 0 where
  pub scan : (l : ℕ) (h : Option ℕ) (k : Stack) (n : ℕ) → scanned s (from l h k) i n ≡ scanned s (to l h k) j n

-- the scan refuses
pub record Refuses (s : Bytes) (from : Inside) (i f p : ℕ) : Type 0 where
  pub scan : (l : ℕ) (h : Option ℕ) (k : Stack) (n : ℕ) → scanned s (from l h k) i n ≡ refused f p

unfoldable pub TextPost : Bytes → ℕ → Text → Type 0
TextPost s at (text.Byte c next) = Onward s at next × ((v : Bytes) → Passes s (in_literal v) at (in_literal (v ++ c ∷ [])) next.at)
TextPost s at (text.End next) = Onward s at next × ((v : Bytes) → Passes s (in_literal v) at (past_literal v) next.at) × ClassNot s next.at (body_start quote)
TextPost s at text.Broken = (v : Bytes) → Refuses s (in_literal v) at FORM at

-- a run of letters from i on, as after codes with no bit yet
unfoldable pub CodesFromPost : Bytes → ℕ → Result (ℕ × Cursor) Fault → Type 0
CodesFromPost s i (Ok (set, next)) =
    (set < set_limit) × (i ≤ next.at) × (next.at ≤ length s) × Passes s (after_codes 0) i (after_codes set) next.at × ClassNot s next.at (body_start letter)
CodesFromPost s i (Err f) = (number_of f.refusal ≡ CODE) × Refuses s (after_codes 0) i CODE f.position

-- a literal whose value goes to the pool from p on
pub record LiteralIs (s : Bytes) (i p : ℕ) (pool pool' : Bytes) (next : Cursor) (end : ℕ) : Type 0 where
  pub value : Bytes
  pub end_is : end ≡ p + length value
  pub wrote : pool' ≡ store_at pool p value
  pub onward : Onward s i next
  pub fits : end ≤ next.at
  pub scan : Passes s (in_literal []) i (past_literal value) next.at
  pub rests : ClassNot s next.at (body_start quote)

unfoldable pub QuotedPost : Bytes → (i p : ℕ) → (pool pool' : Bytes) → Result (Cursor × ℕ) Fault → Type 0
QuotedPost s i p pool pool' (Ok (next, end)) = LiteralIs s i p pool pool' next end
QuotedPost s i p pool pool' (Err f) = (number_of f.refusal ≡ FORM) × Refuses s (in_literal []) i FORM f.position
