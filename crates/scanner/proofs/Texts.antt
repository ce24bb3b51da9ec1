-- The scan inside a literal. Assumes nothing.
use mathlib.Core.Path.{◌≡◌, refl, sym, ap, ◌∙◌}
use mathlib.Core.Bool.{true, false}
use mathlib.Core.List.{[], ◌∷◌, ◌++◌}
use mathlib.Core.Option.{Option}
use Prim.Native.Nat.{ℕ, suc, ◌<◌, ◌≤◌}
use native.Mathlib.Omega.{arith}
use lib.ListN.{length, get_or}
use Rattle.pattern.specs.Numbers.{FORM, quote_byte}
use Rattle.pattern.specs.Bytes.{Bytes, between}
use Rattle.pattern.specs.Syntax.{literal}
use Rattle.pattern.specs.Grammar.{quote, body_start, char_class, LiteralClass, plain, quoting, barred, literal_class}
use Rattle.pattern.specs.Parser.{inside, after, Stack, extend, quoted, move, step, finish}
use Rattle.pattern.specs.Scan.{begins, begun, body_begins, fault, refused}
use Rattle.pattern.proofs.Notation.{literal_byte}
use Rattle.scanner.specs.declared.cursor.Cursor.{Cursor}
use Rattle.scanner.specs.declared.cursor.Text.TheVariants as read
use Rattle.scanner.specs.Places.{Onward, class_at, is_plain, plain_text, ByteIs, ClassNot}
use Rattle.scanner.specs.Scans.{scanned}
use Rattle.scanner.specs.Bodies.{Passes, in_literal, past_literal, TextPost}
use Rattle.scanner.proofs.Steps.{onward, stuck, short}

plain_is : (b : ℕ) → is_plain b ≡ true → literal_class b ≡ plain
unfolding is_plain
plain_is b e = go (literal_class b) e
  where
    go : (x : LiteralClass) → plain_text x ≡ true → x ≡ plain
    go plain h = refl
    go quoting h = cc
    go barred h = cc

barred_is : (b : ℕ) → is_plain b ≡ false → ¬ (b ≡ quote_byte) → literal_class b ≡ barred
unfolding is_plain
barred_is b e d = go (literal_class b) e (λ h. d (rw h at (literal_byte b)))
  where
    go : (x : LiteralClass) → plain_text x ≡ false → ¬ (x ≡ quoting) → x ≡ barred
    go plain h f = cc
    go quoting h f = absurd (f refl)
    go barred h f = refl

module _ (s : Bytes) (at : ℕ) (l : ℕ) (h : Option ℕ) (v : Bytes) (k : Stack) (n : ℕ) (w : at < length s) where
  literal_next : literal_class (get_or s at 0) ≡ plain → scanned s (inside l h v, k) at n ≡ scanned s (inside l h (v ++ get_or s at 0 ∷ []), k) (suc at) n
  unfolding step move quoted fault begins begun
  literal_next e = onward s at n w (inside l h v, k) _ (rw e) refl refl

  literal_ends : literal_class (get_or s at 0) ≡ quoting → scanned s (inside l h v, k) at n ≡ scanned s (after l h (literal v), k) (suc at) n
  unfolding step move quoted fault begins begun
  literal_ends e = onward s at n w (inside l h v, k) _ (rw e) refl refl

  literal_doubles : class_at s at ≡ body_start quote → scanned s (after l h (literal v), k) at n ≡ scanned s (inside l h (v ++ quote_byte ∷ []), k) (suc at) n
  unfolding step move extend fault begins begun body_begins
  literal_doubles e = onward s at n w (after l h (literal v), k) _ (rw e) (rw e) (rw e)

  literal_barred : literal_class (get_or s at 0) ≡ barred → scanned s (inside l h v, k) at n ≡ refused FORM at
  unfolding step move quoted
  literal_barred e = stuck s at n w (inside l h v, k) (rw e)

module _ (s : Bytes) (at c : ℕ) (next : Cursor) (is : ByteIs s at c next) where
  past_here : Onward s at next
  past_here = record { on = omega (arith, is.past); within = omega (arith, is.within, is.past) }

  pub text_plain : is_plain c ≡ true → TextPost s at (read.Byte c next)
  unfolding TextPost
  text_plain e = (past_here, λ v. record { scan = λ l h k n. rw (is.past, is.value) (literal_next s at l h v k n is.within (rw is.value at (plain_is c e))) })

  pub text_barred : is_plain c ≡ false → ¬ (c ≡ quote_byte) → TextPost s at read.Broken
  unfolding TextPost
  text_barred e d = λ v. record { scan = λ l h k n. literal_barred s at l h v k n is.within (rw is.value at (barred_is c e d)) }

  module _ (e : c ≡ quote_byte) where
    quote_here : get_or s at 0 ≡ quote_byte
    quote_here = sym is.value ∙ e

    closes : (v : Bytes) → Passes s (in_literal v) at (past_literal v) next.at
    unfolding literal_class
    closes v = record { scan = λ l h k n. rw is.past (literal_ends s at l h v k n is.within (ap literal_class quote_here)) }

    pub text_ends : ClassNot s next.at (body_start quote) → TextPost s at (read.End next)
    unfolding TextPost
    text_ends f = (past_here, closes, f)

    pub text_doubled : (d : ℕ) (later : Cursor) → ByteIs s next.at d later → d ≡ quote_byte → TextPost s at (read.Byte quote_byte later)
    unfolding TextPost char_class between
    text_doubled d later b f = (
      record { on = omega (arith, is.past, b.past); within = omega (arith, b.within, b.past) },
      λ v. record { scan = λ l h k n. (closes v).scan l h k n ∙ rw b.past (literal_doubles s next.at l h v k n b.within (ap char_class (sym b.value ∙ f))) },
    )

pub text_short : (s : Bytes) (at : ℕ) → length s ≤ at → TextPost s at read.Broken
unfolding TextPost finish
text_short s at w = λ v. record { scan = λ l h k n. short s at n w (inside l h v, k) refl }
