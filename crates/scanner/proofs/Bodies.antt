-- The runs of letters and of a literal's bytes, one step after the other. Assumes nothing.
use mathlib.Core.Path.{◌≡◌, refl, sym, ap, ◌∙◌}
use mathlib.Core.Logic.{⊎_elim}
use mathlib.Core.List.{[], ◌∷◌, ◌++◌}
use Prim.Native.Nat.{ℕ, ◌+◌, ◌-◌, ◌<◌, ◌≤◌}
use native.Mathlib.Omega.{arith}
use lib.Bits.{bit_or, or_lt, or_zero_l, or_add_and, and_le_l}
use lib.ListN.{length, get_or, set, length-append, length-set}
use borrow.Author.Tests.{le-leb, lt-leb}
use Rattle.std.specs.Prelude.{Ok, Err}
use Rattle.pattern.specs.Numbers.{CODE, set_limit}
use Rattle.pattern.specs.Bytes.{Bytes}
use Rattle.pattern.specs.Codes.{bit}
use Rattle.pattern.specs.Syntax.{codes}
use Rattle.pattern.specs.Parser.{after, move, step, extend}
use Rattle.pattern.specs.Scan.{begins, begun, body_begins, fault, refuse}
use Rattle.scanner.specs.declared.cursor.Cursor.{Cursor}
use Rattle.pattern.specs.declared.refusal.Refusal.TheVariants.{Form, Code}
use Rattle.scanner.specs.declared.cursor.Class.{Class}
use Rattle.scanner.specs.declared.cursor.Class.TheVariants as class
use Rattle.scanner.specs.declared.cursor.Text.TheVariants as texts
use Rattle.scanner.specs.Places.{Onward, LetterIs, ClassPost}
use Rattle.pattern.specs.Stores.{store_at}
use Rattle.scanner.specs.Bodies.{Passes, Refuses, after_codes, in_literal, TextPost, CodesFromPost, QuotedPost}
use Rattle.scanner.proofs.Places.{letter_place, class_letter, class_none}
use Rattle.scanner.proofs.Steps.{onward, faulty}
use Rattle.pattern.proofs.Tests.{le_or_lt}
use Rattle.pattern.proofs.Stores.{store_at_none, store_at_more}

-- a letter after those that gave a set
module _ (s : Bytes) (at c : ℕ) (next : Cursor) (is : LetterIs s at c next) (set : ℕ) where
  codes_next : bit c < set_limit → Passes s (after_codes set) at (after_codes (bit_or set (bit c))) next.at
  unfolding step move extend fault begins begun body_begins refuse
  codes_next h = record { scan = λ l v k n. rw (is.kind.past, is.value) (onward s at n is.kind.within (after l v (codes set), k) _ (rw is.kind.kind) (rw is.kind.kind (rw (lt-leb set_limit (bit (get_or s at 0)) (rw is.value at h)))) (rw is.kind.kind)) }

  codes_bad : set_limit ≤ bit c → Refuses s (after_codes set) at CODE at
  unfolding step move extend fault begins begun body_begins refuse
  codes_bad h = record { scan = λ l v k n. faulty s at n is.kind.within (after l v (codes set), k) (after l v (codes (bit_or set (bit (get_or s at 0)))), k) CODE (rw is.kind.kind) (rw is.kind.kind (rw (le-leb set_limit (bit (get_or s at 0)) (rw is.value at h)))) }

-- where the loop over letters stands: each one was a code, or the last was none
pub record Coding (s : Bytes) (i : ℕ) (at : Cursor) (set : ℕ) : Type 0 where
  pub on : i < at.at
  pub within : at.at ≤ length s
  pub passes : set < set_limit → Passes s (after_codes 0) i (after_codes set) at.at
  pub refuses : set_limit ≤ set → Refuses s (after_codes 0) i CODE (at.at - 1)

coding_next : (s : Bytes) (i at c : ℕ) (next : Cursor) → LetterIs s at c next → i ≤ at → (set : ℕ) → set < set_limit → Passes s (after_codes 0) i (after_codes set) at → Coding s i next (bit_or set (bit c))
coding_next s i at c next is o set h p = record {
  on = omega (arith, is.kind.past);
  within = omega (arith, is.kind.past, is.kind.within);
  passes = λ g. record { scan = λ l v k n. p.scan l v k n ∙ (codes_next s at c next is set (omega (arith, or_add_and set (bit c), and_le_l set (bit c)))).scan l v k n };
  refuses = λ g.
      let f : set_limit ≤ bit c = ⊎_elim (λ x. x) (λ x. absurd (omega (arith, or_lt 7 set (bit c) h x))) (le_or_lt set_limit (bit c)) in
      rw (letter_place s at c next is) (record { scan = λ l v k n. p.scan l v k n ∙ (codes_bad s at c next is set f).scan l v k n });
}

pub coding_start : (s : Bytes) (i c x : ℕ) (next : Cursor) → LetterIs s i c next → x ≡ bit c → Coding s i next x
coding_start s i c x next is e = rw (e, ← or_zero_l (bit c)) (coding_next s i i c next is (omega arith) 0 (omega arith) (record { scan = λ l v k n. refl }))

module _ (s : Bytes) (i : ℕ) (at : Cursor) (set : ℕ) (c : Coding s i at set) where
  pub coding_fault : set_limit ≤ set → CodesFromPost s i (Err (record { refusal = Code; position = at.at - 1 }))
  unfolding CodesFromPost
  coding_fault h = (refl, c.refuses h)

  module _ (small : set < set_limit) where
    pub coding_more : (b x : ℕ) (next : Cursor) → ClassPost s at.at (class.Letter b next) → x ≡ bit b → Coding s i next (bit_or set x)
    coding_more b x next h f = rw f (coding_next s i at.at b next (class_letter s at.at b next h) (omega (arith, c.on)) set small (c.passes small))

    pub coding_end : (r : Class) → ClassPost s at.at r → ((b : ℕ) (next : Cursor) → ¬ (r ≡ class.Letter b next)) → CodesFromPost s i (Ok (set, at))
    unfolding CodesFromPost
    coding_end r read d = (small, omega (arith, c.on), c.within, c.passes small, class_none s at.at r d read)

-- where the loop over a literal's bytes stands
pub record Quoting (s : Bytes) (i p : ℕ) (pool pool' : Bytes) (at end : ℕ) : Type 0 where
  pub value : Bytes
  pub end_is : end ≡ p + length value
  pub wrote : pool' ≡ store_at pool p value
  pub on : i ≤ at
  pub within : at ≤ length s
  pub fits : end ≤ at
  pub room : length s ≤ length pool'
  pub scan : Passes s (in_literal []) i (in_literal value) at

pub quoting_start : (s : Bytes) (i p : ℕ) (pool : Bytes) → i ≤ length s → p ≤ i → length s ≤ length pool → Quoting s i p pool pool i p
quoting_start s i p pool h f g = record {
  value = [];
  end_is = omega arith;
  wrote = sym (store_at_none pool p);
  on = omega arith;
  within = h;
  fits = f;
  room = g;
  scan = record { scan = λ l v k n. refl };
}

module _ (s : Bytes) (i p : ℕ) (pool pool' : Bytes) (at end : ℕ) (q : Quoting s i p pool pool' at end) where
  module _ (b : ℕ) (next : Cursor) (read : TextPost s at (texts.Byte b next)) where
    pub quoting_past : Onward s at next
    unfolding TextPost
    quoting_past = read.0

    pub quoting_more : Quoting s i p pool (set pool' end b) next.at (end + 1)
    unfolding TextPost
    quoting_more =
        let (o, f) = read in
        record {
          value = q.value ++ b ∷ [];
          end_is = omega (arith, q.end_is, length-append q.value (b ∷ []));
          wrote = ap (λ (m : Bytes). set m end b) q.wrote ∙ store_at_more pool p end b q.value q.end_is;
          on = omega (arith, q.on, o.on);
          within = o.within;
          fits = omega (arith, q.fits, o.on);
          room = omega (arith, q.room, length-set pool' end b);
          scan = record { scan = λ l h k n. q.scan.scan l h k n ∙ (f q.value).scan l h k n };
        }

  pub quoting_ends : (next : Cursor) → TextPost s at (texts.End next) → QuotedPost s i p pool pool' (Ok (next, end))
  unfolding TextPost QuotedPost
  quoting_ends next read =
      let (o, f, g) = read in
      record {
        value = q.value;
        end_is = q.end_is;
        wrote = q.wrote;
        onward = record { on = omega (arith, q.on, o.on); within = o.within };
        fits = omega (arith, q.fits, o.on);
        scan = record { scan = λ l h k n. q.scan.scan l h k n ∙ (f q.value).scan l h k n };
        rests = g;
      }

  pub quoting_broken : TextPost s at texts.Broken → QuotedPost s i p pool pool' (Err (record { refusal = Form; position = at }))
  unfolding TextPost QuotedPost
  quoting_broken read = (refl, record { scan = λ l h k n. q.scan.scan l h k n ∙ (read q.value).scan l h k n })
