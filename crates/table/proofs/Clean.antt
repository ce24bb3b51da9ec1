-- Trees with good counts, sets that have a code and literals of plain bytes: just those that derive their printed source. Assumes nothing.
use mathlib.Core.Path.{◌≡◌, refl, sym}
use mathlib.Core.Bool.{Bool, true, false, ◌&&◌, ◌||◌}
use mathlib.Core.List.{[], ◌∷◌}
use mathlib.Core.Option.{Option, none, some}
use Prim.Native.Nat.{ℕ, suc, ◌≤◌}
use native.Mathlib.Omega.{arith}
use lib.Dec.{leb, eqb}
use borrow.Author.Tests.{eqb-true, leb-true, ne_eqb, le-leb}
use Rattle.pattern.specs.Numbers.{number_limit, quote_byte, open_high}
use Rattle.pattern.specs.Bytes.{Bytes, between}
use Rattle.pattern.specs.Syntax.{Sort, Syntax, last, then, repeat, codes, literal, group, only, or}
use Rattle.pattern.specs.Meaning.{Cut, UpTo}
use Rattle.pattern.specs.Grammar.{start, Derives}
use Rattle.pattern.specs.Within.{Small, Fits, InLimits}
use Rattle.pattern.specs.Print.{print_count, double, print}
use Rattle.pattern.specs.Table.{high_field}
use Rattle.pattern.specs.Decode.{high_of}
use Rattle.pattern.proofs.Tests.{true-T, passed}
use Rattle.pattern.proofs.Printed.{count_printed, Printable, quoted_printed, letters_printed, letters_some, quoted_printable}
use Rattle.table.specs.Checked.{all_plain, ordered}
use Rattle.table.proofs.Standing.{Clean}
use Rattle.table.proofs.Options.{and_true, true_and}

plain_printable : (v : Bytes) → all_plain v ≡ true → Printable v
unfolding all_plain Printable
plain_printable [] e = tt
plain_printable (b ∷ v) e = let (x, y) = and_true (between 32 126 b) (all_plain v) e in (true-T _ x, plain_printable v y)

printable_plain : (v : Bytes) → Printable v → all_plain v ≡ true
unfolding all_plain Printable
printable_plain [] p = refl
printable_plain (b ∷ v) (p, q) = true_and (between 32 126 b) (all_plain v) (passed _ p) (printable_plain v q)

-- a clean tree within the limits derives its printed source
pub clean_derives : {s : Sort} (d : ℕ) (x : Syntax s) → InLimits d x → Clean x → Derives x (print x)
unfolding Derives Cut InLimits Clean print
clean_derives d (last a) g c = clean_derives d a g c
clean_derives d (then a p) (g, k) (c, e) = (print a, print p, refl, clean_derives d a g c, clean_derives d p k e)
clean_derives d (repeat low high b) (g, k) c = (print_count low high, print b, refl, count_printed low high, clean_derives d b k c)
clean_derives d (codes set) g c = letters_printed set c g
clean_derives d (literal value) g c = (quote_byte ∷ double value, refl, quoted_printed value [] (quote_byte ∷ []) start (plain_printable value c))
clean_derives d (group bs) (g, k) c = (print bs, refl, clean_derives (suc d) bs k c)
clean_derives d (only p) g c = clean_derives d p g c
clean_derives d (or p bs) (g, k) (c, e) = (print p, print bs, refl, clean_derives d p g c, clean_derives d bs k e)

-- a tree that derives some source is clean
pub derives_clean : {s : Sort} (x : Syntax s) (w : Bytes) → Derives x w → Clean x
unfolding Derives Cut Clean
derives_clean (last a) w h = derives_clean a w h
derives_clean (then a p) w (x, y, e, h, i) = (derives_clean a x h, derives_clean p y i)
derives_clean (repeat low high b) w (x, y, e, h, i) = derives_clean b y i
derives_clean (codes set) w h = letters_some h
derives_clean (literal value) w (q, e, h) = printable_plain value (quoted_printable h)
derives_clean (group bs) w (x, e, h) = derives_clean bs x h
derives_clean (only p) w h = derives_clean p w h
derives_clean (or p bs) w (x, y, e, h, i) = (derives_clean p x h, derives_clean bs y i)

-- ---- the numbers of a count, as a record has them

pub high_back : (h : ℕ) → high_field (high_of h) ≡ h
unfolding high_of
high_back h = go (eqb h open_high) refl
  where
    go : (b : Bool) → eqb h open_high ≡ b → high_field (elim b [ true ↦ none | false ↦ some h ]) ≡ h
    go true e = sym (eqb-true h open_high e)
    go false e = refl

pub ordered_fits : (low high : ℕ) → ordered low high ≡ true → Fits low (high_of high)
unfolding ordered high_of Small UpTo
ordered_fits low high e = let (x, y) = and_true (leb low number_limit) _ e in go (eqb high open_high) (leb-true _ _ x) y
  where
    go : (b : Bool) → low ≤ number_limit → (b || leb low high && leb high number_limit) ≡ true → Fits low (elim b [ true ↦ none | false ↦ some high ])
    go true x y = (x, tt, tt)
    go false x y = let (u, v) = and_true (leb low high) (leb high number_limit) y in (x, leb-true _ _ v, leb-true _ _ u)

pub fits_ordered : (low : ℕ) (high : Option ℕ) → Fits low high → ordered low (high_field high) ≡ true
unfolding ordered Small UpTo
fits_ordered low none (x, y, z) = true_and _ _ (le-leb low number_limit x) refl
fits_ordered low (some high) (x, y, z) =
    true_and _ _ (le-leb low number_limit x) (rw (ne_eqb high open_high (λ e. omega arith), le-leb low high z, le-leb high number_limit y))
