-- A table that the test calls good, and the counts of its atoms. Assumes nothing.
use mathlib.Core.Path.{◌≡◌, refl, sym, ap, subst, ◌∙◌}
use mathlib.Core.List.{List, [], ◌∷◌, ◌++◌}
use mathlib.Core.Option.{Option, none, some}
use Prim.Native.Nat.{ℕ, zero, suc, ◌≤◌, ◌<◌}
use native.Mathlib.Omega.{arith}
use lib.ListN.{length, get_or}
use Rattle.pattern.specs.Numbers.{atom_limit}
use Rattle.pattern.specs.Bytes.{Bytes}
use Rattle.pattern.specs.Syntax.{Sort, pattern, atom, Syntax, last, then, repeat, codes, literal, group, only, or, size, top_size, nodes}
use Rattle.pattern.specs.Within.{Fits, InLimits}
use Rattle.pattern.specs.Print.{print}
use Rattle.pattern.specs.Decode.{version_of, dummy, tree_of, decode}
use Rattle.pattern.proofs.Bound.{nodes_size}
use Rattle.pattern.proofs.RoundTrip.{tree_encode}
use Rattle.pattern.proofs.Calls.{good_limited, print_compiles}
use Rattle.table.specs.declared.Sizes.{Sizes}
use Rattle.std.specs.Prelude.{Some, None}
use Rattle.std.proofs.lemmas.Option.{none-some}
use Rattle.table.specs.Tested.{tested}
use Rattle.atoms.specs.Atoms.{GoodTable, atoms, node, head, AtomIn}

-- ---- the test's answer

-- the tree that a table decodes to is what it is read as
tree_is : (table : Bytes) (t : Syntax pattern) → decode table ≡ some t → tree_of table ≡ t
tree_is table t d = let c = print_compiles table t d in ap tree_of (sym c.whole) ∙ tree_encode (version_of table) t c.within c.few

-- the table is good, and the sizes are of its tree
pub record GoodSizes (table : Bytes) (s : Sizes) : Type 0 where
  pub good : GoodTable table
  pub atoms_is : s.atoms ≡ atoms table
  pub top_is : s.top ≡ top_size (tree_of table)
  pub source_is : s.source ≡ length (print (tree_of table))
  pub few : atoms table ≤ atom_limit

module _ (table : Bytes) where
  pub tested_good : (s : Sizes) → Some s ≡ tested (decode table) → GoodSizes table s
  unfolding tested
  tested_good s e = go (decode table) refl e
    where
      go : (o : Option (Syntax pattern)) → decode table ≡ o → Some s ≡ tested o → GoodSizes table s
      go none d e = absurd (none-some s (sym e))
      go (some t) d e =
          let g = good_limited table t d in
          let r = tree_is table t d in
          let y : s ≡ record { atoms = size t; top = top_size t; source = length (print t) } = cc in
          record {
            good = record { decoded = d ∙ ap some (sym r) };
            atoms_is = ap (λ (z : Sizes). z.atoms) y ∙ ap size (sym r);
            top_is = ap (λ (z : Sizes). z.top) y ∙ ap top_size (sym r);
            source_is = ap (λ (z : Sizes). z.source) y ∙ ap (λ (u : Syntax pattern). length (print u)) (sym r);
            few = rw r g.atoms;
          }

  pub tested_bad : None ≡ tested (decode table) → decode table ≡ none
  unfolding tested
  tested_bad e = go (decode table) e
    where
      go : (o : Option (Syntax pattern)) → None ≡ tested o → o ≡ none
      go none e = refl
      go (some t) e = absurd (none-some _ e)

-- ---- the counts of a good table fit

AtomFits : Syntax atom → Type 0
AtomFits (repeat low high b) = Fits low high

AllFit : List (Syntax pattern) → Type 0
AllFit [] = Unit {0}
AllFit (p ∷ ps) = AtomFits (head p) × AllFit ps

fit_append : (u v : List (Syntax pattern)) → AllFit u → AllFit v → AllFit (u ++ v)
unfolding AllFit
fit_append [] v f g = g
fit_append (p ∷ u) v (h, f) g = (h, fit_append u v f g)

fit_at : (u : List (Syntax pattern)) (k : ℕ) (p : Syntax pattern) → k < length u → AllFit u → AtomFits (head (get_or u k p))
unfolding AllFit
fit_at [] k p l f = absurd (omega arith)
fit_at (q ∷ u) zero p l (h, f) = h
fit_at (q ∷ u) (suc k) p l (h, f) = fit_at u k p (omega arith) f

atom_fits : (d : ℕ) (a : Syntax atom) → InLimits d a → AtomFits a
unfolding InLimits AtomFits
atom_fits d (repeat low high b) (f, g) = f

all_fit : {o : Sort} (d : ℕ) (t : Syntax o) → InLimits d t → AllFit (nodes t)
unfolding InLimits nodes AllFit head
all_fit d (last a) g = (atom_fits d a g, all_fit d a g)
all_fit d (then a p) (g, k) = (atom_fits d a g, fit_append (nodes a) (nodes p) (all_fit d a g) (all_fit d p k))
all_fit d (repeat low high b) (f, g) = all_fit d b g
all_fit d (codes set) g = tt
all_fit d (literal value) g = tt
all_fit d (group bs) (l, g) = all_fit (suc d) bs g
all_fit d (only p) g = all_fit d p g
all_fit d (or p bs) (g, k) = fit_append (nodes p) (nodes bs) (all_fit d p g) (all_fit d bs k)

pub count_fits : (table : Bytes) (x : ℕ) → AtomIn table x → (low : ℕ) (high : Option ℕ) (b : _) → head (node table x) ≡ repeat low high b → Fits low high
unfolding node AtomFits
count_fits table x ok low high b e =
    let t = tree_of table in
    subst AtomFits e (fit_at (nodes t) x (last dummy) (omega (arith, ok.there, nodes_size t)) (all_fit 0 t (good_limited table t ok.good.decoded).tree))
