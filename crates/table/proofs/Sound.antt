-- A tree that the checked reading gives stands in the bytes: its records and its literals; and it is good. Assumes nothing.
use mathlib.Core.Path.{◌≡◌, refl, sym, ap, subst, ◌∙◌}
use mathlib.Core.Logic.{⊎_elim}
use mathlib.Core.Bool.{true}
use mathlib.Core.Option.{some}
use mathlib.Core.List.{[], ◌∷◌}
use Prim.Native.Nat.{ℕ, zero, suc, ◌+◌, ◌*◌, ◌<◌, ◌≤◌, pred}
use native.Mathlib.Omega.{arith}
use lib.Dec.{ltb}
use borrow.Author.Tests.{eqb-true, leb-true, ltb-true}
use lib.ListN.{length, drop, length-append, length-take, length-drop, take-append-drop}
use Rattle.pattern.specs.Numbers.{depth_limit, set_limit, record_size, group_kind}
use Rattle.pattern.specs.Bytes.{Bytes}
use Rattle.pattern.specs.Syntax.{pattern, atom, body, branches, Syntax, then, repeat, codes, literal, or, size}
use Rattle.pattern.specs.Within.{Fits, InLimits}
use Rattle.pattern.specs.Table.{pool, branch_count, kind_field, a_field, b_field, high_field, Rec, rec, records, record_bytes}
use Rattle.pattern.specs.Decode.{high_of}
use Rattle.stores.proofs.Little.{Octets}
use Rattle.table.specs.Checked.{payload_record, all_plain, a_set, bind, only_if, pool_slice, leaf, closed_group, read_pattern, read_atom, read_branches}
use Rattle.table.proofs.Standing.{Clean, Set, both_placed}
use Rattle.table.proofs.Options.{nothing, inside, after_some, only_some, choose_some, and_true}
use Rattle.pattern.proofs.Records.{count_records}
use Rattle.table.proofs.Places.{one_record}
use Rattle.table.proofs.Clean.{high_back, ordered_fits}

-- bytes that have room for the records
pub record Laid (s : Bytes) (A : ℕ) : Type 0 where
  pub bytes : Octets s
  pub records : record_size * A ≤ length s

module _ (s : Bytes) (A : ℕ) (laid : Laid s A) where
  same_rec : (r : Rec) (k a b : ℕ) → r.kind ≡ k → r.a ≡ a → r.b ≡ b
      → r ≡ record { kind = k; ends = r.ends; low = r.low; high = high_field (high_of r.high); a = a; b = b }
  same_rec r k a b e f g =
      λ j. record { kind = e j; ends = r.ends; low = r.low; high = sym (high_back r.high) j; a = f j; b = g j }

  -- an atom whose record is its body's
  set_atom : (b : Syntax body) (i p d : ℕ) → i < A → Fits (payload_record s i).low (high_of (payload_record s i).high)
      → payload_record s i ≡ rec (payload_record s i).ends (payload_record s i).low (high_of (payload_record s i).high) b i p
      → ((e : ℕ) → Set s A e b (suc i) p d)
      → Set s A (payload_record s i).ends (repeat (payload_record s i).low (high_of (payload_record s i).high) b) i p d
  unfolding records size pool InLimits Clean record_bytes
  set_atom b i p d h o e f =
      let g = f (payload_record s i).ends in
      record {
        placed = record {
          left = g.placed.left;
          over = g.placed.over;
          recs = one_record s laid.bytes (0 + record_size * i) (0 + record_size * suc i) (omega arith) (omega (arith, laid.records))
              ∙ ap (λ x. record_bytes (payload_record s i ∷ []) x) g.placed.recs ∙ ap (λ x. record_bytes (x ∷ records (payload_record s i).ends b (suc i) p) g.placed.left) e;
          text = g.placed.text;
        };
        good = (o, g.good);
        clean = g.clean;
        within = omega (arith, g.within);
        pooled = g.pooled;
      }

  set_both : (e : ℕ) (a : Syntax atom) (q : Syntax pattern) (i p d : ℕ) → Set s A 0 a i p d → Set s A e q (i + size a) (p + length (pool a)) d → Set s A e (then a q) i p d
  unfolding records size pool InLimits Clean
  set_both e a q i p d f g =
      record {
        placed = both_placed _ _ _ _ (size a) (count_records 0 a i p) f.placed g.placed;
        good = (f.good, g.good);
        clean = (f.clean, g.clean);
        within = omega (arith, g.within);
        pooled = omega (arith, g.pooled, length-append (pool a) (pool q));
      }

  set_branches : (e : ℕ) (q : Syntax pattern) (bs : Syntax branches) (i p d : ℕ) → Set s A e q i p d → Set s A e bs (i + size q) (p + length (pool q)) d → Set s A e (or q bs) i p d
  unfolding records size pool InLimits Clean
  set_branches e q bs i p d f g =
      record {
        placed = both_placed _ _ _ _ (size q) (count_records e q i p) f.placed g.placed;
        good = (f.good, g.good);
        clean = (f.clean, g.clean);
        within = omega (arith, g.within);
        pooled = omega (arith, g.pooled, length-append (pool q) (pool bs));
      }

  set_codes : (set i p d : ℕ) → a_set set ≡ true → i ≤ A → record_size * A + p ≤ length s → (e : ℕ) → Set s A e (codes set) i p d
  unfolding records size pool record_bytes InLimits Clean a_set
  set_codes set i p d h w v e =
      let (x, y) = and_true (ltb 0 set) (ltb set set_limit) h in
      record {
        placed = record { left = drop (0 + record_size * i) s; over = drop (record_size * A + p) s; recs = refl; text = refl };
        good = ltb-true _ _ y;
        clean = ltb-true _ _ x;
        within = omega arith;
        pooled = omega arith;
      }

  length_text : (p n : ℕ) → record_size * A + p + n ≤ length s → length (pool_slice s A p n) ≡ n
  length_text p n h = length-take n (drop (record_size * A + p) s) ∙ omega (arith, length-drop (record_size * A + p) s)

  set_literal : (i p n d : ℕ) → all_plain (pool_slice s A p n) ≡ true → i ≤ A → record_size * A + p + n ≤ length s → (e : ℕ) → Set s A e (literal (pool_slice s A p n)) i p d
  unfolding records size pool record_bytes InLimits Clean
  set_literal i p n d h z v e =
      let m = length_text p n v in
      let rest = drop (record_size * A + p) s in
      record {
        placed = record { left = drop (0 + record_size * i) s; over = drop n rest; recs = refl; text = sym (take-append-drop n rest) };
        good = tt;
        clean = h;
        within = omega arith;
        pooled = omega (arith, m);
      }

  pub record SoundTo (f : ℕ) : Type 0 where
    pub patterns : (i p d : ℕ) (t : Syntax pattern) → record_size * A + p ≤ length s → read_pattern s A f i p d ≡ some t → (e : ℕ) → Set s A e t i p d
    pub atoms : (i p d : ℕ) (a : Syntax atom) → record_size * A + p ≤ length s → read_atom s A f i p d ≡ some a → Set s A (payload_record s i).ends a i p d
    pub branches : (k i p d : ℕ) (bs : Syntax branches) → record_size * A + p ≤ length s → read_branches s A f k i p d ≡ some bs
        → (branch_count bs ≡ k) × ((e : ℕ) → Set s A e bs i p d)

  -- a body, its record and where it stands
  abbrev Bodied : (b : Syntax body) (i p d : ℕ) → Type 0
  Bodied b i p d =
      (payload_record s i ≡ rec (payload_record s i).ends (payload_record s i).low (high_of (payload_record s i).high) b i p) × ((e : ℕ) → Set s A e b (suc i) p d)

  leaf_body : (i p d : ℕ) (b : Syntax body) → i < A → record_size * A + p ≤ length s → leaf s A (payload_record s i).kind (payload_record s i).a (payload_record s i).b p ≡ some b → Bodied b i p d
  unfolding leaf kind_field a_field b_field
  leaf_body i p d b h v e =
      ⊎_elim
      (λ (k, g). let (y, g1) = only_some _ _ g in
      let (z, g2) = only_some _ _ g1 in
      subst (λ (b : Syntax body). Bodied b i p d) (inside g2)
      (same_rec (payload_record s i) _ _ _ (eqb-true _ _ k) refl (eqb-true _ _ z), set_codes _ (suc i) p d y h v))
      (λ (k, g). let (y4, g1) = only_some _ _ g in
      let (y5, g2) = only_some _ _ g1 in
      let (y3, g3) = only_some _ _ g2 in
      let (z, g4) = only_some _ _ g3 in
      let q = leb-true _ _ y3 in
      subst (λ (b : Syntax body). Bodied b i p d) (inside g4)
      (same_rec (payload_record s i) _ _ _ (eqb-true _ _ y4) (eqb-true _ _ y5) (sym (length_text p _ q)), set_literal (suc i) p _ d z h q))
      (choose_some _ _ _ e)

  group_body : (f i p d : ℕ) (b : Syntax body) → SoundTo f → record_size * A + p ≤ length s → (payload_record s i).kind ≡ group_kind
      → only_if (ltb d depth_limit) (bind (read_branches s A f (payload_record s i).a (suc i) p (suc d)) (closed_group s A (payload_record s i).b i)) ≡ some b
      → Bodied b i p d
  unfolding closed_group kind_field a_field b_field records size pool InLimits Clean
  group_body f i p d b ih v k e =
      let (y, g) = only_some _ _ e in
      let (bs, r, g1) = after_some _ _ g in
      let (z, g2) = only_some _ _ g1 in
      let (n, st) = ih.branches _ _ _ _ bs v r in
      subst (λ (b : Syntax body). Bodied b i p d) (inside g2)
      (same_rec (payload_record s i) _ _ _ k (sym n) (sym (eqb-true _ _ z)), λ e. let h = st e in record { placed = h.placed; good = (ltb-true _ _ y, h.good); clean = h.clean; within = h.within; pooled = h.pooled })

  sound_atom : (f : ℕ) → SoundTo f → (i p d : ℕ) (a : Syntax atom) → record_size * A + p ≤ length s → read_atom s A (suc f) i p d ≡ some a → Set s A (payload_record s i).ends a i p d
  unfolding read_pattern
  sound_atom f ih i p d a v e =
      let (h, g) = only_some _ _ e in
      let (o, g1) = only_some _ _ g in
      let (b, r, g2) = after_some _ _ g1 in
      let h2 = ltb-true _ _ h in
      let (m, st) : Bodied b i p d = ⊎_elim (λ (k, x). group_body f i p d b ih v (eqb-true _ _ k) x) (λ (k, x). leaf_body i p d b h2 v x) (choose_some _ _ _ r) in
      subst (λ (a : Syntax atom). Set s A (payload_record s i).ends a i p d) (inside g2) (set_atom b i p d h2 (ordered_fits _ _ o) m st)

  sound_pattern : (f : ℕ) → SoundTo f → (i p d : ℕ) (t : Syntax pattern) → record_size * A + p ≤ length s → read_pattern s A (suc f) i p d ≡ some t → (e : ℕ) → Set s A e t i p d
  unfolding read_pattern records size pool InLimits Clean
  sound_pattern f ih i p d t v e n =
      let (a, r, g) = after_some _ _ e in
      let st = ih.atoms i p d a v r in
      ⊎_elim
      (λ (k, x). let u = subst (λ (m : ℕ). Set s A m a i p d) (eqb-true _ _ k) st in
      subst (λ (t : Syntax pattern). Set s A n t i p d) (inside x)
      (record { placed = u.placed; good = u.good; clean = u.clean; within = u.within; pooled = u.pooled }))
      (λ (k, x). let (z, g1) = only_some _ _ x in
      let (q, r2, g2) = after_some _ _ g1 in
      let u = subst (λ (m : ℕ). Set s A m a i p d) (eqb-true _ _ z) st in
      subst (λ (t : Syntax pattern). Set s A n t i p d) (inside g2)
      (set_both n a q i p d u (ih.patterns _ _ _ q (omega (arith, u.pooled)) r2 n)))
      (choose_some _ _ _ g)

  sound_branches : (f : ℕ) → SoundTo f → (k i p d : ℕ) (bs : Syntax branches) → record_size * A + p ≤ length s → read_branches s A (suc f) k i p d ≡ some bs
      → (branch_count bs ≡ k) × ((e : ℕ) → Set s A e bs i p d)
  unfolding read_pattern branch_count records size pool InLimits Clean
  sound_branches f ih k i p d bs v e =
      let (h, g) = only_some _ _ e in
      let (q, r, g1) = after_some _ _ g in
      let st = ih.patterns i p d q v r in
      ⊎_elim
      (λ (c, x). subst (λ (bs : Syntax branches). (branch_count bs ≡ k) × ((e : ℕ) → Set s A e bs i p d)) (inside x)
      (sym (eqb-true _ _ c), λ n. let u = st n in record { placed = u.placed; good = u.good; clean = u.clean; within = u.within; pooled = u.pooled }))
      (λ (c, x). let (cs, r2, g2) = after_some _ _ x in
      let (m, su) = ih.branches (pred k) _ _ _ cs (omega (arith, (st 0).pooled)) r2 in
      let h2 = ltb-true 0 k h in
      subst (λ (bs : Syntax branches). (branch_count bs ≡ k) × ((e : ℕ) → Set s A e bs i p d)) (inside g2)
      (omega (arith, m, h2), λ n. set_branches n q cs i p d (st n) (su n)))
      (choose_some _ _ _ g1)

  pub sound : (f : ℕ) → SoundTo f
  unfolding read_pattern
  sound zero = record { patterns = λ i p d t v e. nothing e; atoms = λ i p d a v e. nothing e; branches = λ k i p d bs v e. nothing e }
  sound (suc f) =
      record { patterns = sound_pattern f (sound f); atoms = sound_atom f (sound f); branches = sound_branches f (sound f) }
