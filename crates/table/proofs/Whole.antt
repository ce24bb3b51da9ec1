-- The checked walk with the test of the source's length reads bytes as `decode` does. Assumes nothing.
use mathlib.Core.Path.{◌≡◌, refl, sym, ap, ap₂, subst, ◌∙◌}
use mathlib.Core.Logic.{⊎_elim}
use mathlib.Core.Bool.{true, ◌&&◌}
use mathlib.Core.Option.{Option, none, some, none-ne-some}
use mathlib.Core.List.{[], ◌++◌, append-nil}
use Prim.Native.Nat.{ℕ, ◌+◌, ◌*◌, ◌<◌, ◌≤◌}
use native.Mathlib.Omega.{arith}
use lib.Dec.{leb, eqb}
use borrow.Author.Tests.{eqb-true, leb-true, le-leb, lt-leb, eq-eqb}
use lib.ListN.{length, take, drop, length-drop, take-append-drop, drop_of_length-le}
use lib.Seq.{length-take-le, drop-drop}
use Rattle.pattern.specs.Numbers.{atoms_place, record_size}
use Rattle.pattern.specs.Versions.{Version, v1, v2, written_version, format, length_place, header_size}
use Rattle.pattern.specs.Bytes.{Bytes, equal, le16, little, number_in}
use Rattle.pattern.specs.Syntax.{pattern, Syntax, size}
use Rattle.pattern.specs.Within.{InLimits}
use Rattle.pattern.specs.Print.{print}
use Rattle.pattern.specs.Table.{pool, records, record_bytes, header, encode_in}
use Rattle.pattern.specs.Decode.{field, version_of, count_in, decode}
use Rattle.pattern.proofs.Tests.{true-T, le_or_lt}
use Rattle.pattern.proofs.Agree.{equal_decides}
use Rattle.pattern.proofs.Records.{length_record_bytes, count_records, placed_first, next_there, after_there}
use Rattle.pattern.proofs.RoundTrip.{some_pattern, encode_length, version_encode, good_exactly}
use Rattle.pattern.proofs.Calls.{print_compiles}
use Rattle.stores.proofs.Little.{Octets, octets_drop, octets_take, little_number}
use Rattle.table.specs.Headers.{first_bytes, marked, format_of, header_by, header_of, headed_by, headed}
use Rattle.table.specs.Checked.{bind, only_if, read_pattern, read_by, read_table, walk}
use Rattle.table.specs.declared.header.Header.{Header}
use Rattle.table.proofs.Standing.{Clean, Set}
use Rattle.table.proofs.Options.{inside, after_some, only_some, kept, dropped, going_on, and_true, true_and}
use Rattle.table.proofs.Places.{pair}
use Rattle.table.proofs.Measures.{marked_as, header_longest}
use Rattle.table.proofs.Clean.{clean_derives, derives_clean}
use Rattle.table.proofs.Sound.{Laid, sound}
use Rattle.table.proofs.Complete.{found}

-- ---- what a header that passes says

pub record Opens (s : Bytes) : Type 0 where
  pub long : header_size (version_of s) ≤ length s
  pub named : take atoms_place s ≡ first_bytes (version_of s)
  pub whole : length s ≡ (header_of s).pool + (header_of s).length

pub opens : (s : Bytes) → headed s ≡ true → Opens s
unfolding headed
opens s e =
    let (x, c) = and_true (leb (header_size written_version) (length s) && marked s) (eqb (length s) ((header_of s).pool + (header_of s).length)) e in
    let (a, b) = and_true (leb (header_size written_version) (length s)) (marked s) x in
    record { long = omega (arith, leb-true (header_size written_version) (length s) a, header_longest (version_of s)); named = (equal_decides _ _).sound (true-T _ (sym (marked_as s) ∙ b)); whole = eqb-true _ _ c }

-- ---- a tree that is read has these bytes as its table, and is good

pub record Whole (s : Bytes) (t : Syntax pattern) : Type 0 where
  pub same : encode_in (version_of s) t ≡ s
  pub within : InLimits 0 t
  pub few : size t ≤ (format (version_of s)).atoms
  pub clean : Clean t

module _ (s : Bytes) (bytes : Octets s) where
  -- the bytes are the header that is read, and what follows it
  open_table : (v : Version) → header_size v ≤ length s → take atoms_place s ≡ first_bytes v → s ≡ header v (count_in v s) (field s (length_place v)) (drop (header_size v) s)
  unfolding header
  open_table v long named =
      let c : ℕ = (format v).width in
      let rest : Bytes = drop atoms_place s in
      let n : length (take c rest) ≡ c = length-take-le c rest (omega (arith, long, length-drop atoms_place s)) in
      let count : take c rest ≡ little c (count_in v s) = sym (little_number (take c rest) (octets_take c rest (octets_drop atoms_place s bytes))) ∙ ap (λ (k : ℕ). little k (number_in (take c rest))) n in
      let after : drop c rest ≡ le16 (field s (length_place v)) (drop (header_size v) s) = drop-drop c atoms_place s ∙ pair s bytes (length_place v) (header_size v) refl long refl in
      sym (take-append-drop atoms_place s) ∙ ap₂ (λ (x y : Bytes). x ++ y) named (sym (take-append-drop c rest) ∙ ap₂ (λ (x y : Bytes). x ++ y) count after)

  read_whole : (t : Syntax pattern) → read_table s ≡ some t → Whole s t
  unfolding read_table encode_in
  read_whole t e =
      let v : Version = version_of s in
      let A : ℕ = (header_of s).atoms in
      let (h, g) = only_some _ _ e in
      let (n, g1) = only_some _ _ g in
      let (u, r, g2) = after_some _ _ g1 in
      let (c, g3) = only_some _ _ g2 in
      let (m, g4) = only_some _ _ g3 in
      let o = opens s h in
      let b : Bytes = drop (header_size v) s in
      let long : length b ≡ record_size * A + (header_of s).length = omega (arith, length-drop (header_size v) s, o.whole) in
      let laid : Laid b A = record { bytes = octets_drop (header_size v) s bytes; records = omega (arith, long) } in
      let st = (sound b A laid _).patterns 0 0 0 u (omega (arith, long)) r 1 in
      let c2 : size u ≡ A = eqb-true _ _ c in
      let m2 : length (pool u) ≡ (header_of s).length = eqb-true _ _ m in
      let at_pool : record_size * A + 0 ≡ 0 + record_size * 0 + record_size * length (records 1 u 0 0) = omega (arith, c2, count_records 1 u 0 0) in
      let to_end : length b ≤ record_size * A + 0 + length (pool u) = omega (arith, long, m2) in
      let over : st.placed.over ≡ [] = sym (after_there b _ _ (pool u) _ refl st.placed.text) ∙ drop_of_length-le b to_end in
      let rest : st.placed.left ≡ pool u = sym (next_there b _ _ (records 1 u 0 0) _ at_pool st.placed.recs) ∙ st.placed.text ∙ ap (λ x. pool u ++ x) over ∙ append-nil (pool u) in
      let all : b ≡ record_bytes (records 1 u 0 0) (pool u) = st.placed.recs ∙ ap (record_bytes (records 1 u 0 0)) rest in
      subst (Whole s) (inside g4)
      (record {
        same = sym (open_table v o.long o.named ∙ ap (header v A (header_of s).length) all ∙ ap₂ (λ k l. header v k l (record_bytes (records 1 u 0 0) (pool u))) (sym c2) (sym m2));
        within = st.good;
        few = omega (arith, c2, leb-true A (header_of s).format.atoms n);
        clean = st.clean;
      })

-- ---- the table of a good tree is read

-- the payload of a tree
abbrev payload : Syntax pattern → Bytes
payload t = record_bytes (records 1 t 0 0) (pool t)

-- what the header of its table says
record HeaderThere (v : Version) (t : Syntax pattern) : Type 0 where
  atoms : count_in v (encode_in v t) ≡ size t
  pooled : field (encode_in v t) (length_place v) ≡ length (pool t)
  marks : marked (encode_in v t) ≡ true
  after : drop (header_size v) (encode_in v t) ≡ payload t

header_there : (v : Version) (t : Syntax pattern) → size t ≤ (format v).atoms → HeaderThere v t
unfolding encode_in header little number_in marked equal
header_there v1 t few = record { atoms = omega arith; pooled = omega arith; marks = refl; after = refl }
header_there v2 t few = record { atoms = omega arith; pooled = omega arith; marks = refl; after = refl }

set_payload : (t : Syntax pattern) → InLimits 0 t → Clean t → Set (payload t) (size t) 1 t 0 0 0
set_payload t g c =
    let n : record_size * size t + 0 ≡ 0 + record_size * 0 + record_size * length (records 1 t 0 0) = omega (arith, count_records 1 t 0 0) in
    record {
      placed = placed_first t n refl;
      good = g;
      clean = c;
      within = omega arith;
      pooled = omega (arith, length_record_bytes (records 1 t 0 0) (pool t), count_records 1 t 0 0);
    }

read_encode : (v : Version) (t : Syntax pattern) → InLimits 0 t → size t ≤ (format v).atoms → Clean t → read_table (encode_in v t) ≡ some t
unfolding read_table headed
read_encode v t g few c =
    let s : Bytes = encode_in v t in
    let h = header_there v t few in
    let a : count_in v s ≡ size t = h.atoms in
    let f : 3 * size t + 1 < 3 * size t + 2 = omega arith in
    let n = encode_length v t in
    ap (λ (w : Version). let h : Header = header_by s (count_in w s) (format_of w) in only_if (headed_by s h) (read_by s h)) (version_encode v t)
    ∙ kept _ _ (true_and _ _ (true_and _ _ (le-leb (header_size written_version) (length s) (omega (arith, n, some_pattern t))) h.marks) (eq-eqb (length s) _ (omega (arith, n, a, h.pooled))))
    ∙ kept _ _ (le-leb (count_in v s) (format v).atoms (omega (arith, a, few)))
    ∙ going_on _ _ (ap₂ (λ (x : Bytes) (A : ℕ). read_pattern x A (3 * A + 2) 0 0 0) h.after a ∙ found (payload t) (size t) 1 t _ 0 0 0 (set_payload t g c) f)
    ∙ kept _ _ (eq-eqb _ _ (sym a))
    ∙ kept _ _ (eq-eqb _ _ (sym h.pooled))

-- ---- the two agree

module _ (s : Bytes) (bytes : Octets s) where
  -- what decodes is read, and its source keeps the limit
  decoded : (u : Syntax pattern) → decode s ≡ some u → (read_table s ≡ some u) × (length (print u) ≤ (format (version_of s)).source)
  decoded u e =
      let p = print_compiles s u e in
      (ap read_table (sym p.whole) ∙ read_encode (version_of s) u p.within p.few (derives_clean u (print u) p.derives), p.short)

  -- what is read is the tree of the bytes, if its source is short enough
  short_decodes : (t : Syntax pattern) → Whole s t → length (print t) ≤ (format (version_of s)).source → decode s ≡ some t
  short_decodes t w n =
      (good_exactly s t).1 (version_of s, print t, record { derives = clean_derives 0 t w.within w.clean; within = w.within; short = n; few = w.few; whole = w.same })

  nothing_decodes : (o : Option (Syntax pattern)) → decode s ≡ o → ((u : Syntax pattern) → decode s ≡ some u → ⊥) → o ≡ none
  nothing_decodes none e f = refl
  nothing_decodes (some u) e f = absurd (f u e)

  agree : (o : Option (Syntax pattern)) → read_table s ≡ o → bind o (λ t. only_if (leb (length (print t)) (header_of s).format.source) (some t)) ≡ decode s
  unfolding bind
  agree none e =
      sym (nothing_decodes (decode s) refl (λ u d. none-ne-some u (sym e ∙ (decoded u d).0)))
  agree (some t) e =
      let w = read_whole s bytes t e in
      let longest : ℕ = (format (version_of s)).source in
      ⊎_elim
      (λ n. kept _ _ (le-leb _ _ n) ∙ sym (short_decodes t w n))
      (λ n. dropped _ _ (lt-leb _ _ n) ∙ sym (nothing_decodes (decode s) refl (λ u d. let x : t ≡ u = inside (sym e ∙ (decoded u d).0) in let k : length (print t) ≤ longest = rw x (decoded u d).1 in omega arith)))
      (le_or_lt (length (print t)) longest)

  -- the checked walk is `decode`
  pub walk_is_decode : walk s ≡ decode s
  unfolding walk
  walk_is_decode = agree (read_table s) refl
