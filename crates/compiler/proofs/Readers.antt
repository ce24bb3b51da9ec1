-- How the answers of the readers fit together. Assumes nothing.
use mathlib.Core.Path.{◌≡◌, refl, sym, ◌∙◌}
use mathlib.Core.List.{List, [], ◌∷◌}
use mathlib.Core.Option.{Option}
use Prim.Native.Nat.{ℕ, suc, ◌+◌, ◌-◌, ◌*◌, ◌<◌, ◌≤◌}
use native.Mathlib.Omega.{arith}
use native.Mathlib.Numerals.{add-one}
use lib.ListN.{length}
use Rattle.std.specs.Prelude.{Result, Ok, Err}
use Rattle.pattern.specs.Numbers.{atom_limit, depth_limit, comma_byte, group_kind}
use Rattle.pattern.specs.Bytes.{Bytes}
use Rattle.pattern.specs.Syntax.{pattern, atom, branches, Syntax, last, then, repeat, group, only, or, size}
use Rattle.pattern.specs.Grammar.{quote, opening, body_start}
use Rattle.pattern.specs.Parser.{counting, empty, Stack, within, fork, next}
use Rattle.pattern.specs.Scan.{low, high, depth}
use Rattle.pattern.specs.Table.{pool, branch_count}
use Rattle.pattern.specs.declared.repeat.Repeat.{Repeat}
use Rattle.pattern.specs.declared.refusal.Refusal.TheVariants.{Form, Depth}
use Rattle.pattern.specs.declared.refusal.Fault.{Fault}
use Rattle.pattern.proofs.RoundTrip.{some_pattern}
use Rattle.pattern.proofs.ParserComplete.{after_pattern}
use Rattle.scanner.specs.declared.cursor.Cursor.{Cursor}
use Rattle.scanner.specs.declared.cursor.Class.TheVariants as class
use Rattle.scanner.specs.declared.cursor.Separator.TheVariants as separator
use Rattle.compiler.specs.declared.reader.ReaderState.{ReaderState}
use Rattle.scanner.specs.Places.{ends_at, ByteIs, ClassIs, LetterIs, ClassPost, SeparatorPost}
use Rattle.scanner.specs.Scans.{scanned}
use Rattle.pattern.specs.Stores.{store_at}
use Rattle.table.specs.Write.{rec_of, put_records}
use Rattle.scanner.specs.Bodies.{Inside, after_codes, in_literal}
use Rattle.scanner.specs.Counts.{CountIs, CountPost}
use Rattle.compiler.specs.Readers.{ReadPre, BodyEnds, tail, ReadLeafPost, ReadCodesPost, ReadLiteralPost, AtomIs, ReadAtomPost, PatternIs, ReadPatternPost, GroupIs, ReadGroupPost}
use Rattle.compiler.proofs.Leaves.{state}
use Rattle.pattern.proofs.Stores.{store_at_none}
use Rattle.scanner.proofs.Places.{letter_place, class_letter}
use Rattle.compiler.proofs.Descent.{codes_enter, literal_enter, group_enter, group_deep, body_form, atom_next, depth_next, flag_count, group_closes, pattern_parts, branch_form}
use Rattle.compiler.proofs.Written.{wrote_leaf, wrote_group, wrote_last, wrote_then, wrote_only, wrote_or}

pub count_is : (s : Bytes) (i n : ℕ) (rep : Repeat) (next : Cursor) → CountPost s i n (Ok (next, rep)) → CountIs s i n rep next
unfolding CountPost
count_is s i n rep next h = h

-- three times what is left of the source: a pattern's measure is one more, a group's two
abbrev pub read_measure : Bytes → ReaderState → ℕ
read_measure s st = 3 * (length s - st.at.at)

pub quote_is : (s : Bytes) (at : ℕ) (later : Cursor) → ClassPost s at (class.Quote later) → ClassIs s at (body_start quote) later
unfolding ClassPost
quote_is s at later h = h

pub letter_before : (s : Bytes) (at b : ℕ) (later : Cursor) → LetterIs s at b later → LetterIs s (later.at - 1) b later
letter_before s at b later x = rw (letter_place s at b later x) x

-- an atom from its count and its body
module _ (s : Bytes) (st : ReaderState) (d : ℕ) (recs text : Bytes) where
  pub atom_refused : (f : Fault) (recs' text' : Bytes) → CountPost s st.at.at st.atoms (Err f) → ReadAtomPost s st d recs recs' text text' (Err f)
  unfolding CountPost ReadAtomPost
  atom_refused f recs' text' h = record { scan = λ k z. h.scan k }

  module _ (ready : ReadPre s st d) (rep : Repeat) (at : Cursor) (c : CountIs s st.at.at st.atoms rep at) where
    -- a leaf that the scan enters after the count
    atom_leaf : (from : Inside) (P : Bytes → Type 0) (i : ℕ) (recs' text' : Bytes) (a : Result ReaderState Fault) → at.at ≤ i
        → ((k : Stack) → scanned s (counting c.state, k) at.at (suc st.atoms) ≡ scanned s (from (low c.state) (high c.state) k) i (suc st.atoms))
        → ((v : Bytes) → P v → text' ≡ store_at text st.pool v) → ReadLeafPost s from P i st.atoms st.pool rep recs recs' a → ReadAtomPost s st d recs recs' text text' a
    unfolding ReadLeafPost ReadAtomPost
    atom_leaf from P i recs' text' (Err f) o y w x = record { scan = λ k z. c.scan k ∙ y k ∙ x.scan (low c.state) (high c.state) k (suc st.atoms) }
    atom_leaf from P i recs' text' (Ok u) o y w x =
        let l : ℕ = low c.state in
        let m : Option ℕ = high c.state in
        record {
          low = l;
          high = m;
          body = x.body;
          moved = record { on = omega (arith, c.onward.on, x.on); within = x.within; atoms = omega (arith, c.room, x.atoms); sparse = omega (arith, ready.sparse, c.onward.on, x.atoms, x.on); pool = x.fits };
          wrote = wrote_leaf (ends_at s u.at.at) l m x.body rep st.atoms st.pool u.atoms u.pool recs recs' text text'
              x.alone x.single c.rep_is x.atoms x.pooled x.recs_are (w (pool x.body) x.text_is);
          scan = λ k z. c.scan k ∙ y k ∙ x.scan l m k (suc st.atoms) ∙ rw (x.atoms, add-one);
          body_ends = x.body_ends;
        }

    pub atom_codes : (b : ℕ) (later : Cursor) (recs' : Bytes) (a : Result ReaderState Fault) → ClassPost s at.at (class.Letter b later) → ReadCodesPost s (later.at - 1) st.atoms st.pool rep recs recs' a → ReadAtomPost s st d recs recs' text text a
    atom_codes b later recs' a h x =
        let y = class_letter s at.at b later h in
        atom_leaf (after_codes 0) (λ v. v ≡ []) at.at recs' text a (omega arith)
        (λ k. codes_enter s at.at (suc st.atoms) k c.state c.begun y.kind.within y.kind.kind)
        (λ v z. rw z (sym (store_at_none text st.pool))) (rw (letter_place s at.at b later y) at x)

    pub atom_literal : (later : Cursor) (recs' text' : Bytes) (a : Result ReaderState Fault) → ClassPost s at.at (class.Quote later) → ReadLiteralPost s later.at st.atoms st.pool rep recs recs' text text' a → ReadAtomPost s st d recs recs' text text' a
    atom_literal later recs' text' a h x =
        let y = quote_is s at.at later h in
        atom_leaf (in_literal []) (λ v. text' ≡ store_at text st.pool v) later.at recs' text' a (omega (arith, y.past))
        (λ k. literal_enter s at.at (suc st.atoms) k c.state c.begun y.within y.kind ∙ rw y.past) (λ v z. z) x

    pub atom_other : (recs' text' : Bytes) → ClassPost s at.at class.Other → ReadAtomPost s st d recs recs' text text' (Err (record { refusal = Form; position = at.at }))
    unfolding ClassPost ReadAtomPost
    atom_other recs' text' h =
        let (u, v, w) = h in
        record { scan = λ k z. c.scan k ∙ body_form s at.at (suc st.atoms) k c.state c.begun (λ m l y. c.stops m l y) u v w }

    -- a group
    module _ (later : Cursor) (h : ClassPost s at.at (class.Opening later)) where
      pub opening_is : ClassIs s at.at (body_start opening) later
      unfolding ClassPost
      opening_is = h

      pub atom_deep : (recs' text' : Bytes) → depth_limit ≤ d → ReadAtomPost s st d recs recs' text text' (Err (record { refusal = Depth; position = at.at }))
      unfolding ReadAtomPost
      atom_deep recs' text' g = record { scan = λ k z. c.scan k ∙ group_deep s at.at (suc st.atoms) k c.state c.begun opening_is.within opening_is.kind (rw z g) }

      module _ (shallow : d < depth_limit) where
        opened : (k : Stack) → depth k ≡ d → scanned s (counting empty, k) st.at.at st.atoms ≡ scanned s (counting empty, within k (low c.state) (high c.state) [] []) later.at (st.atoms + 1)
        opened k z = c.scan k ∙ group_enter s at.at (suc st.atoms) k c.state c.begun opening_is.within opening_is.kind (rw z shallow) ∙ rw (opening_is.past, add-one)

        pub group_ready : ReadPre s (state later (st.atoms + 1) st.pool) (d + 1)
        group_ready = let o = opening_is in record { within = omega (arith, o.past, o.within); atoms = omega (arith, c.room); sparse = omega (arith, ready.sparse, c.onward.on, o.past); pool = omega (arith, ready.pool, c.onward.on, o.past); shallow = omega arith }

        pub atom_group_fault : (f : Fault) (recs' text' : Bytes)
            → ReadGroupPost s (state later (st.atoms + 1) st.pool) (d + 1) recs recs' text text' (Err f) → ReadAtomPost s st d recs recs' text text' (Err f)
        unfolding ReadGroupPost ReadAtomPost
        atom_group_fault f recs' text' v = record { scan = λ k z. opened k z ∙ v.scan k (low c.state) (high c.state) [] (omega arith) }

        pub atom_group : (u : ReaderState) (b f : ℕ) (recs₁ recs₂ text' : Bytes) → GroupIs s (state later (st.atoms + 1) st.pool) (d + 1) recs recs₁ text text' u b → f ≡ ends_at s u.at.at
            → recs₂ ≡ put_records recs₁ st.atoms (rec_of group_kind f rep b u.atoms ∷ []) → ReadAtomPost s st d recs recs₂ text text' (Ok u)
        unfolding ReadAtomPost BodyEnds fork
        atom_group u b f recs₁ recs₂ text' v g w =
            let m = v.moved in
            let o = opening_is in
            record {
              low = low c.state;
              high = high c.state;
              body = group v.tree;
              moved = record { on = omega (arith, m.on, c.onward.on, o.past); within = m.within; atoms = m.atoms; sparse = m.sparse; pool = m.pool };
              wrote = wrote_group (ends_at s u.at.at) (low c.state) (high c.state) v.tree rep b st.atoms st.pool u.atoms u.pool recs recs₁ recs₂ text text' c.rep_is v.count v.wrote (rw g at w);
              scan = λ k z. opened k z ∙ v.scan k (low c.state) (high c.state) [] (omega arith);
              body_ends = tt;
            }

pub group_is : (s : Bytes) (st : ReaderState) (d : ℕ) (recs recs' text text' : Bytes) (u : ReaderState) (b : ℕ) → ReadGroupPost s st d recs recs' text text' (Ok (u, b)) → GroupIs s st d recs recs' text text' u b
unfolding ReadGroupPost
group_is s st d recs recs' text text' u b h = h

pub atom_is : (s : Bytes) (st : ReaderState) (d : ℕ) (recs recs' text text' : Bytes) (u : ReaderState) → ReadAtomPost s st d recs recs' text text' (Ok u) → AtomIs s st d recs recs' text text' u
unfolding ReadAtomPost
atom_is s st d recs recs' text text' u h = h

pub pattern_is : (s : Bytes) (st : ReaderState) (d : ℕ) (recs recs' text text' : Bytes) (u : ReaderState) → ReadPatternPost s st d recs recs' text text' (Ok u) → PatternIs s st d recs recs' text text' u
unfolding ReadPatternPost
pattern_is s st d recs recs' text text' u h = h

-- a pattern from its first atom
module _ (s : Bytes) (st : ReaderState) (d : ℕ) (recs recs₁ text text₁ : Bytes) where
  pattern_fault : (f : Fault) → ReadAtomPost s st d recs recs₁ text text₁ (Err f) → ReadPatternPost s st d recs recs₁ text text₁ (Err f)
  unfolding ReadAtomPost ReadPatternPost
  pattern_fault f h = h

  module _ (u : ReaderState) (a : AtomIs s st d recs recs₁ text text₁ u) where
    pattern_last : ends_at s u.at.at ≡ 1 → ReadPatternPost s st d recs recs₁ text text₁ (Ok u)
    unfolding ReadPatternPost after_pattern tail
    pattern_last y =
        record {
          tree = last (repeat a.low a.high a.body);
          moved = a.moved;
          wrote = wrote_last st.atoms st.pool u.atoms u.pool recs recs₁ text text₁ (repeat a.low a.high a.body) (rw y at a.wrote);
          scan = a.scan;
          body_ends = a.body_ends;
          over = y;
        }

    pattern_more : (recs₂ text₂ : Bytes) (p : Result ReaderState Fault) → ends_at s u.at.at ≡ 0 → ReadPatternPost s u d recs₁ recs₂ text₁ text₂ p → ReadPatternPost s st d recs recs₂ text text₂ p
    unfolding ReadPatternPost after_pattern tail
    pattern_more recs₂ text₂ (Err f) e h =
        let (y, w, z) = flag_count s u.at.at e in
        record { scan = λ k o. a.scan k o ∙ atom_next s u.at.at u.atoms k a.low a.high a.body y w z ∙ h.scan (next k (repeat a.low a.high a.body)) (depth_next k (repeat a.low a.high a.body) ∙ o) }
    pattern_more recs₂ text₂ (Ok v) e h =
        let (y, w, z) = flag_count s u.at.at e in
        let b : Syntax atom = repeat a.low a.high a.body in
        let m = h.moved in
        let l = a.moved in
        record {
          tree = then b h.tree;
          moved = record { on = omega (arith, m.on, l.on); within = m.within; atoms = m.atoms; sparse = m.sparse; pool = m.pool };
          wrote = wrote_then b h.tree st.atoms st.pool u.atoms u.pool v.atoms v.pool recs recs₁ recs₂ text text₁ text₂ (rw e at a.wrote) h.wrote;
          scan = λ k o. a.scan k o ∙ atom_next s u.at.at u.atoms k a.low a.high a.body y w z ∙ h.scan (next k b) (depth_next k b ∙ o);
          body_ends = h.body_ends;
          over = h.over;
        }

-- how far a loop over atoms or branches has come
pub record Gone (s : Bytes) (d : ℕ) (st now : ReaderState) (recs recs₁ text text₁ : Bytes) : Type 0 where
  pub ready : ReadPre s now d
  pub on : st.at.at ≤ now.at.at
  pub recs_size : length recs₁ ≡ length recs
  pub text_size : length text₁ ≡ length text

gone_start : (s : Bytes) (d : ℕ) (st : ReaderState) (recs text : Bytes) → ReadPre s st d → Gone s d st st recs recs text text
gone_start s d st recs text r = record { ready = r; on = omega arith; recs_size = refl; text_size = refl }

module _ (s : Bytes) (d : ℕ) (st now : ReaderState) (recs recs₁ text text₁ recs₂ text₂ : Bytes) where
  gone_more : (u : ReaderState) → Gone s d st now recs recs₁ text text₁ → ReadPre s u d → now.at.at ≤ u.at.at → length recs₂ ≡ length recs₁ → length text₂ ≡ length text₁ → Gone s d st u recs recs₂ text text₂
  gone_more u g r o x y = record { ready = r; on = omega (arith, g.on); recs_size = x ∙ g.recs_size; text_size = y ∙ g.text_size }

-- where the loop over a pattern's atoms stands: what is read from there on is read from the start
pub record ReadPatternAt (s : Bytes) (d : ℕ) (st now : ReaderState) (recs recs₁ text text₁ : Bytes) : Type 0 where
  pub gone : Gone s d st now recs recs₁ text text₁
  pub rest : (recs₂ text₂ : Bytes) (a : Result ReaderState Fault) → ReadPatternPost s now d recs₁ recs₂ text₁ text₂ a → ReadPatternPost s st d recs recs₂ text text₂ a

pub read_pattern_start : (s : Bytes) (d : ℕ) (st : ReaderState) (recs text : Bytes) → ReadPre s st d → ReadPatternAt s d st st recs recs text text
read_pattern_start s d st recs text r = record { gone = gone_start s d st recs text r; rest = λ recs₂ text₂ a h. h }

module _ (s : Bytes) (d : ℕ) (st now : ReaderState) (recs recs₁ text text₁ : Bytes) (g : ReadPatternAt s d st now recs recs₁ text text₁) (recs₂ text₂ : Bytes) where
  pub going_fault : (f : Fault) → ReadAtomPost s now d recs₁ recs₂ text₁ text₂ (Err f) → ReadPatternPost s st d recs recs₂ text text₂ (Err f)
  going_fault f h = g.rest recs₂ text₂ (Err f) (pattern_fault s now d recs₁ recs₂ text₁ text₂ f h)

  module _ (u : ReaderState) (a : AtomIs s now d recs₁ recs₂ text₁ text₂ u) where
    pub read_pattern_last : ends_at s u.at.at ≡ 1 → ReadPatternPost s st d recs recs₂ text text₂ (Ok u)
    read_pattern_last o = g.rest recs₂ text₂ (Ok u) (pattern_last s now d recs₁ recs₂ text₁ text₂ u a o)

    pub read_pattern_more : ends_at s u.at.at ≡ 0 → length recs₂ ≡ length recs₁ → length text₂ ≡ length text₁ → ReadPatternAt s d st u recs recs₂ text text₂
    read_pattern_more z x y =
        let m = a.moved in
        record {
          gone = gone_more s d st now recs recs₁ text text₁ recs₂ text₂ u g.gone (record { within = m.within; atoms = m.atoms; sparse = m.sparse; pool = m.pool; shallow = g.gone.ready.shallow }) (omega (arith, m.on)) x y;
          rest = λ r t b h. g.rest r t b (pattern_more s now d recs₁ recs₂ text₁ text₂ u a r t b z h);
        }

-- the branches of a group from the first
module _ (s : Bytes) (st : ReaderState) (d : ℕ) (recs recs₁ text text₁ : Bytes) where
  group_fault : (f : Fault) → ReadPatternPost s st d recs recs₁ text text₁ (Err f) → ReadGroupPost s st d recs recs₁ text text₁ (Err f)
  unfolding ReadPatternPost ReadGroupPost depth
  group_fault f x = record { scan = λ k l v others z. x.scan (within k l v others []) z }

  module _ (u : ReaderState) (p : PatternIs s st d recs recs₁ text text₁ u) where
    group_other : SeparatorPost s u.at.at separator.Other → ReadGroupPost s st d recs recs₁ text text₁ (Err (record { refusal = Form; position = u.at.at }))
    unfolding SeparatorPost ReadGroupPost depth
    group_other o =
        record { scan = λ k l v others z. p.scan (within k l v others []) z ∙ branch_form s u.at.at u.atoms p.tree k l v others p.body_ends p.over o }

    group_close : (later : Cursor) → SeparatorPost s u.at.at (separator.Closing later) → ReadGroupPost s st d recs recs₁ text text₁ (Ok (state later u.atoms u.pool, 1))
    unfolding SeparatorPost ReadGroupPost depth branch_count
    group_close later o =
        let m = p.moved in
        record {
          tree = only p.tree;
          moved = record { on = omega (arith, m.on, o.past); within = omega (arith, o.past, o.within); atoms = m.atoms; sparse = omega (arith, m.sparse, o.past); pool = omega (arith, m.pool, o.past) };
          wrote = wrote_only st.atoms st.pool u.atoms u.pool recs recs₁ text text₁ p.tree p.wrote;
          count = refl;
          scan = λ k l v others z. p.scan (within k l v others []) z ∙ group_closes s u.at.at u.atoms p.tree k l v others o.within o.value ∙ rw o.past;
        }

    module _ (later : Cursor) (h : SeparatorPost s u.at.at (separator.Comma later)) where
      comma_is : ByteIs s u.at.at comma_byte later
      unfolding SeparatorPost
      comma_is = h

      parted : (k : Stack) (l : ℕ) (v : Option ℕ) (others : List (Syntax pattern)) → suc (depth k) ≡ d
          → scanned s (counting empty, within k l v others []) st.at.at st.atoms ≡ scanned s (counting empty, within k l v (p.tree ∷ others) []) later.at u.atoms
      unfolding depth
      parted k l v others z = let o = comma_is in p.scan (within k l v others []) z ∙ pattern_parts s u.at.at u.atoms p.tree k l v others o.within o.value ∙ rw o.past

      group_comma_fault : (recs₂ text₂ : Bytes) (f : Fault)
          → ReadGroupPost s (state later u.atoms u.pool) d recs₁ recs₂ text₁ text₂ (Err f) → ReadGroupPost s st d recs recs₂ text text₂ (Err f)
      unfolding ReadGroupPost
      group_comma_fault recs₂ text₂ f v = record { scan = λ k l w others z. parted k l w others z ∙ v.scan k l w (p.tree ∷ others) z }

      group_comma : (recs₂ text₂ : Bytes) (w : ReaderState) (b : ℕ) → GroupIs s (state later u.atoms u.pool) d recs₁ recs₂ text₁ text₂ w b → ReadGroupPost s st d recs recs₂ text text₂ (Ok (w, (b + 1)))
      unfolding ReadGroupPost branch_count fork
      group_comma recs₂ text₂ w b x =
          let o = comma_is in
          let m = p.moved in
          let n = x.moved in
          record {
            tree = or p.tree x.tree;
            moved = record { on = omega (arith, m.on, n.on, o.past); within = n.within; atoms = n.atoms; sparse = n.sparse; pool = n.pool };
            wrote = wrote_or p.tree x.tree st.atoms st.pool u.atoms u.pool w.atoms w.pool recs recs₁ recs₂ text text₁ text₂ p.wrote x.wrote;
            count = omega (arith, x.count);
            scan = λ k l v others z. parted k l v others z ∙ x.scan k l v (p.tree ∷ others) z;
          }

-- k branches before others
abbrev later : ℕ → Result (ReaderState × ℕ) Fault → Result (ReaderState × ℕ) Fault
later k (Ok (u, b)) = Ok (u, k + b)
later k (Err f) = Err f

-- where the loop over a group's branches stands, after k of them
pub record ReadGroupAt (s : Bytes) (d : ℕ) (st now : ReaderState) (recs recs₁ text text₁ : Bytes) (k : ℕ) : Type 0 where
  pub gone : Gone s d st now recs recs₁ text text₁
  pub few : k ≤ now.atoms
  pub rest : (recs₂ text₂ : Bytes) (g : Result (ReaderState × ℕ) Fault) → ReadGroupPost s now d recs₁ recs₂ text₁ text₂ g → ReadGroupPost s st d recs recs₂ text text₂ (later k g)

pub read_group_start : (s : Bytes) (d : ℕ) (st : ReaderState) (recs text : Bytes) → ReadPre s st d → ReadGroupAt s d st st recs recs text text 0
read_group_start s d st recs text r = record {
  gone = gone_start s d st recs text r;
  few = omega arith;
  rest = λ recs₂ text₂ g h. same recs₂ text₂ g h;
}
  where
    same : (recs₂ text₂ : Bytes) (g : Result (ReaderState × ℕ) Fault) → ReadGroupPost s st d recs recs₂ text text₂ g → ReadGroupPost s st d recs recs₂ text text₂ (later 0 g)
    same recs₂ text₂ (Ok (u, b)) h = let e : 0 + b ≡ b = omega arith in rw e h
    same recs₂ text₂ (Err f) h = h

module _ (s : Bytes) (d : ℕ) (st now : ReaderState) (recs recs₁ text text₁ : Bytes) (k : ℕ) (g : ReadGroupAt s d st now recs recs₁ text text₁ k) (recs₂ text₂ : Bytes) where
  pub branching_fault : (f : Fault) → ReadPatternPost s now d recs₁ recs₂ text₁ text₂ (Err f) → ReadGroupPost s st d recs recs₂ text text₂ (Err f)
  branching_fault f h = g.rest recs₂ text₂ (Err f) (group_fault s now d recs₁ recs₂ text₁ text₂ f h)

  module _ (u : ReaderState) (p : PatternIs s now d recs₁ recs₂ text₁ text₂ u) where
    pub branching_other : SeparatorPost s u.at.at separator.Other → ReadGroupPost s st d recs recs₂ text text₂ (Err (record { refusal = Form; position = u.at.at }))
    branching_other h = g.rest recs₂ text₂ _ (group_other s now d recs₁ recs₂ text₁ text₂ u p h)

    pub branching_close : (past : Cursor) → SeparatorPost s u.at.at (separator.Closing past) → ReadGroupPost s st d recs recs₂ text text₂ (Ok (state past u.atoms u.pool, k + 1))
    branching_close past h = g.rest recs₂ text₂ (Ok (state past u.atoms u.pool, 1)) (group_close s now d recs₁ recs₂ text₁ text₂ u p past h)

    module _ (past : Cursor) (h : SeparatorPost s u.at.at (separator.Comma past)) where
      pub past_comma : ByteIs s u.at.at comma_byte past
      past_comma = comma_is s now d recs₁ recs₂ text₁ text₂ u p past h

      on_with : (r' t' : Bytes) (b : Result (ReaderState × ℕ) Fault) → ReadGroupPost s (state past u.atoms u.pool) d recs₂ r' text₂ t' b → ReadGroupPost s st d recs r' text t' (later (k + 1) b)
      on_with r' t' (Ok (w, b)) x =
          let z : k + 1 + b ≡ k + (b + 1) = omega arith in
          rw z (g.rest r' t' (Ok (w, b + 1)) (group_comma s now d recs₁ recs₂ text₁ text₂ u p past h r' t' w b (group_is s (state past u.atoms u.pool) d recs₂ r' text₂ t' w b x)))
      on_with r' t' (Err f) x = g.rest r' t' (Err f) (group_comma_fault s now d recs₁ recs₂ text₁ text₂ u p past h r' t' f x)

      pub read_group_more : length recs₂ ≡ length recs₁ → length text₂ ≡ length text₁ → ReadGroupAt s d st (state past u.atoms u.pool) recs recs₂ text text₂ (k + 1)
      read_group_more x y =
          let m = p.moved in
          let w = p.wrote in
          let o = past_comma in
          record {
            gone = gone_more s d st now recs recs₁ text text₁ recs₂ text₂ (state past u.atoms u.pool) g.gone (record { within = omega (arith, o.past, o.within); atoms = m.atoms; sparse = omega (arith, m.sparse, o.past); pool = omega (arith, m.pool, o.past); shallow = g.gone.ready.shallow }) (omega (arith, m.on, o.past)) x y;
            few = omega (arith, g.few, w.atoms, some_pattern p.tree);
            rest = on_with;
          }

-- each branch has an atom
branch_count_few : (bs : Syntax branches) → branch_count bs ≤ size bs
unfolding branch_count size
branch_count_few (only p) = some_pattern p
branch_count_few (or p bs) = omega (arith, some_pattern p, branch_count_few bs)

pub count_few : (s : Bytes) (st : ReaderState) (d : ℕ) (recs recs' text text' : Bytes) (u : ReaderState) (b : ℕ) → GroupIs s st d recs recs' text text' u b → b ≤ atom_limit
count_few s st d recs recs' text text' u b g = let m = g.moved in let w = g.wrote in omega (arith, g.count, branch_count_few g.tree, m.atoms, w.atoms)
