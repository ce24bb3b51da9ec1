-- Atoms of codes and literals, from their bodies and their records. Assumes nothing.
use mathlib.Core.Path.{◌≡◌, refl}
use mathlib.Core.List.{[], ◌∷◌}
use Prim.Native.Nat.{ℕ, ◌+◌, ◌-◌, ◌≤◌}
use native.Mathlib.Omega.{arith}
use lib.ListN.{length}
use Rattle.std.specs.Prelude.{Ok, Err}
use Rattle.pattern.specs.Numbers.{codes_kind, literal_kind}
use Rattle.pattern.specs.Bytes.{Bytes}
use Rattle.pattern.specs.Syntax.{codes, literal, size}
use Rattle.pattern.specs.Table.{pool, kind_field, a_field, b_field, records}
use Rattle.pattern.specs.declared.repeat.Repeat.{Repeat}
use Rattle.pattern.specs.declared.refusal.Fault.{Fault}
use Rattle.scanner.specs.declared.cursor.Cursor.{Cursor}
use Rattle.compiler.specs.declared.reader.ReaderState.{ReaderState}
use Rattle.scanner.specs.Places.{ends_at}
use Rattle.table.specs.Write.{rec_of, put_records}
use Rattle.scanner.specs.Bodies.{CodesFromPost, LiteralIs, QuotedPost}
use Rattle.compiler.specs.Readers.{BodyEnds, ReadLeafPost, ReadCodesPost, ReadLiteralPost}

abbrev pub state : Cursor → ℕ → ℕ → ReaderState
state at n p = record { at = at; atoms = n; pool = p }

module _ (s : Bytes) (i n p : ℕ) (rep : Repeat) (recs recs' : Bytes) where
  pub codes_done : (set f : ℕ) (next : Cursor) → CodesFromPost s i (Ok (set, next)) → f ≡ ends_at s next.at
      → recs' ≡ put_records recs n (rec_of codes_kind f rep set 0 ∷ []) → p ≤ i → ReadCodesPost s i n p rep recs recs' (Ok (state next (n + 1) p))
  unfolding CodesFromPost ReadLeafPost records size pool kind_field a_field b_field BodyEnds
  codes_done set f next read g w h =
      let (a, b, c, d, o) = read in
      record {
        body = codes set;
        alone = λ x y z. refl;
        single = refl;
        on = b;
        within = c;
        fits = omega arith;
        atoms = refl;
        pooled = omega arith;
        recs_are = rw g at w;
        text_is = refl;
        scan = d.scan;
        body_ends = o;
      }

  pub codes_fault : (f : Fault) → CodesFromPost s i (Err f) → ReadCodesPost s i n p rep recs recs' (Err f)
  unfolding CodesFromPost ReadLeafPost
  codes_fault f read = rw read.0 read.1

  module _ (text text' : Bytes) where
    pub literal_is : (next : Cursor) (end : ℕ) → QuotedPost s i p text text' (Ok (next, end)) → LiteralIs s i p text text' next end
    unfolding QuotedPost
    literal_is next end read = read

    pub literal_done : (f : ℕ) (next : Cursor) (end : ℕ) → QuotedPost s i p text text' (Ok (next, end)) → f ≡ ends_at s next.at
        → recs' ≡ put_records recs n (rec_of literal_kind f rep p (end - p) ∷ []) → ReadLiteralPost s i n p rep recs recs' text text' (Ok (state next (n + 1) end))
    unfolding ReadLeafPost records size pool kind_field a_field b_field BodyEnds
    literal_done f next end read g w =
        let v = literal_is next end read in
        let z : end - p ≡ length v.value = omega (arith, v.end_is) in
        record {
          body = literal v.value;
          alone = λ x y z. refl;
          single = refl;
          on = omega (arith, v.onward.on);
          within = v.onward.within;
          fits = v.fits;
          atoms = refl;
          pooled = v.end_is;
          recs_are = rw (g, z) at w;
          text_is = v.wrote;
          scan = v.scan.scan;
          body_ends = v.rests;
        }

    pub literal_fault : (f : Fault) → QuotedPost s i p text text' (Err f) → ReadLiteralPost s i n p rep recs recs' text text' (Err f)
    unfolding QuotedPost ReadLeafPost
    literal_fault f read = rw read.0 read.1
