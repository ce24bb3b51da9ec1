-- What the readers of atoms, patterns and groups promise: two scans are equal, and the buffers hold the records and the text of the tree between. Private: a model for contracts inside the library.
use Rattle.std.specs.Prelude.{◌≡◌, List, [], ◌∷◌, ℕ, suc, ◌+◌, ◌*◌, ◌<◌, ◌≤◌, length, Result, Ok, Err}
use Rattle.std.proofs.Math.Option.{Option}
use Rattle.pattern.specs.Numbers.{source_limit, atom_limit, depth_limit, record_size}
use Rattle.pattern.specs.Bytes.{Bytes}
use Rattle.pattern.specs.Syntax.{Sort, pattern, body, branches, Syntax, last, then, repeat, codes, literal, group, size}
use Rattle.pattern.specs.Grammar.{letter, quote, body_start}
use Rattle.pattern.specs.Parser.{counting, empty, after, Stack, within, fork}
use Rattle.pattern.specs.Scan.{depth, refused}
use Rattle.pattern.specs.Table.{pool, branch_count, kind_field, a_field, b_field, records}
use Rattle.pattern.specs.Refusals.{number_of}
use Rattle.pattern.specs.declared.repeat.Repeat.{Repeat}
use Rattle.pattern.specs.declared.refusal.Fault.{Fault}
use Rattle.pattern.proofs.ParserComplete.{after_pattern}
use Rattle.compiler.specs.declared.reader.ReaderState.{ReaderState}
use Rattle.scanner.specs.Places.{ends_at, ClassNot}
use Rattle.scanner.specs.Scans.{scanned}
use Rattle.pattern.specs.Stores.{store_at}
use Rattle.table.specs.Write.{rec_of, put_records}
use Rattle.scanner.specs.Bodies.{Inside, after_codes, in_literal, Refuses}

-- where a reader may start, in d groups; no more atoms than bytes are passed (sparse)
pub record ReadPre (s : Bytes) (st : ReaderState) (d : ℕ) : Type 0 where
  pub within : st.at.at ≤ length s
  pub atoms : st.atoms ≤ atom_limit
  pub sparse : st.atoms ≤ st.at.at
  pub pool : st.pool ≤ st.at.at
  pub shallow : d ≤ depth_limit

-- room in so many bytes for the record of each atom that the source can have, and in so many for the text of the whole source
pub record SizesFit (s : Bytes) (recs text : ℕ) : Type 0 where
  pub source : length s ≤ source_limit
  pub recs_fit : (n : ℕ) → n < atom_limit → n < length s → record_size * n + record_size ≤ recs
  pub text_fits : length s ≤ text

abbrev pub BuffersFit : (s recs text : Bytes) → Type 0
BuffersFit s recs text = SizesFit s (length recs) (length text)

-- how a reader has moved
pub record Moved (s : Bytes) (st u : ReaderState) : Type 0 where
  pub on : st.at.at < u.at.at
  pub within : u.at.at ≤ length s
  pub atoms : u.atoms ≤ atom_limit
  pub sparse : u.atoms ≤ u.at.at
  pub pool : u.pool ≤ u.at.at

-- what it has written: the records and the text of a tree
pub record Wrote {o : Sort} (e : ℕ) (t : Syntax o) (n p m q : ℕ) (recs recs' text text' : Bytes) : Type 0 where
  pub atoms : m ≡ n + size t
  pub pooled : q ≡ p + length (pool t)
  pub recs_are : recs' ≡ put_records recs n (records e t n p)
  pub text_is : text' ≡ store_at text p (pool t)

-- a body does not go on at a place
unfoldable pub BodyEnds : Bytes → ℕ → Syntax body → Type 0
BodyEnds s j (codes set) = ClassNot s j (body_start letter)
BodyEnds s j (literal value) = ClassNot s j (body_start quote)
BodyEnds s j (group bs) = Unit {0}

-- the last body of a pattern
unfoldable pub tail : Syntax pattern → Syntax body
tail (last (repeat l h b)) = b
tail (then a t) = tail t

-- codes or a literal from place i on, as the body of atom n; P is what holds of its text
pub record LeafIs (s : Bytes) (from : Inside) (P : Bytes → Type 0) (i n p : ℕ) (rep : Repeat) (recs recs' : Bytes) (u : ReaderState) : Type 0 where
  pub body : Syntax body
  pub alone : (e j q : ℕ) → records e body j q ≡ []
  pub single : size body ≡ 0
  pub on : i ≤ u.at.at
  pub within : u.at.at ≤ length s
  pub fits : u.pool ≤ u.at.at
  pub atoms : u.atoms ≡ n + 1
  pub pooled : u.pool ≡ p + length (pool body)
  pub recs_are : recs' ≡ put_records recs n (rec_of (kind_field body) (ends_at s u.at.at) rep (a_field body p) (b_field body n) ∷ [])
  pub text_is : P (pool body)
  pub scan : (l : ℕ) (h : Option ℕ) (k : Stack) (m : ℕ) → scanned s (from l h k) i m ≡ scanned s (after l h body, k) u.at.at m
  pub body_ends : BodyEnds s u.at.at body

unfoldable pub ReadLeafPost : Bytes → Inside → (Bytes → Type 0) → (i n p : ℕ) → Repeat → (recs recs' : Bytes) → Result ReaderState Fault → Type 0
ReadLeafPost s from P i n p rep recs recs' (Ok u) = LeafIs s from P i n p rep recs recs' u
ReadLeafPost s from P i n p rep recs recs' (Err f) = Refuses s from i (number_of f.refusal) f.position

-- where a leaf may start
pub record ReadLeafPre (s : Bytes) (i n p : ℕ) (recs : Bytes) : Type 0 where
  pub within : i ≤ length s
  pub atoms : n < atom_limit
  pub pool : p ≤ i
  pub source : length s ≤ source_limit
  pub room : record_size * n + record_size ≤ length recs

abbrev pub ReadCodesPost : Bytes → (i n p : ℕ) → Repeat → (recs recs' : Bytes) → Result ReaderState Fault → Type 0
ReadCodesPost s i n p rep recs recs' r = ReadLeafPost s (after_codes 0) (λ v. v ≡ []) i n p rep recs recs' r

abbrev pub ReadLiteralPost : Bytes → (i n p : ℕ) → Repeat → (recs recs' text text' : Bytes) → Result ReaderState Fault → Type 0
ReadLiteralPost s i n p rep recs recs' text text' r = ReadLeafPost s (in_literal []) (λ v. text' ≡ store_at text p v) i n p rep recs recs' r

-- an atom or a pattern in d groups is refused
pub record Refused (s : Bytes) (i n d f q : ℕ) : Type 0 where
  pub scan : (k : Stack) → depth k ≡ d → scanned s (counting empty, k) i n ≡ refused f q

pub record AtomIs (s : Bytes) (st : ReaderState) (d : ℕ) (recs recs' text text' : Bytes) (u : ReaderState) : Type 0 where
  pub low : ℕ
  pub high : Option ℕ
  pub body : Syntax body
  pub moved : Moved s st u
  pub wrote : Wrote (ends_at s u.at.at) (repeat low high body) st.atoms st.pool u.atoms u.pool recs recs' text text'
  pub scan : (k : Stack) → depth k ≡ d → scanned s (counting empty, k) st.at.at st.atoms ≡ scanned s (after low high body, k) u.at.at u.atoms
  pub body_ends : BodyEnds s u.at.at body

unfoldable pub ReadAtomPost : Bytes → ReaderState → ℕ → (recs recs' text text' : Bytes) → Result ReaderState Fault → Type 0
ReadAtomPost s st d recs recs' text text' (Ok u) = AtomIs s st d recs recs' text text' u
ReadAtomPost s st d recs recs' text text' (Err f) = Refused s st.at.at st.atoms d (number_of f.refusal) f.position

pub record PatternIs (s : Bytes) (st : ReaderState) (d : ℕ) (recs recs' text text' : Bytes) (u : ReaderState) : Type 0 where
  pub tree : Syntax pattern
  pub moved : Moved s st u
  pub wrote : Wrote 1 tree st.atoms st.pool u.atoms u.pool recs recs' text text'
  pub scan : (k : Stack) → depth k ≡ d → scanned s (counting empty, k) st.at.at st.atoms ≡ scanned s (after_pattern k tree) u.at.at u.atoms
  pub body_ends : BodyEnds s u.at.at (tail tree)
  pub over : ends_at s u.at.at ≡ 1

unfoldable pub ReadPatternPost : Bytes → ReaderState → ℕ → (recs recs' text text' : Bytes) → Result ReaderState Fault → Type 0
ReadPatternPost s st d recs recs' text text' (Ok u) = PatternIs s st d recs recs' text text' u
ReadPatternPost s st d recs recs' text text' (Err f) = Refused s st.at.at st.atoms d (number_of f.refusal) f.position

-- the branches of a group, itself in d - 1 groups, with the closing parenthesis
pub record GroupIs (s : Bytes) (st : ReaderState) (d : ℕ) (recs recs' text text' : Bytes) (u : ReaderState) (c : ℕ) : Type 0 where
  pub tree : Syntax branches
  pub moved : Moved s st u
  pub wrote : Wrote 1 tree st.atoms st.pool u.atoms u.pool recs recs' text text'
  pub count : c ≡ branch_count tree
  pub scan : (k : Stack) (l : ℕ) (h : Option ℕ) (others : List (Syntax pattern)) → suc (depth k) ≡ d
      → scanned s (counting empty, within k l h others []) st.at.at st.atoms ≡ scanned s (after l h (group (fork others tree)), k) u.at.at u.atoms

pub record GroupRefused (s : Bytes) (i n d f q : ℕ) : Type 0 where
  pub scan : (k : Stack) (l : ℕ) (h : Option ℕ) (others : List (Syntax pattern)) → suc (depth k) ≡ d
      → scanned s (counting empty, within k l h others []) i n ≡ refused f q

unfoldable pub ReadGroupPost : Bytes → ReaderState → ℕ → (recs recs' text text' : Bytes) → Result (ReaderState × ℕ) Fault → Type 0
ReadGroupPost s st d recs recs' text text' (Ok (u, c)) = GroupIs s st d recs recs' text text' u c
ReadGroupPost s st d recs recs' text text' (Err f) = GroupRefused s st.at.at st.atoms d (number_of f.refusal) f.position
