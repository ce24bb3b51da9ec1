-- The steps of the walk that writes, and where its loops stand. Assumes nothing.
use mathlib.Core.Path.{◌≡◌, refl, sym, ap, ◌∙◌}
use mathlib.Core.List.{[], ◌∷◌, ◌++◌, append_assoc, append-nil}
use Prim.Native.Nat.{ℕ, zero, suc, ◌+◌, ◌-◌, ◌<◌, ◌≤◌}
use native.Mathlib.Omega.{arith}
use lib.ListN.{length, set, take, drop, length-append}
use Rattle.pattern.specs.Numbers.{quote_byte, opening_byte, closing_byte, comma_byte, codes_kind, group_kind, literal_kind}
use Rattle.pattern.specs.Bytes.{Bytes}
use Rattle.pattern.specs.Codes.{all_codes}
use Rattle.pattern.specs.Syntax.{pattern, atom, body, branches, Syntax, last, then, repeat, codes, literal, group, only, or, size}
use Rattle.pattern.specs.Within.{Fits}
use Rattle.pattern.specs.Print.{print_count, print_set, double, print}
use Rattle.pattern.specs.Decode.{high_of}
use Rattle.pattern.specs.Stores.{Puts}
use Rattle.pattern.proofs.RoundTrip.{some_atom, some_pattern}
use Rattle.pattern.proofs.Stores.{puts_then, puts_room, puts_as}
use Rattle.pattern.proofs.Stretch.{slice_take}
use Rattle.table.specs.declared.record.Record.{Record}
use Rattle.atoms.specs.Atoms.{atoms, node, branches_from, head, body_of}
use Rattle.atoms.specs.Records.{LiteralAt, GroupIn, RecordOf}
use Rattle.atoms.proofs.Views.{branch_last, branch_then, branches_last, branches_more, branches_some}
use Rattle.printer.specs.Walk.{WritePatternPre, WriteAtomPre, WriteGroupPre, WritePost}
use Rattle.printer.specs.declared.walk.Progress.{Progress}
use Rattle.printer.proofs.Storing.{Partly, partly_start, partly_as, partly_then, partly_end, partly_room}

-- ---- what is printed

-- the count that a record says
abbrev count_of : Record → Bytes
count_of r = print_count r.low (high_of r.high)

print_first : (p : Syntax pattern) → (v : Bytes) × (print p ≡ print (head p) ++ v)
unfolding print head
print_first (last a) = ([], sym (append-nil (print a)))
print_first (then a p) = (print p, refl)

print_last : {p : Syntax pattern} (a : Syntax atom) → p ≡ last a → print p ≡ print a ++ []
unfolding print
print_last a e = ap (λ (y : Syntax pattern). print y) e ∙ sym (append-nil (print a))

print_then : {p : Syntax pattern} (a : Syntax atom) (q : Syntax pattern) → p ≡ then a q → print p ≡ print a ++ print q
unfolding print
print_then a q e = ap (λ (y : Syntax pattern). print y) e

print_only : {bs : Syntax branches} (p : Syntax pattern) → bs ≡ only p → (print bs ≡ print p ++ []) × (size bs ≡ size p)
unfolding print size
print_only p e = (ap (λ (y : Syntax branches). print y) e ∙ sym (append-nil (print p)), ap (λ (y : Syntax branches). size y) e)

print_or : {cs : Syntax branches} (p : Syntax pattern) (bs : Syntax branches) → cs ≡ or p bs → (print cs ≡ (print p ++ comma_byte ∷ []) ++ print bs) × (size cs ≡ size p + size bs)
unfolding print size
print_or p bs e = (ap (λ (y : Syntax branches). print y) e ∙ sym (append_assoc (print p) (comma_byte ∷ []) (print bs)), ap (λ (y : Syntax branches). size y) e)

print_atom : {a : Syntax atom} (r : Record) (b : Syntax body) → a ≡ repeat r.low (high_of r.high) b → print a ≡ count_of r ++ print b
unfolding print
print_atom r b e = ap (λ (y : Syntax atom). print y) e

print_codes : {b : Syntax body} (set : ℕ) → b ≡ codes set → print b ≡ print_set all_codes set
unfolding print
print_codes set e = ap (λ (y : Syntax body). print y) e

print_literal : {b : Syntax body} (v : Bytes) → b ≡ literal v → print b ≡ quote_byte ∷ double v ++ quote_byte ∷ []
unfolding print
print_literal v e = ap (λ (y : Syntax body). print y) e

print_group : {b : Syntax body} (bs : Syntax branches) → b ≡ group bs → print b ≡ ((opening_byte ∷ []) ++ print bs) ++ closing_byte ∷ []
unfolding print
print_group bs e = ap (λ (y : Syntax body). print y) e

-- ---- the atoms of a pattern

pub record PatternAt (table out₀ : Bytes) (start : Progress) (out : Bytes) (now : Progress) : Type 0 where
  pub there : now.atom < atoms table
  pub on : start.atom ≤ now.atom
  pub ends : now.atom + size (node table now.atom) ≡ start.atom + size (node table start.atom)
  pub text : Partly out₀ start.at (print (node table start.atom)) out now.at (print (node table now.atom))

pub pattern_start : {table out : Bytes} (start : Progress) → WritePatternPre table out start → PatternAt table out start out start
pattern_start start p = record { there = p.atom.there; on = omega arith; ends = refl; text = partly_start _ _ _ }

module _ {table out₀ : Bytes} {start : Progress} {out : Bytes} {now : Progress} (pre : WritePatternPre table out₀ start) (h : PatternAt table out₀ start out now) where
  pub pattern_atom : {r : Record} → RecordOf table now.atom r → WriteAtomPre table out r now
  pattern_atom got =
      let (v, e) = print_first (node table now.atom) in
      record {
        atom = record { good = pre.atom.good; there = h.there };
        got = got;
        room = omega (arith, partly_room h.text pre.room, ap length e, length-append (print (head (node table now.atom))) v);
      }

  module _ {x : Progress} {out' : Bytes} (w : WritePost (print (head (node table now.atom))) (now.atom + size (head (node table now.atom))) out now.at x out') {r : Record} (got : RecordOf table now.atom r) where
    pub pattern_end : r.ends ≡ 1 → WritePost (print (node table start.atom)) (start.atom + size (node table start.atom)) out₀ start.at x out'
    pattern_end e = record {
      puts = partly_end (partly_then _ [] (partly_as (print_last _ (got.is_last e)) h.text) w.puts);
      next = omega (arith, w.next, branch_last got e, h.ends);
    }

    module _ (n : r.ends ≡ 1 → ⊥) where
      pub pattern_less : atoms table - x.atom < atoms table - now.atom
      pattern_less = omega (arith, w.next, (got.is_followed n).there, some_atom (head (node table now.atom)))

      pub pattern_next : PatternAt table out₀ start out' x
      pattern_next = rw w.next record {
        there = (got.is_followed n).there;
        on = omega (arith, h.on);
        ends = omega (arith, branch_then got n, h.ends);
        text = partly_then _ _ (partly_as (print_then _ _ (got.is_followed n).is) h.text) w.puts;
      }

-- ---- the branches of a group, of which more are left

pub record GroupAt (table out₀ : Bytes) (start : Progress) (all : ℕ) (out : Bytes) (now : Progress) (more : ℕ) : Type 0 where
  pub on : start.atom ≤ now.atom
  pub ends : now.atom + size (branches_from table more now.atom) ≡ start.atom + size (branches_from table all start.atom)
  pub text : Partly out₀ start.at (print (branches_from table all start.atom)) out now.at (print (branches_from table more now.atom))

pub group_start : {table out : Bytes} (start : Progress) (all : ℕ) → GroupAt table out start all out start all
group_start start all = record { on = omega arith; ends = refl; text = partly_start _ _ _ }

print_branch : (table : Bytes) (more x : ℕ) → (v : Bytes) × (print (branches_from table more x) ≡ print (node table x) ++ v)
unfolding branches_from print
print_branch table zero x = ([], sym (append-nil (print (node table x))))
print_branch table (suc more) x = (comma_byte ∷ print (branches_from table more (x + size (node table x))), refl)

module _ {table out₀ : Bytes} {start : Progress} {k : ℕ} {out : Bytes} {now : Progress} {more : ℕ} (pre : WriteGroupPre table out₀ start k) (h : GroupAt table out₀ start (k - 1) out now more) where
  pub group_pattern : WritePatternPre table out now
  group_pattern =
      let (v, e) = print_branch table more now.atom in
      record {
        atom = record { good = pre.good; there = omega (arith, h.ends, pre.within, branches_some table more now.atom, some_pattern (node table now.atom)) };
        room = omega (arith, partly_room h.text pre.room, ap length e, length-append (print (node table now.atom)) v);
      }

  module _ {x : Progress} {out' : Bytes} (w : WritePost (print (node table now.atom)) (now.atom + size (node table now.atom)) out now.at x out') where
    pub group_end : more ≡ 0 → WritePost (print (branches_from table (k - 1) start.atom)) (start.atom + size (branches_from table (k - 1) start.atom)) out₀ start.at x out'
    group_end z =
        let (e, s) = print_only _ (branches_last table more now.atom z) in
        record { puts = partly_end (partly_then _ [] (partly_as e h.text) w.puts); next = omega (arith, w.next, s, h.ends) }

    module _ (n : more ≡ 0 → ⊥) where
      pub comma_room : x.at + 1 ≤ length out'
      comma_room =
          let (e, s) = print_or _ _ (branches_more table more now.atom n) in
          puts_room w.puts (comma_byte ∷ []) (omega (arith, partly_room h.text pre.room, ap length e, length-append (print (node table now.atom) ++ comma_byte ∷ []) (print (branches_from table (more - 1) (now.atom + size (node table now.atom))))))

      pub group_next : {out'' : Bytes} {at less : ℕ} → Puts out' x.at (comma_byte ∷ []) out'' at → less ≡ more - 1 → GroupAt table out₀ start (k - 1) out'' (record { atom = x.atom; at = at }) less
      group_next p l =
          let (e, s) = print_or _ _ (branches_more table more now.atom n) in
          rw (w.next, l) record {
            on = omega (arith, h.on);
            ends = omega (arith, s, h.ends);
            text = partly_then _ _ (partly_as e h.text) (puts_then w.puts p);
          }

-- ---- an atom

pub count_room : {table out : Bytes} {from : Progress} {r : Record} → WriteAtomPre table out r from → Fits r.low (high_of r.high) × (from.at + length (count_of r) ≤ length out)
count_room {table} {out} {from} {r} p = (p.got.fits, omega (arith, p.room, ap length (print_atom r _ p.got.count), length-append (count_of r) (print (body_of (head (node table from.atom))))))

-- the count of an atom was written
module _ {table out : Bytes} {from : Progress} {r : Record} {out₁ : Bytes} {m : ℕ} (pre : WriteAtomPre table out r from) (count : Puts out from.at (count_of r) out₁ m) where
  abbrev x : ℕ
  x = from.atom

  abbrev n : ℕ
  n = from.at

  abbrev b : Syntax body
  b = body_of (head (node table x))

  -- the body has room, and with it the atom is written
  body_room : (v : Bytes) → print b ≡ v → m + length v ≤ length out₁
  body_room v e = puts_room count v (omega (arith, pre.room, ap length (print_atom r b pre.got.count ∙ ap (λ (y : Bytes). count_of r ++ y) e)))

  body_puts : {v out₂ : Bytes} {z : ℕ} → print b ≡ v → Puts out₁ m v out₂ z → Puts out n (print (head (node table x))) out₂ z
  body_puts e p = puts_as (puts_then count p) (sym (print_atom r b pre.got.count ∙ ap (λ (y : Bytes). count_of r ++ y) e))

  leaf_post : {v out₂ : Bytes} {z : ℕ} → (r.kind ≡ group_kind → ⊥) → print b ≡ v → Puts out₁ m v out₂ z
      → WritePost (print (head (node table x))) (x + size (head (node table x))) out n (record { atom = x + 1; at = z }) out₂
  leaf_post k e p = record { puts = body_puts e p; next = omega (arith, pre.got.next_leaf k) }

  -- codes
  module _ (k : r.kind ≡ codes_kind) where
    pub letters_room : m + length (print_set all_codes r.a) ≤ length out₁
    letters_room = body_room _ (print_codes _ (pre.got.is_codes k))

    pub letters_post : {out₂ : Bytes} {z : ℕ} → Puts out₁ m (print_set all_codes r.a) out₂ z
        → WritePost (print (head (node table x))) (x + size (head (node table x))) out n (record { atom = x + 1; at = z }) out₂
    letters_post = leaf_post (λ e. omega arith) (print_codes _ (pre.got.is_codes k))

  -- a literal, as the code cuts it out of the table
  module _ (k : r.kind ≡ literal_kind) {start len : ℕ} (v : LiteralAt table x start len) where
    abbrev value : Bytes
    value = take (start + len - start) (drop start table)

    value_is : print b ≡ quote_byte ∷ double value ++ quote_byte ∷ []
    value_is = print_literal value (v.is ∙ ap literal (slice_take table start (start + len)))

    pub literal_room : m + length (quote_byte ∷ double value ++ quote_byte ∷ []) ≤ length out₁
    literal_room = body_room _ value_is

    pub literal_post : {out₂ : Bytes} {z : ℕ} → Puts out₁ m (quote_byte ∷ double value ++ quote_byte ∷ []) out₂ z
        → WritePost (print (head (node table x))) (x + size (head (node table x))) out n (record { atom = x + 1; at = z }) out₂
    literal_post = leaf_post (λ e. omega arith) value_is

  -- a group
  module _ (h : GroupIn table x r.a) where
    abbrev bs : Syntax branches
    bs = branches_from table (r.a - 1) (x + 1)

    whole_room : m + length (((opening_byte ∷ []) ++ print bs) ++ closing_byte ∷ []) ≤ length out₁
    whole_room = body_room _ (print_group bs h.is)

    pub open_room : m + 1 ≤ length out₁
    open_room = omega (arith, whole_room, length-append (opening_byte ∷ print bs) (closing_byte ∷ []))

    module _ {out₂ : Bytes} {at : ℕ} (opened : Puts out₁ m (opening_byte ∷ []) out₂ at) where
      pub inner_pre : WriteGroupPre table out₂ (record { atom = x + 1; at = at }) r.a
      inner_pre = record {
        good = pre.atom.good;
        some = h.some;
        within = h.within;
        room = puts_room opened (print bs) (omega (arith, whole_room, length-append (opening_byte ∷ print bs) (closing_byte ∷ [])));
      }

      module _ {y : Progress} {out₃ : Bytes} (w : WritePost (print bs) (x + 1 + size bs) out₂ at y out₃) where
        inner : Puts out₁ m ((opening_byte ∷ []) ++ print bs) out₃ y.at
        inner = puts_then opened w.puts

        pub close_room : y.at + 1 ≤ length out₃
        close_room = puts_room inner (closing_byte ∷ []) whole_room

        pub group_post : {out₄ : Bytes} {z : ℕ} → Puts out₃ y.at (closing_byte ∷ []) out₄ z → WritePost (print (head (node table x))) (x + size (head (node table x))) out n (record { atom = y.atom; at = z }) out₄
        group_post closed = record { puts = body_puts (print_group bs h.is) (puts_then inner closed); next = omega (arith, w.next, h.sized) }
