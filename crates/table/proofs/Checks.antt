-- What the walk over a whole table says of `decode`. Assumes nothing.
use mathlib.Core.Path.{◌≡◌, sym, ap, subst, ◌∙◌}
use mathlib.Core.Bool.{true, false}
use mathlib.Core.Option.{Option, none, some}
use Prim.Native.Nat.{ℕ, ◌+◌, ◌*◌, ◌-◌, ◌<◌, ◌≤◌}
use native.Mathlib.Omega.{arith}
use lib.Dec.{leb, eqb}
use lib.ListN.{length, take, drop, length-drop}
use lib.Seq.{take_all}
use borrow.Author.Tests.{le-leb, lt-leb, eq-eqb, ne_eqb}
use Rattle.std.specs.Prelude.{Some, None}
use Rattle.std.proofs.lemmas.Option.{cond_some}
use Rattle.std.specs.declared.option.Option as code
use Rattle.table.specs.declared.Sizes.{Sizes}
use Rattle.pattern.specs.Versions.{length_place}
use Rattle.pattern.specs.Bytes.{Bytes}
use Rattle.pattern.specs.Syntax.{pattern, Syntax, size, top_size}
use Rattle.pattern.specs.Table.{pool}
use Rattle.pattern.specs.Print.{print}
use Rattle.pattern.specs.Decode.{version_of, decode}
use Rattle.pattern.proofs.RoundTrip.{limits_grow}
use Rattle.stores.proofs.Little.{Octets}
use Rattle.table.specs.Headers.{header_of, headed, read_header}
use Rattle.table.specs.Checked.{bind, only_if, read_pattern, read_table, walk}
use Rattle.table.specs.Walk.{Walked, place, walked_by, WalkPre, PatternPost}
use Rattle.table.specs.Tested.{tested}
use Rattle.table.specs.declared.header.Header.{Header}
use Rattle.table.specs.declared.walk.Place.{Place}
use Rattle.table.proofs.Options.{cond_none, kept, dropped, going_on, stopped}
use Rattle.table.proofs.Whole.{opens, walk_is_decode}
use Rattle.table.proofs.Steps.{walked_some, walked_none}

-- what reading the header said
head_is : (s : Bytes) (h : Header) → Some h ≡ read_header s → (headed s ≡ true) × (h ≡ header_of s)
unfolding read_header
head_is s h e = let (a, b) = cond_some (headed s) (header_of s) h (sym e) in (a, sym b)

head_not : (s : Bytes) → None ≡ read_header s → headed s ≡ false
unfolding read_header
head_not s e = cond_none (headed s) (header_of s) e

abbrev start : Place
start = place 0 0 0

-- bytes whose header was read
pub record HeadRead (s : Bytes) (h : Header) : Type 0 where
  pub bytes : Octets s
  pub head : Some h ≡ read_header s

pub head_read : {s : Bytes} {h : Header} {x : code.Option Header} → Octets s → x ≡ read_header s → x ≡ Some h → HeadRead s h
head_read bytes e z = record { bytes = bytes; head = sym z ∙ e }

-- what follows the header, as a slice
abbrev payload_slice : Bytes → Header → Bytes
payload_slice s h = take (length s - h.records) (drop h.records s)

payload_is : (s : Bytes) (h : Header) → payload_slice s h ≡ drop h.records s
payload_is s h = take_all (length s - h.records) (drop h.records s) (omega (arith, length-drop h.records s))

-- and whose records were walked
pub record BodyRead (s : Bytes) (h : Header) (x : Walked) : Type 0 where
  pub read_head : HeadRead s h
  pub few : h.atoms ≤ h.format.atoms
  pub walks : PatternPost (payload_slice s h) h.atoms start 0 x

pub body_read : {s : Bytes} {h : Header} {x : Walked} → HeadRead s h → h.atoms ≤ h.format.atoms → PatternPost (payload_slice s h) h.atoms start 0 x → BodyRead s h x
body_read r few walks = record { read_head = r; few = few; walks = walks }

module _ (s : Bytes) (bytes : Octets s) where
  -- a table that is not read is not good
  unread : read_table s ≡ none → None ≡ tested (decode s)
  unfolding walk tested
  unread e = sym (ap tested (sym (walk_is_decode s bytes) ∙ stopped _ _ e))

  pub bad_head : {x : code.Option Header} → x ≡ read_header s → x ≡ None → None ≡ tested (decode s)
  unfolding read_table
  bad_head e z = unread (dropped _ _ (head_not s (sym z ∙ e)))

module _ {s : Bytes} {h : Header} (r : HeadRead s h) where
  headed_so : (headed s ≡ true) × (h ≡ header_of s)
  headed_so = head_is s h r.head

  pub bad_atoms : h.format.atoms < h.atoms → None ≡ tested (decode s)
  unfolding read_table
  bad_atoms n =
      let (t, q) = headed_so in
      unread s r.bytes (kept _ _ t ∙ dropped _ _ (lt-leb (header_of s).atoms (header_of s).format.atoms (subst (λ (h : Header). h.format.atoms < h.atoms) q n)))

  -- the header lies within the bytes
  pub records_there : h.records ≤ length s
  records_there = let (t, q) = headed_so in rw q (opens s t).long

  module _ (n : h.atoms ≤ h.format.atoms) where
    pub ready_start : WalkPre (payload_slice s h) h.atoms start 0
    ready_start =
        let (t, q) = headed_so in
        let o = opens s t in
        let few : (header_of s).atoms ≤ (header_of s).format.atoms = subst (λ (h : Header). h.atoms ≤ h.format.atoms) q n in
        let most = (limits_grow (version_of s)).1 in
        let place : ℕ = length_place (version_of s) in
        let long = length-drop (header_of s).records s in
        subst (λ (h : Header). WalkPre (payload_slice s h) h.atoms start 0) (sym q)
        (subst (λ (b : Bytes). WalkPre b (header_of s).atoms start 0) (sym (payload_is s (header_of s)))
        (record {
          few = omega (arith, few, most);
          small = omega (arith, o.whole, few, most, long, r.bytes place, r.bytes (place + 1));
          atom = omega arith;
          pool = omega (arith, o.whole, long);
          source = omega arith;
          shallow = omega arith;
        }))

    -- what is made of the tree of the records, by a header
    abbrev ended : Header → Option (Syntax pattern)
    ended h =
        bind (read_pattern (drop h.records s) h.atoms (3 * h.atoms + 2) 0 0 0) (λ t. only_if (eqb (size t) h.atoms) (only_if (eqb (length (pool t)) h.length) (some t)))

    reading : read_table s ≡ ended h
    unfolding read_table
    reading =
        let (t, q) = headed_so in
        let m : (header_of s).atoms ≤ (header_of s).format.atoms = subst (λ (h : Header). h.atoms ≤ h.format.atoms) q n in
        kept _ _ t ∙ kept _ _ (le-leb (header_of s).atoms (header_of s).format.atoms m) ∙ ap ended (sym q)

module _ {s : Bytes} {h : Header} {x : Walked} (r : BodyRead s h x) where
  unread_body : ended r.read_head r.few h ≡ none → None ≡ tested (decode s)
  unread_body e = unread s r.read_head.bytes (reading r.read_head r.few ∙ e)

  enough : 3 * (h.atoms - 0) + 1 < 3 * h.atoms + 2
  enough = omega arith

  walked_is : x ≡ walked_by start (read_pattern (drop h.records s) h.atoms (3 * h.atoms + 2) 0 0 0)
  walked_is = r.walks.reads _ enough ∙ ap (λ (b : Bytes). walked_by start (read_pattern b h.atoms (3 * h.atoms + 2) 0 0 0)) (payload_is s h)

  pub bad_walk : x ≡ None → None ≡ tested (decode s)
  bad_walk e = unread_body (stopped _ _ (walked_none start _ (sym e ∙ walked_is)))

  module _ {to : Place} {k : ℕ} (e : x ≡ Some (to, k)) where
    -- the tree that was walked
    gone : (t : Syntax pattern) × (read_pattern (drop h.records s) h.atoms (3 * h.atoms + 2) 0 0 0 ≡ some t) × (to.atom ≡ size t) × (to.pool ≡ length (pool t)) × (to.source ≡ length (print t)) × (k ≡ top_size t)
    gone =
        let (t, v, u, z) = walked_some start _ to (sym e ∙ walked_is) in
        (t, v, ap (λ (p : Place). p.atom) u ∙ omega arith, ap (λ (p : Place). p.pool) u ∙ omega arith, ap (λ (p : Place). p.source) u ∙ omega arith, z)

    pub bad_count : (to.atom ≡ h.atoms → ⊥) → None ≡ tested (decode s)
    bad_count n =
        let (t, v, u1, u2, u3, z) = gone in
        unread_body (going_on _ _ v ∙ dropped _ _ (ne_eqb (size t) h.atoms (λ y. n (u1 ∙ y))))

    module _ (all : to.atom ≡ h.atoms) where
      pub bad_pool : (to.pool ≡ h.length → ⊥) → None ≡ tested (decode s)
      bad_pool p =
          let (t, v, u1, u2, u3, z) = gone in
          unread_body (going_on _ _ v ∙ kept _ _ (eq-eqb (size t) h.atoms (sym u1 ∙ all)) ∙ dropped _ _ (ne_eqb (length (pool t)) h.length (λ y. p (u2 ∙ y))))

      module _ (p : to.pool ≡ h.length) where
        whole : (t : Syntax pattern) → read_pattern (drop h.records s) h.atoms (3 * h.atoms + 2) 0 0 0 ≡ some t → to.atom ≡ size t → to.pool ≡ length (pool t)
            → decode s ≡ only_if (leb (length (print t)) h.format.source) (some t)
        unfolding walk
        whole t v u1 u2 =
            let q = reading r.read_head r.few ∙ going_on _ _ v ∙ kept _ _ (eq-eqb (size t) h.atoms (sym u1 ∙ all)) ∙ kept _ _ (eq-eqb (length (pool t)) h.length (sym u2 ∙ p)) in
            sym (walk_is_decode s r.read_head.bytes) ∙ going_on _ _ q
            ∙ ap (λ (h : Header). only_if (leb (length (print t)) h.format.source) (some t)) (sym (headed_so r.read_head).1)

        pub bad_length : h.format.source < to.source → None ≡ tested (decode s)
        unfolding tested
        bad_length m =
            let (t, v, u1, u2, u3, z) = gone in
            sym (ap tested (whole t v u1 u2 ∙ dropped _ _ (lt-leb (length (print t)) h.format.source (omega (arith, u3, m)))))

        pub good_table : to.source ≤ h.format.source → ◌≡◌ {A = code.Option Sizes} (Some (record { atoms = h.atoms; top = k; source = to.source })) (tested (decode s))
        unfolding tested
        good_table m =
            let (t, v, u1, u2, u3, z) = gone in
            let u = sym all ∙ u1 in
            (λ j. Some (record { atoms = u j; top = z j; source = u3 j }))
            ∙ sym (ap tested (whole t v u1 u2 ∙ kept _ _ (le-leb (length (print t)) h.format.source (omega (arith, u3, m)))))
