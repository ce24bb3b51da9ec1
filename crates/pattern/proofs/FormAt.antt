-- The place of FORM, without the automaton. Assumes nothing.
use mathlib.Core.Path.{◌≡◌, refl, sym, ap, ◌∙◌}
use mathlib.Core.Logic.{◌↔◌, ◌⊎◌, inl, inr, ⊎_elim}
use mathlib.Core.Bool.{Bool, true, false}
use mathlib.Core.List.{List, [], ◌∷◌, ◌++◌, append_assoc, append-nil}
use mathlib.Core.Option.{Option, none, some, none-ne-some, some-ne-none}
use Prim.Native.Nat.{ℕ, zero, suc, ◌≤◌, ◌<◌}
use native.Mathlib.Omega.{arith}
use lib.Dec.{T, ltb, leb→le}
use lib.ListN.{length, take, drop, take-append-drop}
use Rattle.pattern.specs.Numbers.{FORM}
use Rattle.pattern.specs.Bytes.{Bytes}
use Rattle.pattern.specs.Syntax.{pattern, Syntax}
use Rattle.pattern.specs.Grammar.{char_class, Derives}
use Rattle.pattern.specs.Parser.{ParserState, step, finish, read_from, start, read}
use Rattle.pattern.specs.ParserInvariant.{state_after, begun_at}
use Rattle.pattern.specs.Scan.{depth, Begins, an_atom, a_digit, a_code, a_group, nothing, begins, refuse, rows, fault}
use Rattle.pattern.specs.Faults.{Viable, FormAt, rows_there, rows_at, Applies}
use Rattle.pattern.proofs.Tests.{On}
use Rattle.pattern.proofs.ParserComplete.{Leads, by_step, ◌⨾◌, reads_on, complete}
use Rattle.pattern.proofs.TableRows.{refuse_applies, refuse_none, refuse_lowest, found, found_there, found_rows, rows_ascend, row_number}
use Rattle.pattern.proofs.ParserCorrect.{form, viable, not_viable}

-- no fault of a byte is FORM
abbrev Other : List (Bool × ℕ) → Type 0
Other [] = Unit {0}
Other (t ∷ ts) = T (ltb FORM t.1) × Other ts

other : (ts : List (Bool × ℕ)) → Other ts → On (refuse ts) (λ x. FORM < x)
unfolding refuse
other [] h = tt
other (t ∷ ts) (h, g) = go t.0 (other ts g)
  where
    go : (b : Bool) → On (refuse ts) (λ x. FORM < x) → On {A = ℕ} (elim b [ true ↦ some t.1 | false ↦ refuse ts ]) (λ x. FORM < x)
    go true g = leb→le (suc FORM) t.1 h
    go false g = g

fault_other : (b : Begins) (d n c : ℕ) (s : Bytes) → On (fault b d n c s) (λ x. FORM < x)
unfolding fault
fault_other b d n c s = other (rows b d n c s) (go b)
  where
    go : (b : Begins) → Other (rows b d n c s)
    go an_atom = (tt, (tt, tt))
    go (a_digit v) = (tt, tt)
    go a_code = (tt, tt)
    go a_group = (tt, tt)
    go nothing = tt

-- the form stops j bytes after u
Stopping : Bytes → Bytes → ℕ → Type 0
Stopping u s j = Viable (u ++ take j s) × (((j < length s) × ¬ Viable (u ++ take (suc j) s)) ⊎ ((j ≡ length s) × ¬ ((t : Syntax pattern) × Derives t (u ++ s))))

-- the prefix of bytes that some pattern begins with
shorter : (u v : Bytes) → Viable (u ++ v) → Viable u
unfolding Viable
shorter u v (w, t, h) = (v ++ w, t, rw append_assoc at h)

shift : (u : Bytes) (c : ℕ) (s : Bytes) (j : ℕ) → Stopping (u ++ c ∷ []) s j ↔ Stopping u (c ∷ s) (suc j)
unfolding Stopping
shift u c s j =
    rw (append_assoc u (c ∷ []) (take j s), append_assoc u (c ∷ []) (take (suc j) s), append_assoc u (c ∷ []) s) (
      λ (v, x). (v, ⊎_elim (λ (l, e). inl (omega arith, e)) (λ (l, e). inr (omega arith, e)) x),
      λ (v, x). (v, ⊎_elim (λ (l, e). inl (omega arith, e)) (λ (l, e). inr (omega arith, e)) x),
    )

module _ (u : Bytes) (q : ParserState) (h : Leads start u q) where
  at_end : (o : Option (Syntax pattern)) → read_from q [] ≡ o → (◌≡◌ {A = Option ℕ} (elim o [ none ↦ some FORM | some t ↦ none ]) (some FORM)) ↔ Stopping u [] 0
  unfolding Stopping read
  at_end none e = (
    λ x. (rw append-nil (viable u q h), inr (refl, λ (t, y). let a : read_from start (u ++ []) ≡ some t = complete t (u ++ []) y in none-ne-some t (cc (reads_on h [])))),
    λ x. refl,
  )
  at_end (some t) e = (
    λ x. absurd (none-ne-some FORM x),
    λ (v, x). absurd (⊎_elim (λ (l, y). omega arith) (λ (l, y). y (t, (form (u ++ []) t).0 (reads_on h [] ∙ e))) x),
  )

  at_byte : (c : ℕ) (s : Bytes) (o : Option ParserState) → step q c ≡ o → (x : Option ℕ) → On x (λ f. FORM < f)
      → (◌≡◌ {A = Option ℕ} (elim o [ none ↦ some FORM | some q' ↦ x ]) (some FORM)) ↔ Stopping u (c ∷ s) 0
  unfolding Stopping
  at_byte c s none e x g = (λ y. (rw append-nil (viable u q h), inl (omega arith, not_viable u q c h e)), λ y. refl)
  at_byte c s (some q') e x g = (
    λ y. absurd (let z : FORM < FORM = rw y at g in omega arith),
    λ (v, y). absurd (⊎_elim (λ (l, z). z (viable (u ++ c ∷ []) q' (h ⨾ by_step c e))) (λ (l, z). omega arith) y),
  )

  at_later : (c : ℕ) (s : Bytes) (j : ℕ) (o : Option ParserState) → step q c ≡ o
      → ((q' : ParserState) → Leads start (u ++ c ∷ []) q' → (found_there (state_after q' (take j s)) (drop j s) ≡ some FORM) ↔ Stopping (u ++ c ∷ []) s j)
      → (found_there (elim o [ none ↦ none | some q' ↦ state_after q' (take j s) ]) (drop j s) ≡ some FORM) ↔ Stopping u (c ∷ s) (suc j)
  unfolding found_there
  at_later c s j none e g = (
    λ x. absurd (none-ne-some FORM x),
    λ x. absurd (not_viable u q c h e (shorter (u ++ c ∷ []) (take j s) (unfold Stopping in rw append_assoc x.0))),
  )
  at_later c s j (some q') e g =
      let a = g q' (h ⨾ by_step c e) in
      let b = shift u c s j in
      (λ x. b.0 (a.0 x), λ x. a.1 (b.1 x))

-- what is not read stops somewhere
stuck_from : (s : Bytes) (q : ParserState) → read_from q s ≡ none → (j : ℕ) × (j ≤ length s) × (found_there (state_after q (take j s)) (drop j s) ≡ some FORM)
unfolding read_from found_there found state_after
stuck_from [] q e = (0, omega arith, go (finish q.0 q.1) e)
  where
    go : (o : Option (Syntax pattern)) → o ≡ none → ◌≡◌ {A = Option ℕ} (elim o [ none ↦ some FORM | some t ↦ none ]) (some FORM)
    go none e = refl
    go (some t) e = absurd (some-ne-none t e)
stuck_from (c ∷ s) q e = go (step q c) refl e (λ q' h. stuck_from s q' h)
  where
    go : (o : Option ParserState) → step q c ≡ o → ◌≡◌ {A = Option (Syntax pattern)} (elim o [ none ↦ none | some q' ↦ read_from q' s ]) none
        → ((q' : ParserState) → read_from q' s ≡ none → (j : ℕ) × (j ≤ length s) × (found_there (state_after q' (take j s)) (drop j s) ≡ some FORM))
        → (j : ℕ) × (j ≤ length (c ∷ s)) × (found_there (state_after q (take j (c ∷ s))) (drop j (c ∷ s)) ≡ some FORM)
    go none z e f = (0, omega arith, rw (z, found_there, found))
    go (some q') z e f = let (j, l, h) = f q' e in (suc j, omega arith, rw (z, state_after) h)

stops_from : (s : Bytes) (q : ParserState) (u : Bytes) → Leads start u q → (j : ℕ) → j ≤ length s → (found_there (state_after q (take j s)) (drop j s) ≡ some FORM) ↔ Stopping u s j
unfolding found_there found state_after read_from
stops_from [] q u h zero l = at_end u q h (finish q.0 q.1) refl
stops_from [] q u h (suc j) l = absurd (omega arith)
stops_from (c ∷ s) q u h zero l =
    let n : ℕ = begun_at q.0 q.1 in
    at_byte u q h c s (step q c) refl (fault (begins q.0 (char_class c)) (depth q.1) n c s) (fault_other (begins q.0 (char_class c)) (depth q.1) n c s)
stops_from (c ∷ s) q u h (suc j) l = at_later u q h c s j (step q c) refl (λ q' g. stops_from s q' (u ++ c ∷ []) g j (omega arith))

-- FORM applies at a position just where the form stops there
form_found : (s : Bytes) (p : ℕ) → (found_there (state_after start (take p s)) (drop p s) ≡ some FORM) ↔ Applies (rows_at s p) FORM
unfolding rows_at
form_found s p =
    let o = state_after start (take p s) in
    let e = found_rows o (drop p s) in (
      λ h. refuse_applies _ FORM (e ∙ h),
      λ a. go (refuse (rows_there o (drop p s))) refl a,
    )
  where
    go : (x : Option ℕ) → refuse (rows_there (state_after start (take p s)) (drop p s)) ≡ x → Applies (rows_there (state_after start (take p s)) (drop p s)) FORM
        → found_there (state_after start (take p s)) (drop p s) ≡ some FORM
    go none r a = absurd (refuse_none _ FORM r a)
    go (some f) r a =
        let u : f ≤ FORM = refuse_lowest _ 0 f FORM (rows_ascend _ _) r a in
        let v : FORM ≤ f = (row_number _ _ f (refuse_applies _ f r)).0 in
        let w : f ≡ FORM = omega arith in
        sym (found_rows _ (drop p s)) ∙ r ∙ ap some w

pub stops : (s : Bytes) (p : ℕ) → p ≤ length s → Applies (rows_at s p) FORM ↔ FormAt s p
unfolding FormAt Stopping
stops s p l =
    let a = form_found s p in
    let b = stops_from s start [] (record { to = unfold state_after in refl }) p l in
    (λ x. b.0 (a.1 x), λ x. a.0 (b.1 x))

-- a source that is no pattern stops somewhere, and a pattern nowhere
pub no_pattern : (s : Bytes) → (¬ ((t : Syntax pattern) × Derives t s)) ↔ ((p : ℕ) × (p ≤ length s) × FormAt s p)
unfolding FormAt Viable read
no_pattern s = (
  λ n. let (p, l, e) = stuck_from s start (go n (read s) refl) in (p, l, (stops s p l).0 ((form_found s p).0 e)),
  λ (p, l, (v, y)) (t, h).
      ⊎_elim (λ (k, z). z (drop (suc p) s, t, rw (take-append-drop (suc p) s) h)) (λ (k, z). z (t, h)) y,
)
  where
    go : ¬ ((t : Syntax pattern) × Derives t s) → (o : Option (Syntax pattern)) → read s ≡ o → read_from start s ≡ none
    go n none e = e
    go n (some t) e = absurd (n (t, (form s t).0 e))
