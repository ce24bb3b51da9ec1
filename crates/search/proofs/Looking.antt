-- One number of a search, from what the code does with it. Assumes nothing.
use mathlib.Core.Path.{◌≡◌, refl, sym, ap, subst, ◌∙◌}
use mathlib.Core.Logic.{⊎_elim}
use mathlib.Core.Bool.{Bool, true, false}
use mathlib.Core.List.{List, ◌++◌, append_assoc}
use mathlib.Core.Option.{Option, none, some}
use Prim.Native.Nat.{ℕ, suc, ◌+◌, ◌*◌, ◌-◌, ◌≤◌, ◌<◌, max}
use native.Mathlib.Omega.{arith}
use borrow.Rule.Slice.PartMut.{put_mid}
use lib.ListN.{length, take, drop, replicate, length-replicate, replicate-append-replicate, take-append-drop}
use lib.Seq.{take_at, take-take, take_all, drop-drop}
use Rattle.pattern.specs.Numbers.{atom_limit}
use lib.ListN.{length, take, drop, replicate, length-replicate, replicate-append-replicate, take-append-drop}
use lib.Seq.{take_at, take-take, take_all, drop-drop}
use Rattle.std.specs.Prelude.{Ok, Err}
use Rattle.pattern.specs.declared.refusal.Refusal.{Refusal}
use Rattle.pattern.specs.Numbers.{atom_limit}
use Rattle.pattern.specs.Bytes.{Bytes, zeroed}
use Rattle.pattern.specs.Parts.{verdict}
use Rattle.pattern.specs.Trials.{trials}
use Rattle.pattern.specs.Answers.{MatchOutput, scratch_needed, decided, ended, match_of}
use Rattle.pattern.proofs.Tests.{le_or_lt}
use Rattle.pattern.proofs.Stores.{length_zeroed}
use Rattle.pattern.proofs.Calls.{good_limited}
use Rattle.pattern.proofs.Rooms.{top_le}
use Rattle.std.specs.Prelude.{Result, Ok, Err}
use Rattle.std.specs.Result.{MatchResult}
use Rattle.pattern.specs.declared.refusal.Refusal.{Refusal}
use Rattle.matcher.specs.declared.Verdict as called
use Rattle.matcher.specs.Answered.{match_output}
use Rattle.pattern.proofs.Refusals.{numbered}
use Rattle.summary.specs.Summary.{rules_out, summary_of, summary_size}
use Rattle.summary.proofs.SummaryBytes.{length_summary_bytes}
use Rattle.summary.specs.Ruling.{RulesOut}
use Rattle.register.specs.declared.slot.Kept.{Kept}
use Rattle.search.specs.declared.look.Look.TheVariants.{Match, NoMatch, RuledOut}
use Rattle.search.specs.Search.{unlimited, search_from}
use Rattle.search.specs.Looking.{Zeros, MatchPre, IsMatchPost, LookAtPre, looked, LookAtPost}
use Rattle.search.proofs.Steps.{fault_none, match_decided, step_work, step_parts, step_skipped, step_found, step_passed}

-- ---- scratch that is zero so far

-- zeros up to a place within those that are there change nothing
zeros_stay : (n z : ℕ) (s : Bytes) → Zeros z s → n ≤ z → s ≡ zeroed n s
zeros_stay n z s w h =
    let e : n + (z - n) ≡ z = omega arith in
    let t : take n s ≡ replicate n 0 =
    sym (take-take n z s h) ∙ ap (take n) (w.zeros ∙ ap (λ j. replicate j 0) (sym e) ∙ sym (replicate-append-replicate {A = ℕ} n (z - n) 0)) ∙ take_at (replicate n 0) (replicate (z - n) 0) n (length-replicate {A = ℕ} n 0) in
    sym (take-append-drop n s) ∙ ap (λ (x : Bytes). x ++ drop n s) t

-- zeros from there to another place
zeros_put : (from to : ℕ) (s x : Bytes) → Zeros from s → from ≤ to → x ≡ replicate (to - from) 0 → put_mid from (to - from) s x ≡ zeroed to s
zeros_put from to s x w h e =
    let n : ℕ = to - from in
    let f : from + n ≡ to = omega arith in
    let z : drop n (drop from s) ≡ drop to s = drop-drop n from s ∙ ap (λ j. drop j s) f in
    rw (e, z, w.zeros, ← append_assoc) (ap (λ (b : Bytes). b ++ drop to s) (replicate-append-replicate {A = ℕ} from n 0 ∙ ap (λ j. replicate j 0) f))

-- up to the larger of two places, of which the first is as far as they are there
pub zeros_filled : (n z to : ℕ) (s x : Bytes) → Zeros z s → to ≡ max z n → x ≡ replicate (to - z) 0 → put_mid z (to - z) s x ≡ zeroed n s
zeros_filled n z to s x w m e = ⊎_elim less more (le_or_lt n z)
  where
    done : put_mid z (to - z) s x ≡ zeroed to s
    done = zeros_put z to s x w (omega arith) e

    less : n ≤ z → put_mid z (to - z) s x ≡ zeroed n s
    less h = let f : to ≡ z = omega arith in done ∙ ap (λ j. zeroed j s) f ∙ sym (zeros_stay z z s w (omega arith)) ∙ zeros_stay n z s w h

    more : z < n → put_mid z (to - z) s x ≡ zeroed n s
    more h = let f : to ≡ n = omega arith in done ∙ ap (λ j. zeroed j s) f

-- after more of it was zeroed
pub zeros_more : (n z : ℕ) (s : Bytes) → Zeros z s → n ≤ length s → Zeros (max z n) (zeroed n s)
zeros_more n z s w h = ⊎_elim less more (le_or_lt n z)
  where
    less : n ≤ z → Zeros (max z n) (zeroed n s)
    less k = let e : max z n ≡ z = omega arith in rw (e, ← zeros_stay n z s w k) w

    more : z < n → Zeros (max z n) (zeroed n s)
    more k =
        let e : max z n ≡ n = omega arith in
        rw e (record { inside = omega (arith, length_zeroed n s h); zeros = take_at (replicate n 0) (drop n s) n (length-replicate {A = ℕ} n 0) })

-- ---- a match where no refusal can come

module _ {table label scratch parts : Bytes} (p : MatchPre table label scratch parts) where
  abbrev output : MatchOutput
  output = match_of table label scratch parts unlimited

  is_decided : output ≡ ended (decided (scratch_needed p.tree (length label)) (trials label p.tree) (verdict label p.tree)) scratch parts
  is_decided = match_decided table label scratch parts p.tree p.good p.short p.fits

  -- a verdict, and scratch zeroed
  record Verdict (o : MatchOutput) : Type 0 where
    pub number : o.answer.number ≡ 0
    pub zeroed_is : o.scratch ≡ zeroed (scratch_needed p.tree (length label)) scratch

  verdict_of : (v : Option (List ℕ)) → Verdict (ended (decided (scratch_needed p.tree (length label)) (trials label p.tree) v) scratch parts)
  unfolding ended
  verdict_of none = record { number = refl; zeroed_is = refl }
  verdict_of (some ends) = record { number = refl; zeroed_is = refl }

  a_verdict : Verdict output
  a_verdict = subst Verdict (sym is_decided) (verdict_of (verdict label p.tree))

  pub verdict_zeroed : output.scratch ≡ zeroed (scratch_needed p.tree (length label)) scratch
  verdict_zeroed = a_verdict.zeroed_is

  pub matched : (m : Result called.Verdict Refusal) (r : Bool) (scratch' parts' : Bytes) → match_output unlimited m scratch' parts' ≡ output → MatchResult m (λ v. r ≡ v.matches) (λ _. r ≡ false)
      → IsMatchPost table label scratch parts r scratch' parts'
  matched (Ok v) r scratch' parts' e f =
      record {
        number = a_verdict.number;
        value = rw f (sym (ap (λ (o : MatchOutput). o.answer.value) e));
        scratch_is = ap (λ (o : MatchOutput). o.scratch) e;
        parts_is = ap (λ (o : MatchOutput). o.parts) e;
      }
  matched (Err x) r scratch' parts' e f = absurd (numbered x (ap (λ (o : MatchOutput). o.answer.number) e ∙ a_verdict.number))

-- ---- one number

module _ {summary table : Bytes} {kept : Kept} {label scratch : Bytes} {cleared : ℕ} (p : LookAtPre summary table kept label scratch cleared) where
  pub look_atoms : kept.atoms ≤ atom_limit
  look_atoms = omega (arith, p.atoms_is, (good_limited table p.tree p.good).atoms)

  pub look_tops : kept.top ≤ atom_limit
  look_tops = omega (arith, p.top_is, top_le p.tree, (good_limited table p.tree p.good).atoms)

  pub look_summary : summary_size ≤ length summary
  look_summary = omega (arith, ap length p.summary_is, length_summary_bytes (summary_of p.tree))

  pub look_out : {r : Bool} → RulesOut summary label r → r ≡ rules_out (summary_of p.tree) label
  look_out o = o.by (summary_of p.tree) (take_all summary_size summary (omega (arith, ap length p.summary_is, length_summary_bytes (summary_of p.tree))) ∙ p.summary_is)

  abbrev needed : ℕ
  needed = (2 * kept.atoms + 4) * (length label + 1) * (length label + 1)

  needs : needed ≡ scratch_needed p.tree (length label)
  needs = ap (λ a. (2 * a + 4) * (length label + 1) * (length label + 1)) p.atoms_is

  pub look_filled : (reach : ℕ) → reach ≡ max cleared needed → (x : Bytes) → x ≡ replicate (reach - cleared) 0 → put_mid cleared (reach - cleared) scratch x ≡ zeroed needed scratch
  look_filled reach m x e = zeros_filled needed cleared reach scratch x p.zeros m e

  pub look_within : (reach : ℕ) → reach ≡ max cleared needed → needed ≤ length scratch → reach ≤ length scratch
  look_within reach m room = omega (arith, p.zeros.inside)

  module _ (parts : Bytes) where
    pub look_work : length scratch < needed → LookAtPost table label scratch parts (Err Refusal.Work) scratch parts
    unfolding looked
    look_work h = record {
      goes = λ k m skipped. step_work k table m label skipped scratch parts p.tree p.good p.short (omega (arith, needs, h));
      zeros = tt;
    }

    module _ (room : needed ≤ length scratch) where
      pub look_parts : length parts < 2 * kept.top → LookAtPost table label scratch parts (Err Refusal.Parts) scratch parts
      unfolding looked
      look_parts h = record {
        goes = λ k m skipped. step_parts k table m label skipped scratch parts p.tree p.good p.short (omega (arith, needs, room)) (omega (arith, p.top_is, h));
        zeros = tt;
      }

      module _ (fits : 2 * kept.top ≤ length parts) where
        pub look_fits : MatchPre table label scratch parts
        look_fits = record {
          tree = p.tree;
          good = p.good;
          short = p.short;
          fits = fault_none p.tree label scratch parts p.short (omega (arith, needs, room)) (omega (arith, p.top_is, fits));
        }

        -- after no match, with what was zeroed
        reached : (scratch' : Bytes) → scratch' ≡ zeroed needed scratch → (reach : ℕ) → reach ≡ max cleared needed → Zeros reach scratch'
        reached scratch' e reach l = rw (l, e) (zeros_more needed cleared scratch p.zeros room)

        pub look_skipped : true ≡ rules_out (summary_of p.tree) label → (scratch' : Bytes) → scratch' ≡ zeroed needed scratch → (reach : ℕ) → reach ≡ max cleared needed
            → LookAtPost table label scratch parts (Ok (RuledOut reach)) scratch' parts
        unfolding looked
        look_skipped out scratch' e reach l =
            let f : zeroed (scratch_needed p.tree (length label)) scratch ≡ scratch' = sym (e ∙ ap (λ n. zeroed n scratch) needs) in
            record {
              goes = λ k m skipped. let c : suc skipped ≡ skipped + 1 = omega arith in
                  step_skipped k table m label skipped scratch parts p.tree p.good p.short (omega (arith, needs, room)) (omega (arith, p.top_is, fits)) (sym out)
                  ∙ ap (λ (s : Bytes). search_from (suc k) m label (suc skipped) s parts) f ∙ ap (λ n. search_from (suc k) m label n scratch' parts) c;
              zeros = reached scratch' e reach l;
            }

        module _ (out : false ≡ rules_out (summary_of p.tree) label) (scratch' parts' : Bytes) where
          pub look_yes : IsMatchPost table label scratch parts true scratch' parts' → LookAtPost table label scratch parts (Ok Match) scratch' parts'
          unfolding looked
          look_yes i = record {
            goes = λ k m skipped. rw (i.scratch_is, i.parts_is) (step_found k table m label skipped scratch parts p.tree p.good (sym out) _ refl i.number i.value);
            zeros = tt;
          }

          pub look_no : IsMatchPost table label scratch parts false scratch' parts' → (reach : ℕ) → reach ≡ max cleared needed → LookAtPost table label scratch parts (Ok (NoMatch reach)) scratch' parts'
          unfolding looked look_fits
          look_no i reach l = record {
            goes = λ k m skipped. rw (i.scratch_is, i.parts_is) (step_passed k table m label skipped scratch parts p.tree p.good (sym out) _ refl i.number i.value);
            zeros = reached scratch' (i.scratch_is ∙ verdict_zeroed look_fits ∙ ap (λ n. zeroed n scratch) (sym needs)) reach l;
          }
