-- The loop over the numbers of a register: what is left of the search after some of them. Assumes nothing.
use mathlib.Core.Path.{◌≡◌, refl, sym, ap, ◌∙◌}
use mathlib.Core.Logic.{⊎_elim}
use mathlib.Core.List.{[], ◌∷◌}
use mathlib.Core.Option.{some}
use Prim.Native.Nat.{ℕ, suc, ◌+◌, ◌-◌, ◌≤◌, ◌<◌}
use native.Mathlib.Omega.{arith}
use lib.ListN.{length, take, drop, drop_of_length-le}
use lib.Seq.{drop-cons}
use Rattle.std.specs.Prelude.{Result, Ok, Err}
use Rattle.pattern.specs.Bytes.{Bytes}
use Rattle.pattern.specs.declared.refusal.Refusal.{Refusal}
use Rattle.pattern.specs.Refusals.{number_of}
use Rattle.pattern.specs.Syntax.{pattern, Syntax}
use Rattle.pattern.specs.Decode.{decode}
use Rattle.summary.specs.Summary.{summary_size}
use Rattle.register.specs.Maps.{numbers, Map, table_of, tables, total}
use Rattle.register.specs.Layout.{slot_size, overhead, slot_start}
use Rattle.register.specs.declared.slot.Kept.{Kept}
use Rattle.register.specs.Slots.{summary_place, kept_at}
use Rattle.register.proofs.Maps.{table_cases, total_suc}
use Rattle.register.proofs.Meaning.{meant}
use Rattle.register.proofs.Kept.{kept_length, kept_atoms, kept_top, summary_is, table_is, table_within}
use Rattle.search.specs.declared.look.Look.{Look}
use Rattle.search.specs.declared.look.Look.TheVariants.{Match, NoMatch, RuledOut}
use Rattle.search.specs.Search.{search_refused, search_from, search_of}
use Rattle.search.specs.Looking.{Zeros, LookAtPre, looked, LookAtPost, LookPre}
use Rattle.search.proofs.Steps.{step_missing, search_goes}

-- the numbers below k were looked at, and what is left of the search begins with these values
pub record Underway (lent label scratch₀ parts₀ scratch parts : Bytes) (k at skipped cleared : ℕ) : Type 0 where
  pub start : LookPre lent label
  pub few : k ≤ numbers
  pub place : at ≡ overhead + total (take k start.map)
  pub left : search_of lent label scratch₀ parts₀ ≡ search_from k (drop k start.map) label skipped scratch parts
  pub counted : skipped ≤ k
  pub zeros : Zeros cleared scratch
  pub same_scratch : length scratch ≡ length scratch₀
  pub same_parts : length parts ≡ length parts₀

pub search_start : {lent label : Bytes} → LookPre lent label → (scratch parts : Bytes) → Underway lent label scratch parts scratch parts 0 overhead 0 0
unfolding tables
search_start {lent} {label} p scratch parts = record {
  start = p;
  few = omega arith;
  place = omega arith;
  left = search_goes lent label scratch parts p.map p.means p.short;
  counted = omega arith;
  zeros = record { inside = omega arith; zeros = refl };
  same_scratch = refl;
  same_parts = refl;
}

module _ {lent label scratch₀ parts₀ scratch parts : Bytes} {k at skipped cleared : ℕ} (w : Underway lent label scratch₀ parts₀ scratch parts k at skipped cleared) where
  abbrev map : Map
  map = w.start.map

  counts : length map ≡ numbers
  counts = (meant lent map w.start.means).proper.count

  -- after the last number
  pub search_end : numbers ≤ k → record { number = 0; verdict = 0; at = 0; skipped = skipped; scratch = scratch; parts = parts } ≡ search_of lent label scratch₀ parts₀
  unfolding search_from
  search_end h = sym (w.left ∙ ap (λ (m : Map). search_from k m label skipped scratch parts) (drop_of_length-le map {i = k} (omega (arith, counts))))

  module _ (small : k < numbers) where
    abbrev table : Bytes
    table = table_of map k

    pub slot_within : slot_start k + slot_size ≤ length lent
    slot_within = omega (arith, small, table_within lent map w.start.means k small)

    there : k < length map
    there = omega (arith, counts)

    left_now : search_of lent label scratch₀ parts₀ ≡ search_from k (table ∷ drop (suc k) map) label skipped scratch parts
    left_now = w.left ∙ ap (λ (m : Map). search_from k m label skipped scratch parts) (drop-cons map k [] there)

    module _ (r : Kept) (told : r ≡ kept_at lent (slot_start k)) where
      length_told : r.length ≡ length table
      length_told = ap (λ (x : Kept). x.length) told ∙ kept_length lent map w.start.means k small

      place_next : at + r.length ≡ overhead + total (take (k + 1) map)
      place_next = let e : suc k ≡ k + 1 = omega arith in omega (arith, w.place, length_told, total_suc map k there, ap (λ j. total (take j map)) e)

      pub end_within : at + r.length ≤ length lent
      end_within = let e : suc k ≡ k + 1 = omega arith in omega (arith, place_next, table_within lent map w.start.means k small, ap (λ j. total (take j map)) e)

      -- no table under it
      pub search_missing : r.length ≡ 0 → Underway lent label scratch₀ parts₀ scratch parts (k + 1) at skipped cleared
      search_missing h =
          let e : suc k ≡ k + 1 = omega arith in
          record {
            start = w.start;
            few = omega (arith, small);
            place = omega (arith, h, place_next);
            left = left_now ∙ step_missing k table (drop (suc k) map) label skipped scratch parts (omega (arith, h, length_told)) ∙ ap (λ j. search_from j (drop j map) label skipped scratch parts) e;
            counted = omega (arith, w.counted);
            zeros = w.zeros;
            same_scratch = w.same_scratch;
            same_parts = w.same_parts;
          }

      module _ (present : r.length ≡ 0 → ⊥) where
        tree : (p : Syntax pattern) × (decode table ≡ some p)
        tree = ⊎_elim (λ z. absurd (present (length_told ∙ z))) (λ x. x) (table_cases table ((meant lent map w.start.means).proper.each k))

        abbrev table_slice : Bytes
        table_slice = take (at + r.length - at) (drop at lent)

        table_told : table_slice ≡ table
        table_told =
            let n : at + r.length - at ≡ length table = omega (arith, length_told) in
            ap (λ x. take x (drop at lent)) n ∙ ap (λ x. take (length table) (drop x lent)) w.place ∙ table_is lent map w.start.means k small

        pub look_pre : (summary : Bytes) → summary ≡ take summary_size (drop (slot_start k + summary_place) lent) → LookAtPre summary table_slice r label scratch cleared
        look_pre summary read =
            let (p, d) = tree in
            record {
              tree = p;
              good = ap decode table_told ∙ d;
              short = w.start.short;
              atoms_is = ap (λ (x : Kept). x.atoms) told ∙ kept_atoms lent map w.start.means k small p d;
              top_is = ap (λ (x : Kept). x.top) told ∙ kept_top lent map w.start.means k small p d;
              summary_is = read ∙ summary_is lent map w.start.means k small p d;
              zeros = w.zeros;
            }

        -- how the search goes on
        module _ (v : Result Look Refusal) (scratch' parts' : Bytes) (post : LookAtPost table_slice label scratch parts v scratch' parts') where
          goes_on : (u : Result Look Refusal) → v ≡ u → search_of lent label scratch₀ parts₀ ≡ looked u k (drop (suc k) map) label skipped scratch' parts'
          goes_on u e =
              left_now ∙ ap (λ (t : Bytes). search_from k (t ∷ drop (suc k) map) label skipped scratch parts) (sym table_told) ∙ post.goes k (drop (suc k) map) skipped
              ∙ ap (λ (x : Result Look Refusal). looked x k (drop (suc k) map) label skipped scratch' parts') e

          pub search_stopped : (refusal : Refusal) → v ≡ Err refusal → search_refused (number_of refusal) k scratch' parts' ≡ search_of lent label scratch₀ parts₀
          unfolding looked
          search_stopped refusal e = sym (goes_on (Err refusal) e)

          pub search_found : v ≡ Ok Match → record { number = 0; verdict = 1; at = k; skipped = skipped; scratch = scratch'; parts = parts' } ≡ search_of lent label scratch₀ parts₀
          unfolding looked
          search_found e = sym (goes_on (Ok Match) e)

          module _ (long : length scratch' ≡ length scratch) (wide : length parts' ≡ length parts) where
            next : (n reach : ℕ) → n ≤ k + 1 → Zeros reach scratch' → search_of lent label scratch₀ parts₀ ≡ search_from (suc k) (drop (suc k) map) label n scratch' parts'
                → Underway lent label scratch₀ parts₀ scratch' parts' (k + 1) (at + r.length) n reach
            next n reach few zeros left =
                let f : suc k ≡ k + 1 = omega arith in
                record {
                  start = w.start;
                  few = omega (arith, small);
                  place = place_next;
                  left = left ∙ ap (λ j. search_from j (drop j map) label n scratch' parts') f;
                  counted = few;
                  zeros = zeros;
                  same_scratch = long ∙ w.same_scratch;
                  same_parts = wide ∙ w.same_parts;
                }

            pub search_passed : (reach : ℕ) → v ≡ Ok (NoMatch reach) → Underway lent label scratch₀ parts₀ scratch' parts' (k + 1) (at + r.length) skipped reach
            unfolding looked
            search_passed reach e = next skipped reach (omega (arith, w.counted)) (rw e at post.zeros) (goes_on (Ok (NoMatch reach)) e)

            pub search_skipped : (reach : ℕ) → v ≡ Ok (RuledOut reach) → Underway lent label scratch₀ parts₀ scratch' parts' (k + 1) (at + r.length) (skipped + 1) reach
            unfolding looked
            search_skipped reach e = next (skipped + 1) reach (omega (arith, w.counted)) (rw e at post.zeros) (goes_on (Ok (RuledOut reach)) e)
