-- What each call answers and leaves, by what the lent bytes mean. Assumes nothing.
use mathlib.Core.Path.{◌≡◌, refl, sym, ap, ◌∙◌}
use mathlib.Core.Logic.{◌↔◌}
use mathlib.Core.Bool.{true, false}
use mathlib.Core.List.{[]}
use mathlib.Core.Option.{Option, none, some}
use Prim.Native.Nat.{ℕ, ◌+◌, ◌*◌, ◌≤◌, ◌<◌}
use native.Mathlib.Omega.{arith}
use borrow.Author.Tests.{lt-ltb, le-ltb}
use lib.ListN.{length, drop, set, length-append}
use Rattle.pattern.specs.Numbers.{TABLE, FULL, REGISTER, MISSING}
use Rattle.pattern.specs.Versions.{table_room}
use Rattle.pattern.specs.Bytes.{Bytes, overwrite}
use Rattle.pattern.specs.Scan.{refuse}
use Rattle.pattern.specs.Answers.{MatchOutput, untried, ended, match_of}
use Rattle.pattern.proofs.Stores.{length_overwrite, drop_overwrite}
use Rattle.pattern.proofs.Tests.{if_true, if_false}
use Rattle.register.specs.Maps.{numbers, Map, table_of, empty, total, is_table, missing, Changed, change, store_in, remove_in, match_in}
use Rattle.register.specs.Layout.{laid_out, overhead, capacity, register_of, Proper, Meant, table_count}
use Rattle.register.specs.Register.{init_of, in_register, store_of, remove_of, match_number_of}
use Rattle.register.proofs.Maps.{none_allowed, table_allowed, proper_set, proper_empty, total_removed, total_empty, total_bounded, count_bounded}
use Rattle.register.proofs.Cases.{store_bad, store_full, store_done, store_cases, remove_missing, remove_cases}
use Rattle.register.proofs.Meaning.{length_laid_out, meant, laid}

-- the tables that lent bytes mean are within them
pub meant_within : (lent : Bytes) (m : Map) → register_of lent ≡ some m → overhead + total m ≤ length lent
unfolding overwrite
meant_within lent m e =
    let h = meant lent m e in
    omega (arith, ap length h.bytes, length-append (laid_out m) (drop (length (laid_out m)) lent), length_laid_out m h.proper)

-- a plain map's answer, and as many lent bytes as before, which mean what it became: those behind the last table are as they were, and a refusal leaves each
pub record Follows (lent : Bytes) (c : Changed Map) (o : Changed Bytes) : Type 0 where
  pub number : o.number ≡ c.number
  pub means : register_of o.after ≡ some c.after
  pub long : length o.after ≡ length lent
  pub behind : drop (overhead + total c.after) o.after ≡ drop (overhead + total c.after) lent
  pub refused_leaves : ¬ (c.number ≡ 0) → o.after ≡ lent

laid_follows : (lent : Bytes) (c : Changed Map) → Proper c.after → overhead + total c.after ≤ length lent → (¬ (c.number ≡ 0) → overwrite (laid_out c.after) lent ≡ lent)
    → Follows lent c (record { number = c.number; after = overwrite (laid_out c.after) lent })
laid_follows lent c p h r =
    let n : length (laid_out c.after) ≡ overhead + total c.after = length_laid_out c.after p in
    record {
      number = refl;
      means = laid c.after lent p;
      long = length_overwrite (laid_out c.after) lent (omega (arith, n));
      behind = drop_overwrite (overhead + total c.after) (laid_out c.after) lent (omega (arith, n));
      refused_leaves = r;
    }

-- "start empty", whatever the bytes are
pub init_follows : (lent : Bytes) → overhead ≤ length lent → Follows lent (record { number = 0; after = empty }) (init_of lent)
unfolding init_of change refuse
init_follows lent h =
    rw (le-ltb (length lent) overhead h) (laid_follows lent (record { number = 0; after = empty }) proper_empty (omega (arith, total_empty, h)) (λ n. absurd (n refl)))

-- ---- a buffer that means no map

pub short_means_none : (lent : Bytes) → length lent < overhead → register_of lent ≡ none
short_means_none lent h = go (register_of lent) refl
  where
    go : (o : Option Map) → register_of lent ≡ o → register_of lent ≡ none
    go none e = e
    go (some m) e = absurd (omega (arith, meant_within lent m e))

-- a match by what the lent bytes mean
abbrev by_meaning : (k : ℕ) (label scratch parts : Bytes) (budget : ℕ) → Option Map → MatchOutput
by_meaning k label scratch parts budget o = elim o [ none ↦ ended (untried REGISTER) scratch parts | some m ↦ match_in m k label scratch parts budget ]

-- "refused with 18 by all calls but starting empty"
module _ (lent : Bytes) (e : register_of lent ≡ none) (k : ℕ) where
  pub store_refused : (t : Bytes) → store_of lent k t ≡ record { number = REGISTER; after = lent }
  unfolding store_of in_register
  store_refused t = rw e

  pub remove_refused : remove_of lent k ≡ record { number = REGISTER; after = lent }
  unfolding remove_of in_register
  remove_refused = rw e

  pub match_refused : (label scratch parts : Bytes) (budget : ℕ) → match_number_of lent k label scratch parts budget ≡ ended (untried REGISTER) scratch parts
  unfolding match_number_of
  match_refused label scratch parts budget = ap (by_meaning k label scratch parts budget) e

-- "a shorter buffer is refused with 18, by every call": starting empty too
pub init_refused : (lent : Bytes) → length lent < overhead → init_of lent ≡ record { number = REGISTER; after = lent }
unfolding init_of change refuse
init_refused lent h = rw (lt-ltb (length lent) overhead h)

-- ---- a buffer that means a map

-- a map that a plain map may become: proper, and within the capacity; a refusal changes nothing
record Becomes (lent : Bytes) (m : Map) (c : Changed Map) : Type 0 where
  pub proper : Proper c.after
  pub fits : overhead + total c.after ≤ length lent
  pub refused_same : ¬ (c.number ≡ 0) → c.after ≡ m

module _ (lent : Bytes) (m : Map) (e : register_of lent ≡ some m) where
  abbrev meaning : Meant lent m
  meaning = meant lent m e

  follows : (call : Map → Changed Map) → Becomes lent m (call m) → Follows lent (call m) (in_register (register_of lent) call lent)
  unfolding in_register
  follows call a = rw e (laid_follows lent (call m) a.proper a.fits (λ n. ap (λ (x : Map). overwrite (laid_out x) lent) (a.refused_same n) ∙ sym meaning.bytes))

  refusal_becomes : (n : ℕ) → Becomes lent m (record { number = n; after = m })
  refusal_becomes n = record { proper = meaning.proper; fits = meant_within lent m e; refused_same = λ f. refl }

  module _ (k : ℕ) where
    pub store_follows : (t : Bytes) → Follows lent (store_in (capacity lent) m k t) (store_of lent k t)
    unfolding store_of
    store_follows t =
        follows (λ m. store_in (capacity lent) m k t) (store_cases (capacity lent) m k t (Becomes lent m) (λ g. refusal_becomes _) (λ g r. refusal_becomes _)
        (λ g r. record { proper = proper_set m k t meaning.proper (table_allowed t g); fits = omega (arith, r, meant_within lent m e); refused_same = λ f. absurd (f refl) }))

    pub remove_follows : Follows lent (remove_in m k) (remove_of lent k)
    unfolding remove_of
    remove_follows =
        follows (λ m. remove_in m k) (remove_cases m k (Becomes lent m) (λ n. refusal_becomes _)
        (λ n. record { proper = proper_set m k [] meaning.proper none_allowed; fits = omega (arith, total_removed m k, meant_within lent m e); refused_same = λ f. absurd (f refl) }))

    pub match_follows : (label scratch parts : Bytes) (budget : ℕ) → match_number_of lent k label scratch parts budget ≡ match_in m k label scratch parts budget
    unfolding match_number_of
    match_follows label scratch parts budget = ap (by_meaning k label scratch parts budget) e

    -- a match by number is a match against that number's table
    pub match_means : missing m k ≡ false → (label scratch parts : Bytes) (budget : ℕ) → match_number_of lent k label scratch parts budget ≡ match_of (table_of m k) label scratch parts budget
    unfolding match_in
    match_means n label scratch parts budget = match_follows label scratch parts budget ∙ if_false (missing m k) _ _ n

    -- "A missing number is 19", before matching's own refusals
    pub match_missing : missing m k ≡ true → (label scratch parts : Bytes) (budget : ℕ) → match_number_of lent k label scratch parts budget ≡ ended (untried MISSING) scratch parts
    unfolding match_in
    match_missing n label scratch parts budget = match_follows label scratch parts budget ∙ if_true (missing m k) _ _ n

    -- a store that isn't refused leaves the map with that table, and a removal without one
    pub store_means : (t : Bytes) → (store_of lent k t).number ≡ 0 → register_of (store_of lent k t).after ≡ some (set m k t)
    store_means t z =
        let f = store_follows t in
        f.means ∙ ap some (store_cases (capacity lent) m k t (λ c. c.number ≡ 0 → c.after ≡ set m k t) (λ g e. absurd (omega arith)) (λ g r e. absurd (omega arith)) (λ g r e. refl) (sym f.number ∙ z))

    pub remove_means : (remove_of lent k).number ≡ 0 → register_of (remove_of lent k).after ≡ some (set m k [])
    remove_means z =
        let f = remove_follows in
        f.means ∙ ap some (remove_cases m k (λ c. c.number ≡ 0 → c.after ≡ set m k []) (λ n e. absurd (omega arith)) (λ n e. refl) (sym f.number ∙ z))

    -- 11 just for what is no table
    pub bad_exactly : (t : Bytes) → ((store_of lent k t).number ≡ TABLE) ↔ (is_table t ≡ false)
    bad_exactly t =
        let n = (store_follows t).number in (
          λ f. store_cases (capacity lent) m k t (λ c. c.number ≡ TABLE → is_table t ≡ false) (λ g z. g) (λ g r z. absurd (omega arith)) (λ g r z. absurd (omega arith)) (sym n ∙ f),
          λ g. n ∙ ap (λ (c : Changed Map). c.number) (store_bad (capacity lent) m k t g),
        )

    -- "A store is refused with 17 exactly when the lengths of all tables then kept would exceed capacity", and 11 comes before it
    pub full_exactly : (t : Bytes) → ((store_of lent k t).number ≡ FULL) ↔ ((is_table t ≡ true) × (capacity lent < total (set m k t)))
    full_exactly t =
        let n = (store_follows t).number in (
          λ f. store_cases (capacity lent) m k t (λ c. c.number ≡ FULL → (is_table t ≡ true) × (capacity lent < total (set m k t))) (λ g z. absurd (omega arith)) (λ g r z. (g, r)) (λ g r z. absurd (omega arith)) (sym n ∙ f),
          λ (g, r). n ∙ ap (λ (c : Changed Map). c.number) (store_full (capacity lent) m k t g r),
        )

    -- "A missing number is 19"
    pub missing_exactly : ((remove_of lent k).number ≡ MISSING) ↔ (missing m k ≡ true)
    missing_exactly =
        let n = remove_follows.number in (
          λ f. remove_cases m k (λ c. c.number ≡ MISSING → missing m k ≡ true) (λ h z. h) (λ h z. absurd (omega arith)) (sym n ∙ f),
          λ h. n ∙ ap (λ (c : Changed Map). c.number) (remove_missing m k h),
        )

    -- a buffer with room for as many of the longest tables as are then kept is never full
    pub roomy : (t : Bytes) → is_table t ≡ true → overhead + table_room * table_count (set m k t) ≤ length lent → (store_of lent k t).number ≡ 0
    roomy t g r =
        let n = total_bounded (set m k t) (proper_set m k t meaning.proper (table_allowed t g)).each in
        (store_follows t).number ∙ ap (λ (c : Changed Map). c.number) (store_done (capacity lent) m k t g (omega (arith, n, r)))

    -- and one with room for all numbers never
    pub never_full : (t : Bytes) → is_table t ≡ true → overhead + table_room * numbers ≤ length lent → (store_of lent k t).number ≡ 0
    never_full t g r =
        let p = proper_set m k t meaning.proper (table_allowed t g) in
        roomy t g (omega (arith, count_bounded (set m k t), p.count, r))
