-- The owner's three demands: the fields of each record say its sentences, in order, and each is given by its theorem. Assumes nothing.
use mathlib.Core.Path.{◌≡◌, refl, ap, ◌∙◌}
use mathlib.Core.Logic.{◌↔◌, ◌⊎◌, inl, inr, ⊎_elim}
use mathlib.Core.List.{List}
use mathlib.Core.Option.{none, some}
use Prim.Native.Nat.{ℕ, ◌*◌, ◌≤◌, ◌<◌}
use native.Mathlib.Omega.{arith}
use lib.ListN.{length}
use lib.Seq.{take-length}
use Rattle.pattern.specs.Numbers.{source_limit, LONG, FORM, CODE, NUMBER, RANGE, ATOMS, DEPTH, ROOM, TABLE, BUDGET}
use Rattle.pattern.specs.Versions.{Version, v2}
use Rattle.pattern.specs.Bytes.{Bytes, overwrite, zeroed}
use Rattle.pattern.specs.Syntax.{pattern, Syntax, size, top_size}
use Rattle.pattern.specs.Parts.{Partition, IsVerdict}
use Rattle.pattern.specs.Trials.{trials, trial_bound}
use Rattle.pattern.specs.Grammar.{Derives}
use Rattle.pattern.specs.Scan.{Outcome, refused, accepted, outcome}
use Rattle.pattern.specs.Within.{Limited}
use Rattle.pattern.specs.Faults.{FormAt, CodeAt, NumberAt, RangeAt, AtomsAt, DepthAt, rows_at, Applies, Least}
use Rattle.pattern.specs.Print.{print}
use Rattle.pattern.specs.Table.{encode}
use Rattle.pattern.specs.Decode.{version_of, decode, Compiles}
use Rattle.pattern.specs.Answers.{refusal, result, Output, compiled, compile_of, written_back, write_of, scratch_needed, part_bytes, lent_fault, match_of, result_bytes, Untouched, shown, MatchNumber}
use Rattle.pattern.proofs.Longest.{partition_satisfies}
use Rattle.pattern.proofs.Bound.{bound}
use Rattle.pattern.proofs.Accepted.{accepted_exactly}
use Rattle.pattern.proofs.Least.{refused_exactly}
use Rattle.pattern.proofs.FormAt.{stops}
use Rattle.pattern.proofs.ByteAt.{code_exactly, number_exactly, depth_exactly}
use Rattle.pattern.proofs.AtomAt.{range_exactly, atoms_exactly}
use Rattle.pattern.proofs.RoundTrip.{accepted_compiles, good_exactly}
use Rattle.pattern.proofs.Calls.{put_fits, put_short, print_accepted, renewed, write_compile, write_compile_same, budgets_agree, within_reports, beyond_reports, verdict_exactly, count_bounded, compile_untouched, write_untouched, match_untouched, match_zeroed, scratch_ignored, compile_accepted, compile_zero, compile_number, write_number, match_number, match_verdict, match_parts}

-- ---- demand 1: any bytes, a verdict or a numbered refusal

pub record Demand1 : Type 0 where
  -- "Any bytes may be handed over", "and every call ends with a verdict or a numbered refusal": 0 or 1 to 8; 0, 8 or 11; 0 or 11 to 15.
  -- "Nobody has to check anything first": no field asks anything of the bytes
  pub compiling_ends : (source table : Bytes) → (compile_of source table).answer.number ≤ ROOM
  pub writing_ends : (table source : Bytes) → let n : ℕ = (write_of table source).answer.number in (n ≡ 0) ⊎ (n ≡ ROOM) ⊎ (n ≡ TABLE)
  pub matching_ends : (table label scratch parts : Bytes) (budget : ℕ) → MatchNumber (match_of table label scratch parts budget).answer.number
  -- "A refused call writes nothing, save one"
  pub compiling_refused : (source table : Bytes) → ¬ ((compile_of source table).answer.number ≡ 0) → (compile_of source table).bytes ≡ table
  pub writing_refused : (table source : Bytes) → ¬ ((write_of table source).answer.number ≡ 0) → (write_of table source).bytes ≡ source
  pub matching_refused : (table label scratch parts : Bytes) (budget : ℕ) → Untouched scratch parts (match_of table label scratch parts budget)
  -- "when the budget runs out, the scratch bytes used are zeroed, as they are after a verdict"
  pub scratch_zeroed : (table label scratch parts : Bytes) (budget : ℕ)
      → ((match_of table label scratch parts budget).answer.number ≡ 0) ⊎ ((match_of table label scratch parts budget).answer.number ≡ BUDGET)
      → (t : Syntax pattern) × (decode table ≡ some t) × ((match_of table label scratch parts budget).scratch ≡ zeroed (scratch_needed t (length label)) scratch)

pub demand_1 : Demand1
demand_1 = record {
  compiling_ends = compile_number;
  writing_ends = write_number;
  matching_ends = match_number;
  compiling_refused = compile_untouched;
  writing_refused = write_untouched;
  matching_refused = match_untouched;
  scratch_zeroed = match_zeroed;
}

-- ---- demand 2: the standard's patterns, and the longest_first cut

pub record Demand2 : Type 0 where
  -- "The compiler accepts exactly the M standard's patterns, less what the paper leaves out and within its limits"
  pub accepts : (source table : Bytes) (t : Syntax pattern) → length source ≤ source_limit → Derives t source → Limited t → length (encode t) ≤ length table
      → compile_of source table ≡ record { answer = result (length (encode t)) 0; bytes = overwrite (encode t) table }
  pub accepts_only : (source table : Bytes) → (compile_of source table).answer.number ≡ 0
      → (t : Syntax pattern) × (length source ≤ source_limit) × Derives t source × Limited t × (length (encode t) ≤ length table)
  -- "and otherwise names the fault and its position": LONG, else the least of the faults that are there, else ROOM;
  -- each fault stands where the bytes say so
  pub names_long : (source table : Bytes) → source_limit < length source → (compile_of source table).answer ≡ refusal LONG source_limit
  pub names : (source table : Bytes) (f p : ℕ) → length source ≤ source_limit → Least source (refused f p) → (compile_of source table).answer ≡ refusal f p
  pub accepted_or_named : (source : Bytes) → length source ≤ source_limit → ((t : Syntax pattern) × Derives t source × Limited t) ⊎ ((f : ℕ) × (p : ℕ) × Least source (refused f p))
  pub names_form : (source : Bytes) (p : ℕ) → p ≤ length source → Applies (rows_at source p) FORM ↔ FormAt source p
  pub names_code : (source : Bytes) (p : ℕ) → Applies (rows_at source p) CODE ↔ CodeAt source p
  pub names_number : (source : Bytes) (p : ℕ) → Applies (rows_at source p) NUMBER ↔ NumberAt source p
  pub names_range : (source : Bytes) (p : ℕ) → Applies (rows_at source p) RANGE ↔ RangeAt source p
  pub names_atoms : (source : Bytes) (p : ℕ) → Applies (rows_at source p) ATOMS ↔ AtomsAt source p
  pub names_depth : (source : Bytes) (p : ℕ) → Applies (rows_at source p) DEPTH ↔ DepthAt source p
  pub names_room : (source table : Bytes) (t : Syntax pattern) → length source ≤ source_limit → Derives t source → Limited t → length table < length (encode t)
      → (compile_of source table).answer ≡ refusal ROOM (length source)
  -- a table is good exactly if some source compiles to it by the limits of a version: "Version 1 tables are still taken, good by the old limits"
  pub tables_exactly : (table : Bytes) (t : Syntax pattern) → (decode table ≡ some t) ↔ ((v : Version) × (source : Bytes) × Compiles v source t table)
  -- "A table written back as source compiles to that same table"; "amending demand 2", a version 1 table gives "the version 2 table of the same pattern"
  pub writes_back : (table source : Bytes) (t : Syntax pattern) → decode table ≡ some t → length (print t) ≤ length source
      → write_of table source ≡ record { answer = result (length (print t)) 0; bytes = overwrite (print t) source }
  pub written_compiles : (table source room : Bytes) → version_of table ≡ v2 → (write_of table source).answer.number ≡ 0 → length table ≤ length room
      → compile_of (result_bytes (write_of table source)) room ≡ record { answer = result (length table) 0; bytes = overwrite table room }
  pub written_renews : (table source room : Bytes) (t : Syntax pattern) → decode table ≡ some t → (write_of table source).answer.number ≡ 0 → length (encode t) ≤ length room
      → compile_of (result_bytes (write_of table source)) room ≡ record { answer = result (length (encode t)) 0; bytes = overwrite (encode t) room }
  pub same_pattern : (table : Bytes) (t : Syntax pattern) → decode table ≡ some t → (decode (encode t) ≡ some t) × Compiles v2 (print t) t (encode t)
  -- "The verdict is yes exactly when the standard's partition of the label exists"
  pub yes_exactly : (table label scratch parts : Bytes) (t : Syntax pattern) → decode table ≡ some t → lent_fault t label scratch parts ≡ none → (budget : ℕ) → trials label t ≤ budget
      → ((match_of table label scratch parts budget).answer.value ≡ 1) ↔ ((ends : List ℕ) × Partition label t 0 ends)
  -- "and the parts shown are the longest_first one: the first atom takes as much as any partition gives it, then the second, and so on"
  pub longest_first : (table label scratch parts : Bytes) (t : Syntax pattern) → decode table ≡ some t → lent_fault t label scratch parts ≡ none → (budget : ℕ) → trials label t ≤ budget
      → (match_of table label scratch parts budget).answer.value ≡ 1
      → (ends : List ℕ) × IsVerdict label t (some ends) × (length (part_bytes ends) ≡ 2 * top_size t) × ((match_of table label scratch parts budget).parts ≡ overwrite (part_bytes ends) parts)

named : (source table : Bytes) (f p : ℕ) → outcome source ≡ refused f p → (compile_of source table).answer ≡ refusal f p
unfolding compile_of compiled
named source table f p e = ap (λ o. (compiled o source table).answer) e

room_named : (source table : Bytes) (t : Syntax pattern) → length source ≤ source_limit → Derives t source → Limited t → length table < length (encode t)
    → (compile_of source table).answer ≡ refusal ROOM (length source)
unfolding compile_of compiled
room_named source table t l h g r =
    ap (λ o. (compiled o source table).answer) ((accepted_exactly source t).1 (l, h, g)) ∙ ap (λ (o : Output). o.answer) (put_short (length source) (encode t) table r)

written_whole : (table source : Bytes) (t : Syntax pattern) → decode table ≡ some t → length (print t) ≤ length source
    → write_of table source ≡ record { answer = result (length (print t)) 0; bytes = overwrite (print t) source }
unfolding write_of written_back
written_whole table source t d h = ap (λ o. written_back o source) d ∙ put_fits 0 (print t) source h

accepted_or_least : (source : Bytes) → length source ≤ source_limit → (o : Outcome) → outcome source ≡ o → ((t : Syntax pattern) × Derives t source × Limited t) ⊎ ((f : ℕ) × (p : ℕ) × Least source (refused f p))
accepted_or_least source l (accepted t) e = let (x, h, g) = (accepted_exactly source t).0 e in inl (t, h, g)
accepted_or_least source l (refused f p) e = inr (f, p, ⊎_elim (λ (h, x, y). absurd (omega arith)) (λ (h, x). x) ((refused_exactly source f p).0 e))

partition_exists : (table label scratch parts : Bytes) (t : Syntax pattern) → decode table ≡ some t → lent_fault t label scratch parts ≡ none → (budget : ℕ) → trials label t ≤ budget
    → ((match_of table label scratch parts budget).answer.value ≡ 1) ↔ ((ends : List ℕ) × Partition label t 0 ends)
unfolding IsVerdict
partition_exists table label scratch parts t good lent budget h = (
  λ e. let (ends, m, x, y) = match_parts table label scratch parts t good lent budget h e in (ends, m.0),
  λ (ends, p). (match_verdict table label scratch parts t good lent budget h).1 (rw take-length at (partition_satisfies label t 0 ends p)),
)

pub demand_2 : Demand2
demand_2 = record {
  accepts = compile_accepted;
  accepts_only = compile_zero;
  names_long = λ source table h. named source table LONG source_limit ((refused_exactly source LONG source_limit).1 (inl (h, refl, refl)));
  names = λ source table f p l h. named source table f p ((refused_exactly source f p).1 (inr (l, h)));
  accepted_or_named = λ source l. accepted_or_least source l (outcome source) refl;
  names_form = stops;
  names_code = code_exactly;
  names_number = number_exactly;
  names_range = range_exactly;
  names_atoms = atoms_exactly;
  names_depth = depth_exactly;
  names_room = room_named;
  tables_exactly = good_exactly;
  writes_back = written_whole;
  written_compiles = write_compile_same;
  written_renews = write_compile;
  same_pattern = λ table t d. (renewed table t d, accepted_compiles (print t) t (print_accepted table t d));
  yes_exactly = partition_exists;
  longest_first = match_parts;
}

-- ---- demand 3: trials and budgets

-- "For every good table of A atoms and every label of n bytes", "where no other refusal of these papers applies to the call"
pub record Demand3 (table label scratch parts : Bytes) (t : Syntax pattern) (good : decode table ≡ some t) (lent : lent_fault t label scratch parts ≡ none) : Type 0 where
  -- "whatever bytes the scratch held before"
  pub any_scratch : (other : Bytes) (budget : ℕ) → length scratch ≡ length other → shown (match_of table label scratch parts budget) ≡ shown (match_of table label other parts budget)
  -- "however groups nest, whatever the repeat numbers", "the match makes at most A x (n+1) x (n+1) x (n+2) x (n+3) / 6 trials"
  pub makes_at_most : trials label t ≤ trial_bound (size t) (length label)
  pub at_most : (budget : ℕ) → (match_of table label scratch parts budget).answer.trials ≤ trial_bound (size t) (length label)
  -- "The number reported with a verdict is the count that the paper defines for that table and label"
  pub reported : (budget : ℕ) → (match_of table label scratch parts budget).answer.number ≡ 0 → (match_of table label scratch parts budget).answer.trials ≡ trials label t
  -- "A verdict is given exactly when that count is within the caller's budget"
  pub exactly_within : (budget : ℕ) → ((match_of table label scratch parts budget).answer.number ≡ 0) ↔ (trials label t ≤ budget)
  -- "otherwise the answer is refusal 15, which reports the budget"
  pub otherwise : (budget : ℕ) → budget < trials label t → (match_of table label scratch parts budget).answer ≡ record { number = BUDGET; position = 0; value = 0; trials = budget }
  -- "Every other budget that the count is within gives the same verdict, the same parts written and the same number reported"
  pub every_other : (b c : ℕ) → trials label t ≤ b → trials label t ≤ c → match_of table label scratch parts b ≡ match_of table label scratch parts c
  -- "A budget of that bound is always enough"
  pub bound_suffices : (budget : ℕ) → trial_bound (size t) (length label) ≤ budget → (match_of table label scratch parts budget).answer.number ≡ 0

module _ (table label scratch parts : Bytes) (t : Syntax pattern) (good : decode table ≡ some t) (lent : lent_fault t label scratch parts ≡ none) where
  pub demand_3 : Demand3 table label scratch parts t good lent
  demand_3 = record {
    any_scratch = λ other budget e. scratch_ignored table label scratch other parts budget e;
    makes_at_most = bound label t;
    at_most = count_bounded table label scratch parts t good lent;
    reported = λ budget e. within_reports table label scratch parts t good lent budget ((verdict_exactly table label scratch parts t good lent budget).0 e);
    exactly_within = verdict_exactly table label scratch parts t good lent;
    otherwise = beyond_reports table label scratch parts t good lent;
    every_other = budgets_agree table label scratch parts t good lent;
    bound_suffices = λ budget h. (verdict_exactly table label scratch parts t good lent budget).1 (omega (arith, bound label t));
  }
