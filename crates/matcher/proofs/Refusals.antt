-- The refusals of a match from 11 to 14, in order, and what holds where none applies. Assumes nothing.
use mathlib.Core.Path.{◌≡◌, sym, ap}
use mathlib.Core.Option.{Option, none, some}
use Prim.Native.Nat.{ℕ, ◌+◌, ◌*◌, ◌≤◌, ◌<◌}
use native.Mathlib.Omega.{arith}
use borrow.Author.Tests.{lt-ltb, le-ltb}
use lib.ListN.{length}
use Rattle.pattern.specs.Numbers.{atom_limit, label_limit, LABEL, WORK, PARTS}
use Rattle.pattern.specs.Bytes.{Bytes}
use Rattle.pattern.specs.Syntax.{top_size}
use Rattle.pattern.specs.Parts.{verdict}
use Rattle.pattern.specs.Trials.{trials}
use Rattle.pattern.specs.Scan.{refuse}
use Rattle.pattern.specs.Decode.{tree_of, decode}
use Rattle.pattern.specs.Answers.{scratch_needed, lent_fault, ended, ending, match_ending, match_of}
use Rattle.pattern.proofs.Rooms.{top_le}
use Rattle.table.specs.declared.Sizes.{Sizes}
use Rattle.std.specs.Prelude.{None, Some}
use Rattle.table.specs.Tested.{tested}
use Rattle.atoms.proofs.Goods.{GoodSizes, tested_good, tested_bad}
use Rattle.matcher.specs.Answered.{MatchPost}
use Rattle.matcher.specs.Run.{RunPre, unrefused}
use Rattle.std.specs.Prelude.{Err}
use Rattle.pattern.specs.declared.refusal.Refusal.TheVariants.{Table, Label, Work, Parts}

pub bad_table : (table label scratch parts : Bytes) (budget : ℕ) → None ≡ tested (decode table) → MatchPost table label scratch parts budget (Err Table) scratch parts
unfolding match_of match_ending ended
bad_table table label scratch parts budget e = sym (ap (λ o. ended (match_ending o label scratch parts budget) scratch parts) (tested_bad table e))

module _ (table : Bytes) where
  module _ (s : Sizes) (e : Some s ≡ tested (decode table)) where
    told : GoodSizes table s
    told = tested_good table s e

    pub few_atoms : s.atoms ≤ atom_limit
    few_atoms = omega (arith, told.atoms_is, told.few)

    pub few_tops : s.top ≤ atom_limit
    few_tops = omega (arith, told.top_is, told.few, top_le (tree_of table))

    module _ (label scratch parts : Bytes) (budget : ℕ) where
      faulted : (o : Option ℕ) → lent_fault (tree_of table) label scratch parts ≡ o
          → ended (ending o (scratch_needed (tree_of table) (length label)) (trials label (tree_of table)) budget (verdict label (tree_of table))) scratch parts ≡ match_of table label scratch parts budget
      unfolding match_of match_ending
      faulted o f = sym (rw (told.good.decoded, f))

      work_is : scratch_needed (tree_of table) (length label) ≡ (2 * s.atoms + 4) * (length label + 1) * (length label + 1)
      work_is = ap (λ (k : ℕ). (2 * k + 4) * (length label + 1) * (length label + 1)) (sym told.atoms_is)

      pub long_label : label_limit < length label → MatchPost table label scratch parts budget (Err Label) scratch parts
      unfolding lent_fault refuse ending ended
      long_label h = faulted (some LABEL) (rw (lt-ltb label_limit (length label) h))

      module _ (h : length label ≤ label_limit) where
        pub little_work : length scratch < (2 * s.atoms + 4) * (length label + 1) * (length label + 1) → MatchPost table label scratch parts budget (Err Work) scratch parts
        unfolding lent_fault refuse ending ended
        little_work k =
            let l : length scratch < scratch_needed (tree_of table) (length label) = rw work_is k in
            faulted (some WORK) (rw (le-ltb label_limit (length label) h, lt-ltb (length scratch) (scratch_needed (tree_of table) (length label)) l))

        module _ (k : (2 * s.atoms + 4) * (length label + 1) * (length label + 1) ≤ length scratch) where
          room : scratch_needed (tree_of table) (length label) ≤ length scratch
          room = rw work_is k

          pub few_parts : length parts < 2 * s.top → MatchPost table label scratch parts budget (Err Parts) scratch parts
          unfolding lent_fault refuse ending ended
          few_parts m =
              let l : length parts < 2 * top_size (tree_of table) = rw (← told.top_is) m in
              faulted (some PARTS) (rw (le-ltb label_limit (length label) h, le-ltb (length scratch) (scratch_needed (tree_of table) (length label)) room, lt-ltb (length parts) (2 * top_size (tree_of table)) l))

          module _ (m : 2 * s.top ≤ length parts) where
            fits : 2 * top_size (tree_of table) ≤ length parts
            fits = rw (← told.top_is) m

            pub all_lent : RunPre table label scratch parts s.atoms
            all_lent = record { good = told.good; counted = told.atoms_is; short = h; room = room; fits = fits }

            pub no_fault : ended (unrefused table label budget) scratch parts ≡ match_of table label scratch parts budget
            unfolding lent_fault refuse ending
            no_fault = faulted none (rw (le-ltb label_limit (length label) h, le-ltb (length scratch) (scratch_needed (tree_of table) (length label)) room, le-ltb (length parts) (2 * top_size (tree_of table)) fits))
