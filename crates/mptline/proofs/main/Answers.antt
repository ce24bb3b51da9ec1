-- `main` meets what `answer_input` requires: the buffers are zeros at first. Assumes nothing.
use mathlib.Core.Path.{refl}
use native.Mathlib.Omega.{arith}
use Rattle.replies.specs.Sizes.{held_limit, scratch_size}
use Rattle.replies.proofs.Zeros.{blank_zero}
use Rattle.lines.specs.Invariant.{NextIn}
use borrow.Author.Rules.{rules}
use Rattle.mptline.proofs.main.Goals as goal

pub answer_input-requires : goal.answer_input-requires
unfolding NextIn
answer_input-requires c =
    record {
      ready = tt;
      tidy = record { line_zero = blank_zero held_limit _ refl; scratch_zero = blank_zero scratch_size _ refl; out_zero = blank_zero 65536 _ refl; input_zero = λ e. blank_zero 65536 _ refl };
      sized = record { input_some = omega arith; line_size = search rules; scratch_full = search rules; out_size = omega arith };
    }
