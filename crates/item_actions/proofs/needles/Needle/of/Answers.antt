use Rattle.std.proofs.Common.{length, drop, replicate, ◌++◌, subst, sym, arith}
use Rattle.item_actions.specs.Needles.{IsPadded}
use Rattle.item_actions.proofs.Padding.{copied_in}
use Rattle.item_actions.proofs.needles.Needle.of.Goals as goal

pub invariant_of-result : goal.invariant_of-result
invariant_of-result c = subst (λ b. IsPadded record { bytes = b ++ drop (length c.args.bytes.now) (replicate 64 0); len = length c.args.bytes.now }) (sym c.copy_from_slice.ensures.after) (copied_in c.args.bytes.now (omega arith) (omega arith))
