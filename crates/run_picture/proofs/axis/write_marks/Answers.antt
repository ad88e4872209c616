use Rattle.std.proofs.Common.{◌+◌, arith}
use Rattle.run_picture.specs.Axis.{nth_mark}
use Rattle.run_picture.proofs.Ranges.{adds_ranged}
use Rattle.run_picture.proofs.axis.write_marks.Goals as goal

pub loop-step-preserved : goal.loop-step-preserved
loop-step-preserved g c =
    adds_ranged (nth_mark c.args.layout.now) c.args.from c.loop-step.step (c.from.result + c.from-in-loop-step.result) (omega (arith, c.from-in-loop-step.ensures, c.from.ensures)) c.loop-step.invariant c.write_nth_mark.ensures
