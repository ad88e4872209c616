use Rattle.std.proofs.Common.{◌+◌, arith}
use Rattle.std.proofs.lemmas.Option.{slice_get-get_or}
use Rattle.history_text.proofs.lemmas.Numbering.{adds_next}
use Rattle.run_picture.specs.Curve.{queue_stair}
use Rattle.run_picture.proofs.curve.write_queue.Goals as goal

pub loop-place-preserved : goal.loop-place-preserved
loop-place-preserved g c =
    adds_next (queue_stair c.args.layout.now c.args.most) c.args.layout.now.first c.args.levels.now c.loop-place.place (c.from.result + c.loop-place.place) _ (omega (arith, c.from.ensures))
    (slice_get-get_or c.args.levels.now c.loop-place.place _ c.loop-place-test.true) c.loop-place.invariant c.write_queue_step.ensures
