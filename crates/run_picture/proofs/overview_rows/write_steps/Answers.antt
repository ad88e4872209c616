use Rattle.std.proofs.lemmas.Option.{slice_get-get_or}
use Rattle.run_picture.specs.Overview.{step_text}
use Rattle.run_picture.proofs.Next.{adds_at}
use Rattle.run_picture.proofs.overview_rows.write_steps.Goals as goal

pub loop-place-preserved : goal.loop-place-preserved
loop-place-preserved g c =
    adds_at (step_text c.args.foot) c.args.heights.now c.loop-place.place _ (slice_get-get_or c.args.heights.now c.loop-place.place _ c.loop-place-test.true)
    c.loop-place.invariant c.write_step.ensures
