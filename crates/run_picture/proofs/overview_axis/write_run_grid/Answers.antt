use Rattle.std.proofs.Common.{ℕ, ◌+◌, ◌*◌, arith}
use Rattle.run_picture.specs.Overview.{run_mark, run_distance}
use Rattle.run_picture.proofs.Ranges.{adds_ranged}
use Rattle.run_picture.proofs.overview_axis.write_run_grid.Goals as goal

pub loop-place-preserved : goal.loop-place-preserved
loop-place-preserved g c =
    adds_ranged (λ (i : ℕ). run_mark c.args.size c.args.right c.args.bottom (i * run_distance c.args.size)) 1 c.loop-place.place (c.from.result + 1) (omega (arith, c.from.ensures))
    c.loop-place.invariant c.write_nth_mark.ensures
