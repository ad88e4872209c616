use Rattle.run_picture.specs.Axis.{row_text}
use Rattle.run_picture.proofs.Ranges.{adds_counted}
use Rattle.run_picture.proofs.axis.write_each_row.Goals as goal

pub loop-worker-preserved : goal.loop-worker-preserved
loop-worker-preserved g c = adds_counted (row_text c.args.layout.now) c.loop-worker.worker c.loop-worker.invariant c.write_row.ensures
