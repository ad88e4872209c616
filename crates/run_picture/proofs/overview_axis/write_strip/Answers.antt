use Rattle.std.proofs.Common.{◌+◌, arith}
use Rattle.run_picture.specs.Overview.{band_text}
use Rattle.picture_layout.specs.Panels.{panel_view}
use Rattle.run_picture.proofs.Next.{adds_viewed}
use Rattle.run_picture.proofs.overview_axis.write_strip.Goals as goal

pub loop-place-preserved : goal.loop-place-preserved
loop-place-preserved g c =
    adds_viewed panel_view (band_text c.args.size) 1 c.args.panels.now c.loop-place.place (c.loop-place.place + 1) c.index-panels-place.result (omega arith)
    c.loop-place-test.true c.index-panels-place.is c.loop-place.invariant c.write_band.ensures
