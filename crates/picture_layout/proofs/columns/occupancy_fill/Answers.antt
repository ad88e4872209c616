use Rattle.std.proofs.Common.{length, ap, arith}
use Rattle.std.proofs.lemmas.List.FromFn.{length-map-range_with_len}
use Rattle.picture_layout.specs.Occupancy.{stands_after}
use Rattle.picture_layout.proofs.columns.occupancy_fill.Goals as goal

pub fill_of-requires : goal.fill_of-requires
fill_of-requires c =
    record {
      few = omega (arith, ap length c.deref.ensures.value, ap length c.in_ok-held.ensures, length-map-range_with_len (stands_after c.args.occupancy c.args.worker c.args.spans.now) 1 c.args.count, c.requires.few);
    }
