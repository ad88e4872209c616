use Rattle.std.proofs.Common.{◌≡◌, ◌-◌, ◌≤◌, length, map}
use Rattle.std.specs.List.{range_with_len}
use Rattle.std.specs.Simd.Lanes.{mask_l}
use Rattle.item_actions.specs.Bytes.{agrees}
use Rattle.item_actions.proofs.places.count_in_block.Given as goal

abbrev pub invariant-loop-places : goal.invariant-loop-places
invariant-loop-places l = record {
  within : l.agreed ≤ length l.needle;
  mask : l.places ≡ mask_l (map (agrees l.bytes l.needle l.agreed) (range_with_len l.at 32));
}

abbrev pub decreases-loop-places : goal.decreases-loop-places
decreases-loop-places l = length l.initial.needle - l.agreed
