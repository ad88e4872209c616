use Rattle.std.proofs.Common.{◌≡◌, map}
use Rattle.std.specs.List.{range_with_len}
use Rattle.picture_layout.specs.Columns.{column, out_height}
use Rattle.picture_layout.proofs.columns.out_heights.Given as goal

abbrev pub invariant-loop-place : goal.invariant-loop-place
invariant-loop-place l = l.heights.items ≡ map (λ p. out_height l.top (column l.columns.size l.levels p)) (range_with_len 0 l.place)
