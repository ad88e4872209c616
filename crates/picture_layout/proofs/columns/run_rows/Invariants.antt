use Rattle.std.proofs.Common.{◌≡◌, map, length}
use Rattle.std.specs.List.{range_with_len}
use Rattle.picture_layout.specs.Columns.{row_view, run_row}
use Rattle.picture_layout.proofs.columns.run_rows.Given as goal

abbrev pub invariant-loop-worker : goal.invariant-loop-worker
invariant-loop-worker l =
    (map row_view l.rows.items ≡ map (run_row l.layout.columns l.layout.room l.spans l.count) (range_with_len 0 l.worker)) × (length l.rows.items ≡ l.worker)
