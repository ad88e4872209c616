-- What the whole run above the panels shows.
use Rattle.std.specs.Prelude.{ℕ, ◌≡◌, ◌-◌, List, map, length}
use Rattle.history_text.specs.declared.read_histories.History.{History}
use Rattle.run_spans.specs.declared.levels.Level.{Level}
use Rattle.run_spans.specs.declared.spans.Span.{Span}
use Rattle.picture_layout.specs.Columns.{columns_of, by_column, out_height, queue_height, RunRowView, row_view, run_rows}
use Rattle.picture_layout.specs.Layout.{run_row_height}
use Rattle.picture_layout.specs.Totals.{peaks_of, queue_scale}
use Rattle.picture_layout.specs.declared.columns.Columns.{Columns}
use Rattle.picture_layout.specs.declared.overview.Overview.{Overview}
use Rattle.picture_layout.specs.declared.totals.Peaks.{Peaks}

-- what it shows
pub record RunView : Type 0 where
  pub columns : Columns
  pub out : List ℕ
  pub queued : List ℕ
  pub rows : List RunRowView

abbrev pub run_view : Overview → RunView
run_view o = record { columns = o.columns; out = o.out.items; queued = o.queued.items; rows = map row_view o.rows.items }

abbrev pub run_of : ℕ → Peaks → List Level → List Span → ℕ → RunView
run_of workers peaks levels spans count = record {
  columns = columns_of count;
  out = by_column (columns_of count) (out_height peaks.out) levels;
  queued = by_column (columns_of count) (queue_height (queue_scale peaks)) levels;
  rows = run_rows (columns_of count) (run_row_height workers - 2) workers spans count;
}

-- it is that of a history, by its levels and its spans
abbrev pub IsOverview : History → List Level → List Span → Overview → Type 0
IsOverview h levels spans o = run_view o ≡ run_of h.workers (peaks_of levels) levels spans (length h.entries.items)
