-- The columns of the overview: 297 at most, 4 px wide each, of so many entries each that all fit beside each other.
use Rattle.std.specs.Prelude.{ℕ, ◌*◌, ◌/◌, max, Bool, List, map, length, take, drop, count_by}
use Rattle.std.specs.List.{range_with_len}
use Rattle.run_spans.specs.declared.levels.Level.{Level}
use Rattle.run_spans.specs.declared.spans.Span.{Span}
use Rattle.picture_layout.specs.Layout.{ceil_div, curve_height}
use Rattle.picture_layout.specs.Occupancy.{standing}
use Rattle.picture_layout.specs.Totals.{most_queued, total_out}
use Rattle.picture_layout.specs.declared.columns.Columns.{Columns}
use Rattle.picture_layout.specs.declared.columns.Fill.{Fill}
use Rattle.picture_layout.specs.declared.columns.RunRow.{RunRow}
use Rattle.picture_layout.specs.declared.occupancy.Occupancy.TheVariants.{Leased, Engaged}

-- how many entries a column has
abbrev pub column_size : ℕ → ℕ
column_size count = max (ceil_div count 297) 1

abbrev pub columns_of : ℕ → Columns
columns_of count = record { size = column_size count; number = ceil_div count (column_size count) }

-- those of a column, counted from 0, of one for each entry
abbrev pub column : {X : Type 0} → ℕ → List X → ℕ → List X
column size xs c = take size (drop (c * size) xs)

-- the mean of the leases out, and the most units queued, of a column's entries, 48 px up
abbrev pub out_height : ℕ → List Level → ℕ
out_height top levels = curve_height (total_out levels) (max (length levels * top) 1)

abbrev pub queue_height : ℕ → List Level → ℕ
queue_height most levels = curve_height (most_queued levels) most

-- in how many of a column's entries something stands, of so many px
abbrev pub held_height : ℕ → List Bool → ℕ
held_height room held = room * count_by (λ b. b) held / max (length held) 1

-- how high each column of a row is filled, and after how many entries it stands
pub record FillView : Type 0 where
  pub heights : List ℕ
  pub entries : ℕ

abbrev pub fill_view : Fill → FillView
fill_view f = record { heights = f.heights.items; entries = f.entries }

-- of each column, in order
abbrev pub by_column : {X : Type 0} → Columns → (List X → ℕ) → List X → List ℕ
by_column cs height xs = map (λ c. height (column cs.size xs c)) (range_with_len 0 cs.number)

abbrev pub fill_of : Columns → ℕ → List Bool → FillView
fill_of cs room held = record { heights = by_column cs (held_height room) held; entries = count_by (λ b. b) held }

-- what the row of a worker shows
pub record RunRowView : Type 0 where
  pub leased : FillView
  pub engaged : FillView

abbrev pub row_view : RunRow → RunRowView
row_view r = record { leased = fill_view r.leased; engaged = fill_view r.engaged }

abbrev pub run_row : Columns → ℕ → List Span → ℕ → ℕ → RunRowView
run_row cs room spans count w = record {
  leased = fill_of cs room (standing Leased w spans count);
  engaged = fill_of cs room (standing Engaged w spans count);
}

abbrev pub run_rows : Columns → ℕ → ℕ → List Span → ℕ → List RunRowView
run_rows cs room workers spans count = map (run_row cs room spans count) (range_with_len 0 workers)
