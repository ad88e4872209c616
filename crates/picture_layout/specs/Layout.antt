-- The scale of the entries, and where the rows of a panel lie.
use Rattle.std.specs.Prelude.{ℕ, ◌+◌, ◌-◌, ◌*◌, ◌/◌, nat_eq, nat_le, min, max, if◌then◌else◌}
use Rattle.picture_layout.specs.declared.layout.Folding.{Folding}
use Rattle.picture_layout.specs.declared.layout.Format.{Format}
use Rattle.picture_layout.specs.declared.layout.Layout.{Layout}
use Rattle.picture_layout.specs.declared.layout.Rows.{Rows}
use Rattle.picture_layout.specs.declared.layout.Scale.{Scale}
use Rattle.picture_layout.specs.declared.layout.TheConstants.{LARGE, SMALL, WIDEST}

abbrev pub ceil_div : ℕ → ℕ → ℕ
ceil_div n d = (n + (d - 1)) / d

-- px an entry, where the run is cut into panels
abbrev pub narrow : ℕ → ℕ
narrow workers = max 1 (min 12 (40 / workers))

-- so many entries fit into a plot, if they are as narrow
abbrev pub entries_in : ℕ → ℕ → ℕ
entries_in plot workers = max (plot / narrow workers) 1

-- one panel, with entries as wide as they can be in a plot
abbrev pub whole : Format → ℕ → Scale
whole t count = record { per = min (t.plot / max count 1) 24; size = max count 1; panels = min count 1; folding = t.folding }

-- panels of equal length
abbrev pub cut : Folding → ℕ → ℕ → ℕ → Scale
cut folding count per size = record { per = per; size = size; panels = ceil_div count size; folding = folding }

abbrev pub scale_of : Format → ℕ → ℕ → Scale
scale_of t workers count =
    if nat_le count (entries_in t.plot workers) then whole t count
    else cut t.folding count (narrow workers) (ceil_div count (ceil_div count (entries_in t.plot workers)))

abbrev pub rows_of : ℕ → Rows
rows_of workers = if nat_le workers 12 then LARGE else SMALL

abbrev pub x_of : Layout → ℕ → ℕ
x_of f entry = 76 + min (entry - f.first) WIDEST * f.per

-- where the panel ends
abbrev pub right_of : Layout → ℕ
right_of f = x_of f f.behind

-- where the curve of the leases stands on
abbrev pub base_of : Layout → ℕ
base_of f = f.top + 48

abbrev pub row_y : Layout → ℕ → ℕ
row_y f w = f.top + 72 + w * (rows_of f.workers).height

abbrev pub locks_y : Layout → ℕ
locks_y f = row_y f f.workers + 10

-- a lock's row, without its lanes
abbrev pub lock_height : Layout → ℕ
lock_height f = if nat_le f.locks 20 then 14 else 10

-- where these rows end, and that of the folded locks begins, if there are some
abbrev pub folded_y : Layout → ℕ
folded_y f = locks_y f + f.locks * lock_height f + f.lanes * 3

abbrev pub folded_height : Layout → ℕ
folded_height f = if nat_eq f.folded 0 then 0 else 14

abbrev pub rows_bottom : Layout → ℕ
rows_bottom f = folded_y f + folded_height f

-- in the whole run above the panels: how high the row of a worker is, and where it stands
abbrev pub run_row_height : ℕ → ℕ
run_row_height workers = if nat_le workers 16 then 12 else 10

abbrev pub run_foot : ℕ → ℕ → ℕ
run_foot workers w = 185 + (w + 1) * run_row_height workers

-- how high a curve stands for a value, where the most is at the top, 48 px up
abbrev pub curve_height : ℕ → ℕ → ℕ
curve_height value most = 48 * min value most / most
