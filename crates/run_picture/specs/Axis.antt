-- The axis of entries, and the rows of the workers, before anything is drawn in them.
use Rattle.std.specs.Prelude.{ℕ, ◌+◌, ◌-◌, ◌*◌, ◌%◌, nat_le, nat_lt, nat_eq, Bool, true, false, ◌&&◌, List, [], ◌++◌, codes}
use Rattle.std.specs.Prelude.{if◌then◌else◌}
use Rattle.std.specs.List.{flat_map, range_with_len}
use Rattle.std.specs.Int.{div_ceil}
use Rattle.picture_layout.specs.Layout.{x_of, right_of, row_y, rows_of, rows_bottom}
use Rattle.run_picture.specs.Shapes.{down, across, label, label_number, hued, rect_text}
use Rattle.run_picture.specs.WorkerMarks as marks
use Rattle.picture_layout.specs.declared.layout.Layout.{Layout}
use Rattle.run_picture.specs.declared.shapes.Area.{Area}

-- so many entries lie between two numbers: the first of 1, 2, 5, 10 and so on that gives 46 px
abbrev pub distance_of : ℕ → ℕ
distance_of per =
    if nat_lt per 3 then 50
    else if nat_lt per 5 then 20
    else if nat_lt per 10 then 10
    else if nat_lt per 23 then 5
    else 2

-- a line of the grid: each fifth is darker
abbrev pub grid_line : Bool → ℕ → ℕ → ℕ → List ℕ
grid_line true x top bottom = down (codes "f") x top bottom
grid_line false x top bottom = down (codes "g") x top bottom

-- its number, where that doesn't stand at an edge
abbrev pub mark_number : ℕ → ℕ → ℕ → ℕ → List ℕ
mark_number k x top right = if nat_le 92 x && nat_lt (x + 8) right then label_number (codes "n") x (top + 62) [] k else []

abbrev pub mark_text : Layout → ℕ → Bool → List ℕ
mark_text f k fifth = grid_line fifth (x_of f k) f.top (rows_bottom f) ++ mark_number k (x_of f k) f.top (right_of f)

-- the mark of this number from 0
abbrev pub nth_mark : Layout → ℕ → List ℕ
nth_mark f i = mark_text f (i * distance_of f.per) (nat_eq (i % 5) 0)

-- so many marks from one on
abbrev pub marks_text : Layout → ℕ → ℕ → List ℕ
marks_text f from count = flat_map (nth_mark f) (range_with_len from count)

-- those from the panel's first entry on, before the one behind its last
abbrev pub grid_text : Layout → List ℕ
grid_text f =
    marks_text f (div_ceil f.first (distance_of f.per)) (div_ceil f.behind (distance_of f.per) - div_ceil f.first (distance_of f.per))

unfoldable pub axis_text : Layout → List ℕ
axis_text f = grid_text f ++ label (codes "e") 70 (f.top + 62) (codes "entry")

abbrev pub swatch_area : ℕ → ℕ → Area
swatch_area y height = record { x = 8; y = y + 4; width = 5; height = height - 8 }

-- the hue and the second mark of a worker
abbrev pub swatch_text : ℕ → ℕ → ℕ → List ℕ
swatch_text w y height = rect_text (hued (codes "m") w) (swatch_area y height) ++ marks.marks_text w (swatch_area y height)

abbrev pub name_text : Bool → ℕ → ℕ → List ℕ
name_text true w y = label_number (codes "w") 19 y (codes "w") w
name_text false w y = label_number (codes "v") 19 y (codes "w") w

abbrev pub row_text : Layout → ℕ → List ℕ
row_text f w =
    across (codes "u") 8 (row_y f w) (right_of f)
    ++ (swatch_text w (row_y f w) (rows_of f.workers).height
    ++ name_text (rows_of f.workers).large w (row_y f w + (rows_of f.workers).label_y))

unfoldable pub worker_rows_text : Layout → List ℕ
worker_rows_text f = flat_map (row_text f) (range_with_len 0 f.workers) ++ across (codes "u") 8 (row_y f f.workers) (right_of f)
