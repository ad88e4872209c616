-- The whole run, above the panels where there are several: a strip of the panels, the curve, and a row a worker.
use Rattle.std.specs.Prelude.{ℕ, ◌+◌, ◌-◌, ◌*◌, ◌/◌, ◌%◌, nat_le, nat_lt, nat_eq, ◌&&◌, List, [], ◌++◌, length, codes, decimal}
use Rattle.std.specs.Prelude.{if◌then◌else◌}
use Rattle.std.specs.List.{flat_map, range_with_len}
use Rattle.history_text.specs.Text.{numbered}
use Rattle.run_picture.specs.WorkerBars.{room_for}
use Rattle.picture_layout.specs.Columns.{FillView, RunRowView}
use Rattle.run_picture.specs.Curve.{scale_text}
use Rattle.picture_layout.specs.Layout.{run_row_height, run_foot}
use Rattle.picture_layout.specs.Panels.{PanelView}
use Rattle.picture_layout.specs.Overview.{RunView}
use Rattle.run_picture.specs.Shapes.{number_words, hued, titled, label, label_number, down, across}
use Rattle.picture_layout.specs.declared.columns.Columns.{Columns}
use Rattle.picture_layout.specs.declared.layout.Folding.TheVariants.{Unfolded}
use Rattle.picture_layout.specs.declared.layout.Layout.{Layout}
use Rattle.run_picture.specs.declared.shapes.Area.{Area}
use Rattle.picture_layout.specs.declared.totals.Peaks.{Peaks}

-- where an entry begins
abbrev pub run_x : ℕ → ℕ → ℕ
run_x size k = 76 + (k - 1) * 4 / size

-- the panel of a number in the strip: its number where that fits
abbrev pub band_area : ℕ → Layout → Area
band_area size f = record { x = run_x size f.first; y = 100; width = run_x size f.behind - run_x size f.first; height = 12 }

abbrev pub band_class : ℕ → List ℕ
band_class n = if nat_eq (n % 2) 0 then codes "even" else codes "odd"

abbrev pub band_title : ℕ → Layout → List ℕ
band_title n f = number_words (codes "part ") n ++ number_words (codes ": entries ") f.first ++ number_words (codes " to ") (f.behind - 1)

abbrev pub band_number : ℕ → Area → List ℕ
band_number n a = if room_for (length (decimal n)) 6 a.width then label_number (codes "n") (a.x + a.width / 2) 109 [] n else []

unfoldable pub band_text : ℕ → ℕ → PanelView → List ℕ
band_text size n p = titled (band_class n) (band_area size p.layout) (band_title n p.layout) ++ band_number n (band_area size p.layout)

-- so many entries lie between two numbers of the axis: the first of 20, 50, 100 and so on that gives 46 px
abbrev pub run_distance : ℕ → ℕ
run_distance size =
    if nat_lt size 2 then 20
    else if nat_lt size 5 then 50
    else if nat_lt size 9 then 100
    else if nat_lt size 18 then 200
    else if nat_lt size 44 then 500
    else if nat_lt size 87 then 1000
    else if nat_lt size 174 then 2000
    else if nat_lt size 435 then 5000
    else if nat_lt size 870 then 10000
    else if nat_lt size 1740 then 20000
    else if nat_lt size 4348 then 50000
    else if nat_lt size 8696 then 100000
    else if nat_lt size 17392 then 200000
    else if nat_lt size 43479 then 500000
    else if nat_lt size 86957 then 1000000
    else if nat_lt size 173914 then 2000000
    else if nat_lt size 434783 then 5000000
    else if nat_lt size 869566 then 10000000
    else if nat_lt size 1739131 then 20000000
    else 50000000

-- a line of the grid at an entry, and its number where that doesn't stand at an edge
abbrev pub run_number : ℕ → ℕ → ℕ → List ℕ
run_number k x right = if nat_le 92 x && nat_lt (x + 8) right then label_number (codes "n") x 178 [] k else []

abbrev pub run_mark : ℕ → ℕ → ℕ → ℕ → List ℕ
run_mark size right bottom k = down (codes "f") (run_x size k) 164 bottom ++ run_number k (run_x size k) right

-- at each multiple of the distance
abbrev pub run_grid : ℕ → ℕ → ℕ → ℕ → List ℕ
run_grid size right bottom count = flat_map (λ i. run_mark size right bottom (i * run_distance size)) (range_with_len 1 (count / run_distance size))

-- over each column from the left to its height above the foot
abbrev pub step_text : ℕ → ℕ → List ℕ
step_text foot h = number_words (codes "V") (foot - h) ++ codes "h4"

abbrev pub steps_text : ℕ → List ℕ → List ℕ
steps_text foot heights = flat_map (step_text foot) heights

-- the overview is laid out as a panel whose entries are the columns
abbrev pub run_layout : ℕ → Columns → Layout
run_layout workers cs = record {
  first = 1;
  behind = cs.number + 1;
  per = 4;
  top = 116;
  workers = workers;
  locks = 0;
  lanes = 0;
  folded = 0;
  folding = Unfolded;
}

abbrev pub run_leases : List ℕ → List ℕ
run_leases heights =
    codes "<path class=\"c\" d=\"M76 164" ++ steps_text 164 heights
    ++ codes "V164\"><title>leases out, on average over the entries of each column</title></path>\n"

abbrev pub run_queue : List ℕ → List ℕ
run_queue heights =
    codes "<path class=\"q\" d=\"M76 164" ++ steps_text 164 heights
    ++ codes "\"><title>items queued, the most over the entries of each column</title></path>\n"

unfoldable pub run_curve : ℕ → ℕ → Peaks → RunView → List ℕ
run_curve workers max_leases peaks v = run_leases v.out ++ run_queue v.queued ++ scale_text (run_layout workers v.columns) max_leases peaks

-- how much of a row is filled in a worker's hue
abbrev pub fill_title : ℕ → List ℕ → ℕ → ℕ → List ℕ
fill_title w words entries count =
    number_words (codes "\"><title>w") w ++ words ++ number_words (codes " after ") entries ++ number_words (codes " of ") count
    ++ codes " entries</title></path>\n"

abbrev pub fill_path : List ℕ → ℕ → ℕ → List ℕ → List ℕ
fill_path class w foot heights =
    codes "<path class=\"" ++ hued class w ++ number_words (codes "\" d=\"M76 ") foot ++ steps_text foot heights ++ number_words (codes "V") foot

abbrev pub leased_text : ℕ → ℕ → FillView → ℕ → List ℕ
leased_text w foot v count = fill_path (codes "m") w foot v.heights ++ fill_title w (codes " has a lease") v.entries count

abbrev pub engaged_text : ℕ → ℕ → FillView → ℕ → List ℕ
engaged_text w foot v count =
    fill_path (codes "p") w foot v.heights ++ fill_title w (codes " has a lease, or is parked or blocked,") v.entries count

abbrev pub run_name : ℕ → ℕ → ℕ → List ℕ
run_name workers w y = if nat_le workers 16 then label_number (codes "l") 70 y (codes "w") w else label_number (codes "k") 70 y (codes "w") w

unfoldable pub run_row_text : ℕ → ℕ → ℕ → ℕ → RunRowView → List ℕ
run_row_text workers right count w v =
    run_name workers w (run_foot workers w - 1) ++ across (codes "f") 76 (run_foot workers w) right
    ++ engaged_text w (run_foot workers w) v.engaged count ++ leased_text w (run_foot workers w) v.leased count

abbrev pub run_rows_text : ℕ → ℕ → ℕ → List RunRowView → List ℕ
run_rows_text workers right count rows = numbered (run_row_text workers right count) 0 rows

abbrev pub run_right : RunView → ℕ
run_right v = 76 + v.columns.number * 4

unfoldable pub run_axis : ℕ → ℕ → RunView → List ℕ
run_axis workers count v =
    label (codes "e") 70 178 (codes "entry")
    ++ run_grid v.columns.size (run_right v) (186 + workers * run_row_height workers) count

unfoldable pub overview_text : ℕ → ℕ → Peaks → ℕ → List PanelView → RunView → List ℕ
overview_text workers max_leases peaks count ps v =
    label (codes "w") 8 95 (codes "Whole run") ++ numbered (band_text v.columns.size) 1 ps ++ run_axis workers count v
    ++ run_curve workers max_leases peaks v ++ run_rows_text workers (run_right v) count v.rows
