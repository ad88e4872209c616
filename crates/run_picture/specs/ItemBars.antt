-- The bars of items and fetches.
use Rattle.std.specs.Prelude.{ℕ, ◌+◌, ◌-◌, Bool, not, ◌&&◌, List, [], ◌++◌, length, codes, decimal, Option, if◌then◌else◌}
use Rattle.lock_journal.specs.Names.{Entry, Kind}
use Rattle.run_spans.specs.declared.spans.Span.{Span}
use Rattle.run_picture.specs.WorkerBars.{bar, room_for, cap_text, fails_within, hued_number}
use Rattle.picture_layout.specs.Layout.{rows_of}
use Rattle.run_picture.specs.Shapes.{hued, rect_begin, label_number}
use Rattle.run_picture.specs.Titles.{at_worker, note_text, kind_at, is_fetch}
use Rattle.picture_layout.specs.declared.layout.Layout.{Layout}
use Rattle.picture_layout.specs.declared.layout.Rows.{Rows}
use Rattle.run_picture.specs.declared.shapes.Area.{Area}

abbrev pub item_title : List ℕ → Span → ℕ → Option Kind → List ℕ
item_title word s u ended = codes "><title>" ++ at_worker word u (codes ", at w") s ++ note_text ended s.mark ++ codes "</title></rect>\n"

abbrev pub item_bar : Span → ℕ → Option Kind → Area → List ℕ
item_bar s u ended a = rect_begin (hued (codes "d") s.worker.0) a ++ item_title (codes "item, unit ") s u ended

abbrev pub inner : Area → Area
inner a = record { x = a.x + 1; y = a.y + 1; width = a.width - 2; height = a.height - 2 }

-- white in a dark layout
abbrev pub fetch_bar : Span → ℕ → Option Kind → Area → List ℕ
fetch_bar s u ended a =
    rect_begin (hued (codes "d") s.worker.0) a ++ item_title (codes "fetch, unit ") s u ended
    ++ rect_begin (codes "z") (inner a) ++ item_title (codes "fetch, unit ") s u ended

-- where the number of a bar may stand: left of the red end, if there is one
abbrev pub label_area : Area → Bool → Area
label_area a fails = if fails then record { x = a.x; y = a.y; width = a.width - 5; height = a.height } else a

abbrev pub item_label : Rows → Area → ℕ → List ℕ
item_label r a u =
    if r.large && room_for (length (decimal u)) 6 a.width then label_number (codes "i") (a.x + 3) (a.y + a.height - r.item_foot) [] u
    else if not r.large && room_for (length (decimal u)) 5 a.width then label_number (codes "j") (a.x + 3) (a.y + a.height - r.item_foot) [] u
    else []

abbrev pub item_place : Rows → Area → Area
item_place r a = record { x = a.x + 3; y = a.y + a.height - r.item_foot; width = a.width; height = a.height }

abbrev pub fetch_label : Rows → Area → ℕ → ℕ → List ℕ
fetch_label r a u w = if r.large && room_for (length (decimal u)) 6 a.width then hued_number (item_place r a) [] u w else []

abbrev pub item_area : Layout → Span → Area
item_area f s = bar f s (rows_of f.workers).item_y (rows_of f.workers).item_height

abbrev pub cap_where : Layout → Span → List ℕ
cap_where f s = if fails_within f s then cap_text (item_area f s) else []

abbrev pub number_area : Layout → Span → Area
number_area f s = label_area (item_area f s) (fails_within f s)

unfoldable pub fetch_text : Layout → Span → ℕ → Option Kind → List ℕ
fetch_text f s u ended =
    fetch_bar s u ended (item_area f s) ++ (cap_where f s ++ fetch_label (rows_of f.workers) (number_area f s) u s.worker.0)

unfoldable pub worked_text : Layout → Span → ℕ → Option Kind → List ℕ
worked_text f s u ended =
    item_bar s u ended (item_area f s) ++ (cap_where f s ++ item_label (rows_of f.workers) (number_area f s) u)

-- a fetch, or an item, by the entry that began it
abbrev pub unit_text : Option Kind → Layout → Span → ℕ → Option Kind → List ℕ
unit_text begun f s u ended = if is_fetch begun then fetch_text f s u ended else worked_text f s u ended

abbrev pub item_text : Layout → List Entry → Span → ℕ → List ℕ
item_text f es s u = unit_text (kind_at es s.from) f s u (kind_at es s.until)
