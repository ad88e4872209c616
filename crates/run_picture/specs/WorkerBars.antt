-- The bars of tasks, of what is parked or blocked, and of leases.
use Rattle.std.specs.Prelude.{ℕ, ◌+◌, ◌-◌, ◌*◌, nat_le, nat_lt, min, max, Bool, ◌&&◌, List, [], ◌++◌}
use Rattle.std.specs.Prelude.{length, codes, decimal}
use Rattle.std.specs.Prelude.{if◌then◌else◌}
use Rattle.lock_journal.specs.Names.{same_mark, Mark, Failed}
use Rattle.history_text.specs.Text.{mark_text}
use Rattle.run_spans.specs.declared.spans.Span.{Span}
use Rattle.picture_layout.specs.Layout.{x_of, row_y, rows_of}
use Rattle.run_picture.specs.Shapes.{number_words, hued, rect_begin, rect_text, titled}
use Rattle.run_picture.specs.Titles.{over_text, at_worker}
use Rattle.picture_layout.specs.declared.layout.Layout.{Layout}
use Rattle.run_picture.specs.declared.shapes.Area.{Area}

-- the bar of a span in its worker's row, within the panel, so far down and so high
abbrev pub bar : Layout → Span → ℕ → ℕ → Area
bar f s down height = record {
  x = x_of f (max s.from f.first);
  y = row_y f s.worker.0 + down;
  width = x_of f (min s.until f.behind) - x_of f (max s.from f.first);
  height = height;
}

-- so many characters of a width fit
abbrev pub room_for : ℕ → ℕ → ℕ → Bool
room_for count wide room = nat_le (count * wide + 4) room

-- the red end of a bar, behind a white line where there is room
abbrev pub cap_text : Area → List ℕ
cap_text a =
    (if nat_lt 5 a.width then rect_text (codes "z") (record { x = a.x + a.width - 5; y = a.y; width = 1; height = a.height }) else [])
    ++ rect_text (codes "r") (record { x = a.x + a.width - min a.width 4; y = a.y; width = min a.width 4; height = a.height })

abbrev pub fails_within : Layout → Span → Bool
fails_within f s = same_mark s.mark Failed && nat_le s.until f.behind

abbrev pub hued_number : Area → List ℕ → ℕ → ℕ → List ℕ
hued_number a word n w =
    codes "<text class=\"" ++ hued (codes "a d") w ++ number_words (codes "\" x=\"") a.x ++ number_words (codes "\" y=\"") a.y
    ++ codes "\">" ++ number_words word n ++ codes "</text>\n"

-- where the words of a task stand
abbrev pub task_place : Area → Area
task_place a = record { x = a.x + 4; y = a.y + a.height - 2; width = a.width; height = a.height }

abbrev pub task_label : Area → ℕ → ℕ → List ℕ
task_label a n w =
    if room_for (5 + length (decimal n)) 6 a.width then hued_number (task_place a) (codes "task ") n w
    else if room_for (length (decimal n)) 6 a.width then hued_number (task_place a) [] n w
    else []

abbrev pub ended_text : Mark → List ℕ
ended_text mark = codes ", " ++ mark_text mark

abbrev pub task_title : Span → ℕ → List ℕ
task_title s n = codes "><title>" ++ at_worker (codes "task ") n (codes " of w") s ++ ended_text s.mark ++ codes "</title></rect>\n"

abbrev pub task_bar : Span → ℕ → Area → List ℕ
task_bar s n a =
    rect_begin (hued (codes "p") s.worker.0) a ++ task_title s n
    ++ rect_text (hued (codes "d") s.worker.0) (record { x = a.x; y = a.y; width = a.width; height = 1 })
    ++ rect_text (hued (codes "d") s.worker.0) (record { x = a.x; y = a.y; width = 1; height = a.height })

abbrev pub task_area : Layout → Span → Area
task_area f s = bar f s (rows_of f.workers).task_y (rows_of f.workers).task_height

unfoldable pub task_text : Layout → Span → ℕ → List ℕ
task_text f s n =
    task_bar s n (task_area f s) ++ (if fails_within f s then cap_text (task_area f s) else [])
    ++ (if (rows_of f.workers).large then task_label (task_area f s) n s.worker.0 else [])

abbrev pub lane_area : Layout → Span → Area
lane_area f s = bar f s (rows_of f.workers).lane_y (rows_of f.workers).lane_height

abbrev pub parked_bar : Area → Span → ℕ → List ℕ
parked_bar a s n = titled (hued (codes "k") s.worker.0) a (number_words (codes "w") s.worker.0 ++ number_words (codes " is parked at action ") n ++ over_text s)

abbrev pub blocked_bar : Area → Span → List ℕ
blocked_bar a s = titled (codes "b") a (codes "w" ++ decimal s.worker.0 ++ codes " is blocked" ++ over_text s)

abbrev pub lease_bar : Area → Span → List ℕ
lease_bar a s = titled (hued (codes "m") s.worker.0) a (codes "w" ++ decimal s.worker.0 ++ codes " has a lease" ++ over_text s)
