-- The rows of the locks, and the lanes of the workers that have parked them.
use Rattle.std.specs.Prelude.{ℕ, ◌+◌, ◌-◌, ◌*◌, nat_eq, nat_le, nat_lt, min, max, Bool, ◌&&◌, ◌||◌, List, [], ◌++◌, length, codes, count_by}
use Rattle.std.specs.Prelude.{decimal, if◌then◌else◌}
use Rattle.std.specs.List.{flat_map, list_any}
use Rattle.run_spans.specs.declared.spans.Span.{Span}
use Rattle.run_spans.specs.declared.subjects.Subject.{Subject}
use Rattle.run_spans.specs.declared.subjects.Subject.TheVariants.{Owned, Parked}
use Rattle.run_picture.specs.Header.{many_text}
use Rattle.picture_layout.specs.Layout.{x_of, locks_y, lock_height, folded_y, right_of}
use Rattle.picture_layout.specs.Panels.{PanelView, lane_of}
use Rattle.run_picture.specs.Shapes.{across, text_begin, hued, label_number, rect_text, titled}
use Rattle.run_picture.specs.Titles.{at_worker}
use Rattle.run_picture.specs.WorkerBars.{room_for}
use Rattle.run_picture.specs.WorkerMarks.{marks_text}
use Rattle.picture_layout.specs.declared.layout.Folding.{Folding}
use Rattle.picture_layout.specs.declared.layout.Folding.TheVariants.{Unparked}
use Rattle.picture_layout.specs.declared.layout.Layout.{Layout}
use Rattle.run_picture.specs.declared.shapes.Area.{Area}

-- so many of some numbers are smaller
abbrev pub below : ℕ → List ℕ → ℕ
below n ns = count_by (λ m. nat_lt m n) ns

-- the row of a lock lies below those of the locks with smaller numbers, and their lanes
abbrev pub lock_y : PanelView → ℕ → ℕ
lock_y p l = locks_y p.layout + below l p.locks * lock_height p.layout + below (lane_of l 0) p.lanes * 3

-- the lane of a worker that has parked it lies below the row, and the lanes of the workers with smaller numbers
abbrev pub lane_y : PanelView → ℕ → ℕ → ℕ
lane_y p l w = locks_y p.layout + (below l p.locks + 1) * lock_height p.layout + below (lane_of l w) p.lanes * 3

abbrev pub lane_bar : Layout → Span → ℕ → ℕ → Area
lane_bar f s y height = record {
  x = x_of f (max s.from f.first);
  y = y;
  width = x_of f (min s.until f.behind) - x_of f (max s.from f.first);
  height = height;
}

-- a lock's name, and the line under its row
abbrev pub lock_name : PanelView → ℕ → List ℕ
lock_name p l =
    if nat_le p.layout.locks 20
    then label_number (codes "l") 70 (lock_y p l + 10) (codes "lock ") l ++ across (codes "g") 76 (lock_y p l + 13) (right_of p.layout)
    else label_number (codes "k") 70 (lock_y p l + 8) (codes "lock ") l ++ across (codes "g") 76 (lock_y p l + 9) (right_of p.layout)

-- a bar whose title tells what of it is whose
abbrev pub lock_bar : ℕ → List ℕ → Span → Area → List ℕ
lock_bar l what s a = titled (hued (codes "m") s.worker.0) a (at_worker (codes "lock ") l what s)

-- a line in the worker's lane where it is parked
unfoldable pub parked_lock : PanelView → ℕ → ℕ → Span → List ℕ
parked_lock p w l s = lock_bar l (codes " is parked by w") s (lane_bar p.layout s (lane_y p l w) 2)

-- a bar where it is owned, with a dark begin, and the second mark and the name of its owner
abbrev pub owner_label : Layout → Area → ℕ → List ℕ
owner_label f a w =
    if nat_le f.locks 20 && room_for (length (decimal w) + 1) 6 (a.width - 1) then label_number (codes "a") (a.x + 3) (a.y + 9) (codes "w") w
    else if nat_lt 20 f.locks && room_for (length (decimal w) + 1) 5 (a.width - 1) then label_number (codes "j i") (a.x + 3) (a.y + 6) (codes "w") w
    else []

abbrev pub owned_bar : ℕ → Span → Area → List ℕ
owned_bar l s a =
    lock_bar l (codes " is owned by w") s a
    ++ rect_text (hued (codes "d") s.worker.0) (record { x = a.x; y = a.y; width = 1; height = a.height }) ++ marks_text s.worker.0 a

abbrev pub owned_area : PanelView → ℕ → Span → Area
owned_area p l s = lane_bar p.layout s (lock_y p l + 1) (lock_height p.layout - 3)

unfoldable pub owned_lock : PanelView → ℕ → Span → List ℕ
owned_lock p l s = owned_bar l s (owned_area p l s) ++ owner_label p.layout (owned_area p l s) s.worker.0

-- a lock has a row of its own
abbrev pub has_row : PanelView → ℕ → Bool
has_row p l = nat_eq p.layout.folded 0 || list_any (λ m. nat_eq m l) p.locks

-- where a span says it of a lock that has a row
abbrev pub parked_by : Subject → PanelView → Span → List ℕ
parked_by (Parked w l) p s = if has_row p l.0 then parked_lock p w.0 l.0 s else []
parked_by _ p s = []

abbrev pub parked_where : PanelView → Span → List ℕ
parked_where p s = parked_by s.subject p s

abbrev pub owned_by : Subject → PanelView → Span → List ℕ
owned_by (Owned l) p s = if has_row p l.0 then owned_lock p l.0 s else []
owned_by _ p s = []

abbrev pub owned_where : PanelView → Span → List ℕ
owned_where p s = owned_by s.subject p s

-- how many locks have no row of their own
abbrev pub folded_kind : Folding → List ℕ
folded_kind Unparked = codes ", never parked"
folded_kind _ = []

abbrev pub folded_row : Layout → List ℕ
folded_row f =
    text_begin (codes "a") 79 (folded_y f + 10) ++ many_text f.folded (codes " lock") ++ folded_kind f.folding ++ codes "</text>\n"
    ++ across (codes "g") 76 (folded_y f + 13) (right_of f)

abbrev pub folded_text : Layout → List ℕ
folded_text f = if nat_lt 0 f.folded then folded_row f else []

unfoldable pub lock_rows_text : PanelView → List ℕ
lock_rows_text p =
    flat_map (lock_name p) p.locks ++ flat_map (parked_where p) p.shown ++ flat_map (owned_where p) p.shown ++ folded_text p.layout
