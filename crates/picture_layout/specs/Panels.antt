-- The panels of a picture, which lie below each other.
use Rattle.std.specs.Prelude.{ℕ, zero, suc, ◌≤◌, ◌+◌, ◌-◌, ◌*◌, ◌^◌, nat_lt, min, Bool, ◌&&◌, List, [], ◌∷◌, length, Option, Some, None, if◌then◌else◌}
use Rattle.std.specs.Ordering.{nat_cmp}
use Rattle.std.specs.BTreeSet.{insert_key}
use Rattle.std.specs.List.{filter}
use Rattle.run_spans.specs.declared.spans.Span.{Span}
use Rattle.run_spans.specs.declared.subjects.Subject.{Subject}
use Rattle.run_spans.specs.declared.subjects.Subject.TheVariants.{Owned, Parked}
use Rattle.picture_layout.specs.Layout.{scale_of, rows_of, rows_bottom, run_row_height}
use Rattle.picture_layout.specs.declared.layout.Folding.{Folding}
use Rattle.picture_layout.specs.declared.layout.Folding.TheVariants.{Unfolded, Unparked, All}
use Rattle.picture_layout.specs.declared.layout.Format.{Format}
use Rattle.picture_layout.specs.declared.layout.Layout.{Layout}
use Rattle.picture_layout.specs.declared.layout.Scale.{Scale}
use Rattle.picture_layout.specs.declared.layout.TheConstants.{USUAL, FORMATS}
use Rattle.picture_layout.specs.declared.panel.Panel.{Panel}
use Rattle.picture_layout.specs.declared.panels.TheConstants.{VIEWED}
use Rattle.picture_layout.specs.declared.panels.LayoutFail.{LayoutFail}
use Rattle.picture_layout.specs.declared.panels.LayoutFail.TheVariants.{NoMemory, TooLarge}

-- the span covers an entry from first on, before behind
abbrev pub touches : ℕ → ℕ → Span → Bool
touches first behind s = nat_lt s.from behind && nat_lt first s.until && nat_lt s.from s.until

-- the lock that has a row because of what a subject tells
abbrev pub lock_of : Folding → Subject → Option ℕ
lock_of Unfolded (Owned l) = Some l.0
lock_of Unfolded (Parked w l) = Some l.0
lock_of Unparked (Parked w l) = Some l.0
lock_of _ _ = None

-- the rising list of some locks, with another
abbrev pub with_lock : Option ℕ → List ℕ → List ℕ
with_lock (Some l) ls = insert_key nat_cmp ls l
with_lock None ls = ls

-- the locks that have a row because of what spans tell, beside others
abbrev pub locks_from : Folding → List ℕ → List Span → List ℕ
locks_from folding ls [] = ls
locks_from folding ls (s ∷ ss) = locks_from folding (with_lock (lock_of folding s.subject) ls) ss

-- the lane of a worker that has parked a lock, as a number of its own
abbrev pub lane_of : ℕ → ℕ → ℕ
lane_of l w = l * 2 ^ 32 + w

abbrev pub with_lane : Folding → Subject → List ℕ → List ℕ
with_lane All _ ls = ls
with_lane _ (Parked w l) ls = insert_key nat_cmp ls (lane_of l.0 w.0)
with_lane _ _ ls = ls

-- the lanes of which spans tell, beside others
abbrev pub lanes_from : Folding → List ℕ → List Span → List ℕ
lanes_from folding ls [] = ls
lanes_from folding ls (s ∷ ss) = lanes_from folding (with_lane folding s.subject ls) ss

-- how many locks of which spans tell have no row
abbrev pub folded_in : Folding → List Span → ℕ
folded_in folding shown = length (locks_from Unfolded [] shown) - length (locks_from folding [] shown)

-- where a panel lies, what is drawn in it, which locks have a row, and which workers have a lane below it
pub record PanelView : Type 0 where
  pub layout : Layout
  pub shown : List Span
  pub locks : List ℕ
  pub lanes : List ℕ

abbrev pub panel_view : Panel → PanelView
panel_view p = record { layout = p.layout; shown = p.shown.items; locks = p.locks.items; lanes = p.lanes.items }

-- the panel that lies at a place, by what is drawn in it
abbrev pub panel_with : ℕ → Scale → ℕ → ℕ → ℕ → List Span → PanelView
panel_with workers s first behind top shown = record {
  layout = record {
    first = first;
    behind = behind;
    per = s.per;
    top = top;
    workers = workers;
    locks = length (locks_from s.folding [] shown);
    lanes = length (lanes_from s.folding [] shown);
    folded = folded_in s.folding shown;
    folding = s.folding;
  };
  shown = shown;
  locks = locks_from s.folding [] shown;
  lanes = lanes_from s.folding [] shown;
}

abbrev pub panel_of : ℕ → Scale → List Span → ℕ → ℕ → ℕ → PanelView
panel_of workers s spans first behind top = panel_with workers s first behind top (filter (touches first behind) spans)

-- so many panels, from an entry and a place on, with so much between them; each begins behind the last entry of the one above
abbrev pub panels_from : ℕ → ℕ → Scale → List Span → ℕ → ℕ → ℕ → ℕ → List PanelView
panels_from zero workers s spans end gap first top = []
panels_from (suc n) workers s spans end gap first top =
    panel_of workers s spans first (min (first + s.size) end) top
    ∷ panels_from n workers s spans end gap (min (first + s.size) end)
    (rows_bottom (panel_of workers s spans first (min (first + s.size) end) top).layout + gap)

-- where there are several, each has a heading
abbrev pub heading : Scale → ℕ
heading s = if nat_lt 1 s.panels then 24 else 0

-- where the first begins: below the whole run, where there are several
abbrev pub first_top : ℕ → Scale → ℕ
first_top workers s = if nat_lt 1 s.panels then 240 + workers * run_row_height workers else 86

abbrev pub panels_with : ℕ → Scale → List Span → ℕ → List PanelView
panels_with workers s spans count = panels_from s.panels workers s spans (count + 1) (30 + heading s) 1 (first_top workers s)

-- those in a format
abbrev pub panels_in_format : Format → ℕ → List Span → ℕ → List PanelView
panels_in_format t workers spans count = panels_with workers (scale_of t workers count) spans count

-- so high are the panels together at least: each has its curve, its axis and the rows of its workers
abbrev pub least_height : ℕ → Scale → ℕ
least_height workers s = s.panels * (82 + workers * (rows_of workers).height)

-- where the last of some panels ends, and which spans it shows
abbrev pub last_bottom : ℕ → List PanelView → ℕ
last_bottom bottom [] = bottom
last_bottom bottom (p ∷ ps) = last_bottom (rows_bottom p.layout) ps

abbrev pub last_shown : List Span → List PanelView → List Span
last_shown shown [] = shown
last_shown shown (p ∷ ps) = last_shown p.shown ps

-- the picture ends 20 px below its last panel
abbrev pub height_of : List PanelView → ℕ
height_of ps = last_bottom 56 ps + 20

-- the first of some formats in which the picture has a height that common viewers draw, and where it has in none, the usual one
abbrev pub format_from : List Format → ℕ → List Span → ℕ → Format
format_from [] workers spans count = USUAL
format_from (t ∷ ts) workers spans count =
    if nat_lt (height_of (panels_in_format t workers spans count)) VIEWED then t else format_from ts workers spans count

abbrev pub format_of : ℕ → List Span → ℕ → Format
format_of workers spans count = format_from FORMATS.now workers spans count

abbrev pub panels_of : ℕ → List Span → ℕ → List PanelView
panels_of workers spans count = panels_in_format (format_of workers spans count) workers spans count

-- why panels aren't laid out: the picture would be too high
abbrev pub IsRefused : List PanelView → LayoutFail → Type 0
IsRefused ps TooLarge = 2 ^ 32 ≤ height_of ps
IsRefused ps NoMemory = Unit {0}

-- the same of one panel: it would have too many locks, or lanes
abbrev pub IsRefusedPanel : PanelView → LayoutFail → Type 0
IsRefusedPanel p TooLarge = 2 ^ 32 ≤ p.layout.locks + p.layout.lanes
IsRefusedPanel p NoMemory = Unit {0}

-- spans in the order in which they begin, from an entry on
abbrev pub Rising : ℕ → List Span → Type 0
Rising first [] = Unit {0}
Rising first (s ∷ ss) = (first ≤ s.from) × Rising s.from ss

-- those in front that begin before an entry, and the others
abbrev pub begun_before : ℕ → List Span → List Span
begun_before entry [] = []
begun_before entry (s ∷ ss) = if nat_lt s.from entry then s ∷ begun_before entry ss else []

abbrev pub begun_from : ℕ → List Span → List Span
begun_from entry [] = []
begun_from entry (s ∷ ss) = if nat_lt s.from entry then begun_from entry ss else s ∷ ss
