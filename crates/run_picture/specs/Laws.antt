-- What a picture tells of its history.
use Rattle.std.specs.Prelude.{ℕ, zero, suc, ◌≡◌, ◌≤◌, ◌<◌, ◌+◌, ◌-◌, ◌*◌, ◌/◌, ◌^◌, nat_eq, nat_le, nat_lt, min, max}
use Rattle.std.specs.Prelude.{Bool, true, not, ◌&&◌, Some, List, [], ◌∷◌, ◌++◌, length, codes, decimal}
use Rattle.std.specs.Prelude.{if◌then◌else◌}
use Rattle.std.specs.List.{list_all}
use Rattle.lock_journal.specs.Names.{GraphView, StateView, leases_out, holding_of, mark_of, owner_of, has_parked, LockId, WorkerId, Running, ActionOf}
use Rattle.lock_journal.specs.Names.{Entry, prefix_state}
use Rattle.history_text.specs.HistoryView.{HistoryView}
use Rattle.history_text.specs.Text.{numbered}
use Rattle.run_spans.specs.Levels.{units_queued}
use Rattle.run_spans.specs.declared.spans.Span.{Span}
use Rattle.picture_layout.specs.Layout.{x_of, row_y, rows_of, lock_height}
use Rattle.picture_layout.specs.Panels.{PanelView}
use Rattle.run_picture.specs.Picture.{within, picture_text}
use Rattle.run_picture.specs.LockRows.{has_row, lane_bar, lock_y, lane_y}
use Rattle.run_picture.specs.Shapes.{number_words, hued, titled}
use Rattle.run_picture.specs.Titles.{over_text}
use Rattle.picture_layout.specs.declared.layout.Layout.{Layout}

-- A byte that stands for itself in XML: neither a control, nor `&`, `<` or `>`.
abbrev pub is_plain : ℕ → Bool
is_plain c = nat_le 32 c && not (nat_eq c 38) && not (nat_eq c 60) && not (nat_eq c 62)

abbrev pub all_plain : List ℕ → Bool
all_plain text = list_all is_plain text

-- the layout of the panel that shows an entry, or another where none does
abbrev pub layout_at : Layout → List PanelView → ℕ → Layout
layout_at other [] n = other
layout_at other (p ∷ ps) n = if nat_lt n p.layout.behind then p.layout else layout_at other ps n

-- A text stands in another.
pub record HasPart (text part : List ℕ) : Type 0 where
  pub before : List ℕ
  pub behind : List ℕ
  pub is : text ≡ before ++ part ++ behind

-- the most of what is counted in the states after the first k entries
abbrev pub most_of : (StateView → ℕ) → GraphView → List Entry → ℕ → ℕ
most_of count g es zero = 0
most_of count g es (suc k) = max (most_of count g es k) (count (prefix_state g es (suc k)))

-- Over the column of entry k, which ends where the next begins, a curve is as high as is counted in the state after the entry: where that is
-- so much, it is 48 px high.
abbrev pub curve_step : (StateView → ℕ) → GraphView → List Entry → Layout → ℕ → ℕ → List ℕ
curve_step count g es f most k =
    codes "V" ++ decimal (f.top + 48 - 48 * min (count (prefix_state g es k)) most / most) ++ (codes "H" ++ decimal (x_of f (k + 1)))

-- the curve of a panel: from its foot at the left edge over its entries in order
abbrev pub curve_of : List ℕ → (StateView → ℕ) → GraphView → List Entry → Layout → ℕ → List ℕ
curve_of class count g es f most =
    codes "<path class=\"" ++ class ++ codes "\" d=\"M76 " ++ decimal (f.top + 48) ++ numbered (λ k e. curve_step count g es f most k) f.first (within f es)

-- the scale of the leases, and that of the queued units
abbrev pub leases_scale : GraphView → List Entry → ℕ
leases_scale g es = max (most_of leases_out g es (length es)) 1

abbrev pub units_scale : GraphView → List Entry → ℕ
units_scale g es = max (leases_scale g es) (most_of units_queued g es (length es))

-- The picture shows over each entry of a panel how many leases are out, and how many units queued, in the state after it.
pub record HasCurves (g : GraphView) (h : HistoryView) (p : PanelView) : Type 0 where
  pub leases : HasPart (picture_text h) (curve_of (codes "c") leases_out g h.entries p.layout (leases_scale g h.entries))
  pub queued : HasPart (picture_text h) (curve_of (codes "q") units_queued g h.entries p.layout (units_scale g h.entries))

-- A rectangle of a class stands in the text over the column of entry k, from y on down, so high, and tells some words: it goes over some
-- entries, among them k.
pub record IsShown (text : List ℕ) (f : Layout) (class words : List ℕ) (y height k : ℕ) : Type 0 where
  pub over : Span
  pub begun : over.from ≤ k
  pub lasts : k < over.until
  pub stands : HasPart text (titled class (lane_bar f over y height) (words ++ over_text over))

-- the same in a worker's row, where its lease is drawn
abbrev pub IsShownInRow : List ℕ → Layout → WorkerId → List ℕ → List ℕ → ℕ → Type 0
IsShownInRow text f w class words k = IsShown text f class words (row_y f w.0 + (rows_of f.workers).lane_y) (rows_of f.workers).lane_height k

-- The picture shows what holds for a worker in the state after entry k: its lease, that it is blocked, or parked at an action, and the locks
-- with a row that it owns or has parked.
pub record Shows (g : GraphView) (h : HistoryView) (p : PanelView) (k : ℕ) (w : WorkerId) : Type 0 where
  pub lease : (holding_of (prefix_state g h.entries k) w).lease ≡ true
      → IsShownInRow (picture_text h) p.layout w (hued (codes "m") w.0) (codes "w" ++ decimal w.0 ++ codes " has a lease") k
  pub blocked : (holding_of (prefix_state g h.entries k) w).blocked ≡ true
      → IsShownInRow (picture_text h) p.layout w (codes "b") (codes "w" ++ decimal w.0 ++ codes " is blocked") k
  pub parked : (n : ℕ) → n < 2 ^ 32 → mark_of (prefix_state g h.entries k) (ActionOf n) ≡ Running w
      → IsShownInRow (picture_text h) p.layout w (hued (codes "k") w.0) (number_words (codes "w") w.0 ++ number_words (codes " is parked at action ") n) k
  pub owned_lock : (l : LockId) → l.0 < 2 ^ 32 → has_row p l.0 ≡ true → owner_of (prefix_state g h.entries k) l ≡ Some w
      → IsShown (picture_text h) p.layout (hued (codes "m") w.0) (number_words (codes "lock ") l.0 ++ number_words (codes " is owned by w") w.0)
      (lock_y p l.0 + 1) (lock_height p.layout - 3) k
  pub parked_lock : (l : LockId) → l.0 < 2 ^ 32 → has_row p l.0 ≡ true → has_parked (prefix_state g h.entries k) w l ≡ true
      → IsShown (picture_text h) p.layout (hued (codes "m") w.0) (number_words (codes "lock ") l.0 ++ number_words (codes " is parked by w") w.0)
      (lane_y p l.0 w.0) 2 k
