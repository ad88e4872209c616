-- What is kept of looks, until the book of the run is there.
use Rattle.std.specs.Prelude.{ℕ, ◌≡◌, ◌≤◌, List, [], Option, None, IfSome, length, replicate}
use Rattle.std.specs.List.{All}
use Rattle.lock_journal.specs.BookView.{BookView}
use Rattle.history_views.specs.Growing.{IsLater}
use Rattle.history_views.specs.declared.views.Extent.{Extent}
use Rattle.run_watch.specs.Watches.{IsShownBy}
use Rattle.run_watch.specs.declared.boards.Watch.{Watch}
use Rattle.run_watch.specs.declared.watchers.Look.{Look}

-- the book shows this
abbrev pub Shows : BookView → Extent → Type 0
Shows b e = IsShownBy b e.entries e.leases

abbrev pub WasSeenIn : BookView → Look → Type 0
WasSeenIn b l = Shows b l.shown

abbrev pub MayShow : BookView → Option Extent → Type 0
MayShow b look = IfSome look (Shows b)

-- The last look showed all entries of a book that goes on from what was seen, and this book shows all that was noted.
pub record AreLooksAt (seen : BookView) (last : Extent) (noted : List Look) : Type 0 where
  pub top : BookView
  pub later : IsLater seen top
  pub entries : last.entries ≡ length top.history
  pub shown : All (WasSeenIn top) noted

-- what a pass had seen at the end, and for how many units there is room
pub record BoardView : Type 0 where
  pub seen : BookView
  pub units : ℕ

-- Room for so many units: none of them is closed, or was looked at, and there is room for a watch of each.
pub record IsRoomFor (n : ℕ) (closed : List ℕ) (noted : List (Option Extent)) (watches : List Watch) (many : ℕ) : Type 0 where
  pub closings : closed ≡ replicate n 0
  pub looks : noted ≡ replicate n None
  pub empty : watches ≡ []
  pub room : n ≤ many

-- A board: no unit was noted as closed, each look is shown by what was seen, which has so many entries at least, and there is room for
-- a watch of each unit.
pub record IsBoardOf (seen : BookView) (n entries : ℕ) (closed : List ℕ) (noted : List (Option Extent)) (watches : List Watch) (many : ℕ)
    : Type 0 where
  pub few : entries ≤ length seen.history
  pub closings : closed ≡ replicate n 0
  pub len : length noted ≡ n
  pub shown : All (MayShow seen) noted
  pub empty : watches ≡ []
  pub room : n ≤ many
