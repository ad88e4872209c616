-- What a worker looks with, and the board that holds what was seen.
use Rattle.std.specs.Prelude.{ℕ, ◌≡◌, Bool, Contains, List, None, Option, Some, false, true}
use Rattle.lock_journal.specs.BookView.{BookView}
use Rattle.history_views.specs.Growing.{IsLater}
use Rattle.coordination.specs.Passes.{PassView, ServiceId}
use Rattle.run_watch.specs.Looks.{BoardView}
use Rattle.build_workers.specs.declared.kits.Kit.{Kit}
use Rattle.build_workers.specs.Looking.{LooksAt}
use Rattle.build_workers.specs.Site.{SiteView}

-- what the worker looks with, if it does, is of the ledger of the service
abbrev pub IsWatchedBy : ServiceId → Kit → Type 0
IsWatchedBy service kit = LooksAt service kit.watcher

-- what it looks with is of the ledger of the site's service
abbrev pub IsWatched : SiteView → Kit → Type 0
IsWatched site kit = IsWatchedBy site.service.service kit

-- The board is for the units of the book, which goes on from what was seen.
pub record IsSeenBy (b : BookView) (board : BoardView) : Type 0 where
  pub later : IsLater board.seen b
  pub units : board.units ≡ b.graph.units

-- The board is for so many units, and holds what one of the passes had seen.
pub record IsOfPasses (ps : List PassView) (n : ℕ) (board : BoardView) : Type 0 where
  pub units : board.units ≡ n
  pub pass : PassView
  pub among : Contains ps pass
  pub seen : board.seen ≡ pass.sight.seen

-- there is a board where there is room for one
abbrev pub IsBoardFor : List PassView → Option ℕ → Option BoardView → Type 0
IsBoardFor ps None None = Unit {0}
IsBoardFor ps (Some n) (Some board) = IsOfPasses ps n board
IsBoardFor ps None (Some board) = ⊥
IsBoardFor ps (Some n) None = ⊥

-- there is room for what is seen of so many units, where the run is watched
pub record HasRoomToLook (watch : Bool) (n : ℕ) (room : Option ℕ) : Type 0 where
  pub some : watch ≡ true → room ≡ Some n
  pub none : watch ≡ false → room ≡ None
