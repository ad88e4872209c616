-- What contracts see of a worker, and which workers are a site's.
use Rattle.std.specs.Prelude.{Bool, Option}
use Rattle.logbook.specs.Pages.{Book as Ledger}
use Rattle.daemon_manager.specs.Counts.{TallyView}
use Rattle.coordination.specs.Passes.{PassView}
use Rattle.build_workers.specs.Desks.{DeskView}
use Rattle.build_workers.specs.Site.{IsAt, SiteView}
use Rattle.build_workers.specs.Looking.{LooksAt}

-- its pass, what its desk knows and did, what it did with the daemons, what it looks with, and whether it saw all tasks ended
pub record WorkerView : Type 0 where
  pub pass : PassView
  pub desk : DeskView
  pub tally : TallyView
  pub watcher : Option Ledger
  pub ended : Bool

-- The worker is one of the site's: its pass is, and what it looks with, if it does, is of the ledger of the site's service.
pub record IsOf (s : SiteView) (w : WorkerView) : Type 0 where
  pub at : IsAt s w.pass
  pub looks : LooksAt s.service.service w.watcher
