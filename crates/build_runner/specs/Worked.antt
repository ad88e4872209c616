-- What each worker did in a run, by its desk and its pass.
use Rattle.std.specs.Prelude.{◌≡◌, ◌+◌, ◌-◌, ◌^◌, ◌<◌, ◌≤◌, Bool, true, List, Option, IfSome}
use Rattle.item_actions.specs.Files.{Folder}
use Rattle.plan_reader.specs.Units.{PlannedUnit}
use Rattle.coordination.specs.Passes.{PassView}
use Rattle.lock_journal.specs.Names.{IsHonestWorker, closed_by, faults_by}
use Rattle.build_workers.specs.Desks.{DeskView}
use Rattle.build_workers.specs.Points.{HasFinishedWork}
use Rattle.build_workers.specs.Sent.{AreSentAndOneMore, AreSentFor}
use Rattle.build_workers.specs.Site.{IsAt, SiteView}
use Rattle.build_workers.specs.Steps.{Proceeds}
use Rattle.build_workers.specs.Units.{given}

-- What a worker did, of its desk and its pass alone, which the run takes back from it.
pub record TookPart (s : SiteView) (before after : DeskView) (old new : PassView) (ended : Bool) : Type 0 where
  pub at : IsAt s new
  pub step : Proceeds s.units before after old.sight new.sight ended
  pub finished : ended ≡ true → HasFinishedWork new.sight

-- A worker came to the end of a run that it was in from the beginning: its faults are counted, what it closed is honest, its desk
-- sent what is sent for what it closed, and it has nothing.
pub record HasComeToTheEnd (known : Option Folder) (units : List PlannedUnit) (before after : DeskView) (p : PassView) : Type 0 where
  pub faults : after.faults < 2 ^ 64 - 1 → faults_by p.sight.worker p.sight.seen.history + before.faults ≤ after.faults
  pub honest : IfSome known (λ files. IsHonestWorker (given units files) p.sight.seen.history p.sight.worker)
  pub sent : AreSentFor units (closed_by p.sight.worker p.sight.seen.history) before.sent after.sent
  pub finished : HasFinishedWork p.sight

-- A worker was in a run from its beginning, and perhaps not to its end: its desk sent what is sent for what it closed, and for at most one more.
abbrev pub WasThere : List PlannedUnit → DeskView → DeskView → PassView → Type 0
WasThere units before after p = AreSentAndOneMore units (closed_by p.sight.worker p.sight.seen.history) before.sent after.sent
