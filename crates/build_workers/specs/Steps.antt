-- What each part of a worker's run does.
use Rattle.std.specs.Prelude.{◌≡◌, ◌≢◌, ◌≤◌, ◌+◌, Bool, true, List, IfSome}
use Rattle.item_actions.specs.Value.{IsHonest}
use Rattle.item_actions.specs.declared.outcomes.Outcome.TheVariants.{Skipped}
use Rattle.lock_transforms.specs.declared.entries.Closed.{Closed}
use Rattle.file_access.specs.ReadView.{IsOutcomeCounted}
use Rattle.item_work.specs.Tallying.{ReservesForEach, one_if_unreal}
use Rattle.plan_reader.specs.Units.{PlannedUnit}
use Rattle.coordination.specs.declared.rule.Sight.{Sight}
use Rattle.build_workers.specs.Desks.{DeskView}
use Rattle.build_workers.specs.Failing.{FailsForEach}
use Rattle.build_workers.specs.Kept.{Keeps}
use Rattle.build_workers.specs.Sent.{HasSent, SentFor}
use Rattle.build_workers.specs.Site.{SiteView}
use Rattle.build_workers.specs.Units.{given}
use Rattle.build_workers.specs.WorkerView.{IsOf, WorkerView}

-- The desk ran a unit, which gave this outcome: what its file gives, where the files are known, or Fault or NoMemory. Its count of
-- faults rose by one at Fault, and else it stayed. What is sent for the unit was sent.
pub record HasRun (units : List PlannedUnit) (before after : DeskView) (d : Closed) : Type 0 where
  pub files : after.files ≡ before.files
  pub ran : d.outcome ≢ Skipped
  pub counted : IsOutcomeCounted before.faults after.faults d.outcome
  pub honest : IfSome before.files (λ files. IsHonest d.outcome (given units files d.unit))
  pub sent : SentFor units d before.sent after.sent

-- The desk knows the same files, and the worker kept what each part of a run keeps. Its desk sent what is sent for the units that it
-- closed; and where the part failed, for at most one more.
pub record Proceeds (units : List PlannedUnit) (before after : DeskView) (old new : Sight) (done : Bool) : Type 0 where
  pub files : after.files ≡ before.files
  pub keeps : Keeps before.files units before.faults after.faults old new
  pub sent : HasSent done units before.sent after.sent old new

-- A part of a worker's run, which was done or failed. The worker is still one of the site. For each request that its desk sent it
-- reserved a daemon; and where the part was done, it gave no more daemons back as failed than it closed units as a fault or without memory.
pub record Steps (s : SiteView) (old new : WorkerView) (done : Bool) : Type 0 where
  pub of : IsOf s new
  pub proceeds : Proceeds s.units old.desk new.desk old.pass.sight new.pass.sight done
  pub reserved : ReservesForEach old.desk.sent.count new.desk.sent.count old.tally new.tally
  pub failed : done ≡ true → FailsForEach old.pass.sight new.pass.sight old.tally new.tally

-- Of the worker its pass alone went on, at the same service.
pub record MovesPass (old new : WorkerView) : Type 0 where
  pub service : new.pass.service ≡ old.pass.service
  pub desk : new.desk ≡ old.desk
  pub tally : new.tally ≡ old.tally
  pub watcher : new.watcher ≡ old.watcher

-- The worker ran a unit, and closed nothing: its pass is as it was. For each request it reserved a daemon, and it gave one back as
-- failed at most, where the unit ended as a fault or without memory.
pub record HasRunItem (units : List PlannedUnit) (old new : WorkerView) (d : Closed) : Type 0 where
  pub pass : new.pass ≡ old.pass
  pub watcher : new.watcher ≡ old.watcher
  pub ran : HasRun units old.desk new.desk d
  pub reserved : ReservesForEach old.desk.sent.count new.desk.sent.count old.tally new.tally
  pub failed : new.tally.failed ≤ old.tally.failed + one_if_unreal d.outcome
