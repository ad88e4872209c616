-- What a run leaves of its book, of its desks and of its tallies.
use Rattle.std.specs.Prelude.{ℕ, ◌≡◌, ◌+◌, ◌<◌, ◌≤◌, Bool, true, List, drop, get_or, length, sum_by}
use Rattle.daemon_manager.specs.Counts.{TalliesView, failures, reservations}
use Rattle.daemon_manager.specs.Events.{IsLegal, NoneIdle}
use Rattle.daemon_manager.specs.declared.events.Event.{Event}
use Rattle.lock_journal.specs.Names.{BookView, closed_by}
use Rattle.coordination.specs.Passes.{PassView}
use Rattle.plan_reader.specs.PlanView.{PlanView}
use Rattle.plan_reader.specs.Units.{plan_units}
use Rattle.run_watch.specs.declared.boards.Watch.{Watch}
use Rattle.build_workers.specs.RunDesks.{desks_view, known_by}
use Rattle.build_workers.specs.Desks.{DeskView}
use Rattle.build_workers.specs.RunFailing.{unreal_of}
use Rattle.build_workers.specs.Run.{IsRunOf}
use Rattle.build_workers.specs.RunWatching.{IsWatchedRun}
use Rattle.build_runner.specs.Worked.{HasComeToTheEnd}
use Rattle.build_workers.specs.declared.options.RunOptions.{RunOptions}

-- Each desk is in its place again, knows the same files, and counts no fewer faults; those behind the first n are as they were.
pub record AreBack {D : Type 0} (view : D → DeskView) (n : ℕ) (old new : List D) : Type 0 where
  pub places : length new ≡ length old
  pub files : (i : ℕ) (d : D) → (view (get_or new i d)).files ≡ (view (get_or old i d)).files
  pub counts : (i : ℕ) (d : D) → (view (get_or old i d)).faults ≤ (view (get_or new i d)).faults
  pub rest : drop n new ≡ drop n old

-- The desks are back, and for each request that they sent a daemon was reserved.
pub record Leaves {D : Type 0} (view : D → DeskView) (n : ℕ) (old new : List D) (before after : TalliesView) : Type 0 where
  pub back : AreBack view n old new
  pub parts : after.parts ≡ before.parts
  pub reserved : sum_by (λ d. (view d).sent.count) new + before.reserved ≤ sum_by (λ d. (view d).sent.count) old + after.reserved

-- The book is that of a whole run, with what was seen of it. No more daemons failed than units ended as a fault or without memory.
pub record GivesBook {D : Type 0} (view : D → DeskView) (plan : PlanView) (options : RunOptions) (old new : List D) (before after : TalliesView)
    (b : BookView) (ws : List Watch) : Type 0 where
  pub run : (d : D) → IsRunOf plan options (desks_view view old d) (desks_view view new d) b
  pub watch : IsWatchedRun options b ws
  pub failed : after.failed ≤ before.failed + unreal_of options.workers b.history

-- The same, with all that happened to the daemons.
pub record GivesEnd {D : Type 0} (view : D → DeskView) (plan : PlanView) (options : RunOptions) (old new : List D) (b : BookView) (ws : List Watch)
    (events : List Event) : Type 0 where
  pub run : (d : D) → IsRunOf plan options (desks_view view old d) (desks_view view new d) b
  pub watch : IsWatchedRun options b ws
  pub legal : IsLegal events
  pub none_idle : NoneIdle events
  pub reserved : sum_by (λ d. (view d).sent.count) new ≤ sum_by (λ d. (view d).sent.count) old + reservations events
  pub failed : failures events ≤ unreal_of options.workers b.history

-- The book was taken out of the service of workers that have come to the end, with these passes.
pub record IsClosedBook (plan : PlanView) (options : RunOptions) (came : Bool) (ps : List PassView) (b : BookView) (ws : List Watch) : Type 0 where
  pub ended : came ≡ true
  pub run : (before after : ℕ → DeskView) → ((i : ℕ) (p : PassView) → i < options.workers
      → HasComeToTheEnd (known_by options.workers before) (plan_units plan) (before i) (after i) (get_or ps i p)) → IsRunOf plan options before after b
  pub watch : IsWatchedRun options b ws
  pub closings : (i : ℕ) (p : PassView) → i < options.workers
      → closed_by (record { 0 = i }) b.history ≡ closed_by (get_or ps i p).sight.worker (get_or ps i p).sight.seen.history
