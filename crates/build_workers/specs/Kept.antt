-- What each part of a worker's run keeps: its closings carry what the files give, and its faults are counted.
use Rattle.std.specs.Prelude.{ℕ, ◌≡◌, ◌+◌, ◌-◌, ◌^◌, ◌<◌, ◌≤◌, ◌++◌, List, Option, IfSome}
use Rattle.item_actions.specs.Files.{Folder}
use Rattle.lock_journal.specs.Names.{Closed, IsHonestWorker, closed_by, faults_by}
use Rattle.plan_reader.specs.Units.{PlannedUnit}
use Rattle.coordination.specs.declared.rule.Sight.{Sight}
use Rattle.build_workers.specs.Units.{given}

-- The worker and the graph stay, and the worker closed these units.
pub record HasClosed (ds : List Closed) (old new : Sight) : Type 0 where
  pub worker : new.worker ≡ old.worker
  pub graph : new.seen.graph ≡ old.seen.graph
  pub closed : closed_by old.worker new.seen.history ≡ closed_by old.worker old.seen.history ++ ds

-- The worker and the graph stay, while the count of faults of its desk went from before to after. Each unit that it closed with
-- Fault is counted there, unless the count stands at its end, 2 ^ 64 - 1. Where the files are known, each unit that it closed has
-- what its file gives, or Fault or NoMemory.
pub record Keeps (known : Option Folder) (units : List PlannedUnit) (before after : ℕ) (old new : Sight) : Type 0 where
  pub worker : new.worker ≡ old.worker
  pub graph : new.seen.graph ≡ old.seen.graph
  pub count : before ≤ after
  pub faults : after < 2 ^ 64 - 1 → faults_by old.worker new.seen.history + before ≤ faults_by old.worker old.seen.history + after
  pub honest : IfSome known (λ files. IsHonestWorker (given units files) old.seen.history old.worker
      → IsHonestWorker (given units files) new.seen.history old.worker)
