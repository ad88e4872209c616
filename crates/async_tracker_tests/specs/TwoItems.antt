-- A task with one action of two items, as the worked example runs it, and one that comes after it and has no actions.
use Rattle.std.specs.Prelude.{◌≡◌, false, [], ◌∷◌, None}
use Rattle.lock_journal.specs.Names.{GraphView, Retention, TaskOf, ActionOf}
use Rattle.coordination.specs.Shown.{claimed_shown}
use Rattle.coordination.specs.declared.rule.Sight.{Sight}
use Rattle.async_tracker.specs.ParkedView.{ParkedView}
use Rattle.async_tracker.specs.Shows.{IsFree, IsIdleOrParked, IsParkedBy}
use Rattle.async_tracker.specs.Tasks.{MayEnd}

-- one lock, two workers and one lease
abbrev pub two_items : Retention → GraphView
two_items retention = record {
  locks = 1;
  all = None;
  workers = 2;
  max_leases = 1;
  units = 2;
  tasks = record { lock = record { 0 = 0 }; after = []; first_action = 0; actions = 1 }
      ∷ record { lock = record { 0 = 0 }; after = 0 ∷ []; first_action = 1; actions = 0 } ∷ [];
  actions = record { task = 0; retention = retention; fetch = false; first_unit = 0; items = 2 } ∷ [];
}

pub record HasTwoItems (g : GraphView) : Type 0 where
  pub retention : Retention
  pub is : g ≡ two_items retention

-- The worker waits for the two items, and can claim one.
pub record CanHelp (s : Sight) (p : ParkedView) : Type 0 where
  pub graph : HasTwoItems s.seen.graph
  pub action : p.action ≡ 0
  pub claimed : claimed_shown s ≡ TaskOf 0 ∷ ActionOf 0 ∷ []
  pub own : IsParkedBy s p
  pub free : IsFree s
  pub waits : IsIdleOrParked s

-- The worker runs the task, whose items have ended.
pub record CanEnd (s : Sight) : Type 0 where
  pub graph : HasTwoItems s.seen.graph
  pub may : MayEnd s 0
