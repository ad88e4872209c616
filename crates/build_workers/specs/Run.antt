-- What a run of a plan leaves.
use Rattle.std.specs.Prelude.{ℕ, ◌≡◌, ◌+◌, ◌++◌, ◌-◌, ◌^◌, ◌<◌, ◌≤◌, List, length, Option, None, Some, All}
use Rattle.item_actions.specs.Files.{Folder}
use Rattle.item_actions.specs.declared.outcomes.Outcome.{Outcome}
use Rattle.lock_journal.specs.Names.{IsAtRest, Good, Lawful, Entry, replay, BookView, answers, closed_by, faults_by, HasEnded, ComesTo}
use Rattle.lock_journal.specs.Names.{GivesClosedOutcomes, IsOrderly}
use Rattle.plan_reader.specs.PlanView.{PlanView}
use Rattle.plan_reader.specs.Units.{plan_units, unit_value}
use Rattle.plan_reader.specs.Graph.{graph_of}
use Rattle.build_workers.specs.RunDesks.{known_by}
use Rattle.build_workers.specs.Desks.{DeskView}
use Rattle.build_workers.specs.Sent.{AreSentAndOneMore, AreSentFor}
use Rattle.build_workers.specs.declared.options.RunOptions.{RunOptions}

-- how deep one follows `after`: no chain of tasks that come after one another is longer
abbrev pub depth : PlanView → ℕ
depth plan = length plan.tasks

-- Marks and outcomes are those of the plan, by what its units give: by their files where these are known, but for the units
-- that met a fault or want of memory; and where they aren't, whatever gives each closed unit the outcome of its closing entry.
abbrev pub HasResults : PlanView → Option Folder → BookView → Type 0
HasResults plan (Some files) b = ComesTo b.graph b.history (answers (unit_value plan files) b.history) (depth plan)
HasResults plan None b = (v : ℕ → Outcome) → GivesClosedOutcomes v b.history → ComesTo b.graph b.history v (depth plan)

-- A whole run of a plan with these options, by what is known of its desks before and after.
pub record IsRunOf (plan : PlanView) (options : RunOptions) (before after : ℕ → DeskView) (b : BookView) : Type 0 where
  -- the state is the replay of the stored entries, each allowed where it stands; at most max leases are out, and no worker owns what it has parked
  pub graph : b.graph ≡ graph_of plan options.workers options.max_leases options.parallel
  pub replays : b.state ≡ replay b.graph b.history
  pub lawful : Lawful b.graph b.history
  pub good : Good b.state
  -- so is the state between any two transforms: that of each front of the history
  pub always_good : (front later : List Entry) → b.history ≡ front ++ later → Good (replay b.graph front)
  -- at its end nobody has anything, and each mark has ended
  pub rest : IsAtRest b.state
  pub ended : HasEnded b.state
  -- each task was started or skipped once, each closed item claimed once and closed once
  pub order : IsOrderly b.graph b.history
  -- marks and outcomes are those of the plan alone, where each worker's desk knows its files
  pub results : HasResults plan (known_by options.workers before) b
  -- each entry is one of the workers', and the units that a worker closed with Fault number at most the rise of its desk's count, where that isn't at its end
  pub workers : All (λ e. e.worker.0 < options.workers) b.history
  pub faults : (i : ℕ) → i < options.workers → (after i).faults < 2 ^ 64 - 1
      → faults_by (record { 0 = i }) b.history + (before i).faults ≤ (after i).faults
  -- each worker's desk sent what is sent for the units that the worker closed, in their order, and nothing else
  pub requests : (i : ℕ) → i < options.workers → AreSentFor (plan_units plan) (closed_by (record { 0 = i }) b.history) (before i).sent (after i).sent

-- A run of a plan that was broken off: its workers made these entries, each allowed where it stands. Each worker's desk sent what is
-- sent for the units that the worker closed, and for at most one more.
pub record WasBrokenOff (plan : PlanView) (options : RunOptions) (before after : ℕ → DeskView) : Type 0 where
  pub history : List Entry
  pub lawful : Lawful (graph_of plan options.workers options.max_leases options.parallel) history
  pub requests : (i : ℕ) → i < options.workers
      → AreSentAndOneMore (plan_units plan) (closed_by (record { 0 = i }) history) (before i).sent (after i).sent
