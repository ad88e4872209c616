-- A plan, without where it lies in memory.
use Rattle.std.specs.Prelude.{ℕ, Bool, List, map, Option, None, Some}
use Rattle.resource_lock.specs.declared.graphs.Retention.{Retention}
use Rattle.item_actions.specs.declared.actions.ItemAction.{ItemAction}
use Rattle.daemon_requirements.specs.declared.work.Isolation.{Isolation}
use Rattle.daemon_requirements.specs.declared.work.Isolation.TheVariants.{InThread, Process}
use Rattle.daemon_requirements.specs.declared.work.Work.{Work}
use Rattle.daemon_requirements.specs.RequirementsView.{RequirementsView}
use Rattle.plan_reader.specs.declared.plans.PlanAction.{PlanAction}
use Rattle.plan_reader.specs.declared.plans.PlanTask.{PlanTask}

-- an item; one that runs in a process has the requirements that its daemon must cover
pub record WorkView : Type 0 where
  pub action : ItemAction
  pub file : List ℕ
  pub process : Option RequirementsView

pub record PlanActionView : Type 0 where
  pub fetch : Option (List ℕ)
  pub retention : Retention
  pub items : List WorkView

pub record PlanTaskView : Type 0 where
  pub name : List ℕ
  pub project : ℕ
  pub after : List ℕ
  pub all_projects : Bool
  pub actions : List PlanActionView

pub record PlanView : Type 0 where
  pub projects : List (List ℕ)
  pub tasks : List PlanTaskView
  pub requirements : List RequirementsView

abbrev pub process_of : Isolation → Option RequirementsView
process_of InThread = None
process_of (Process asked) = Some asked

abbrev pub work_view : Work → WorkView
work_view w = record { action = w.action; file = w.file; process = process_of w.isolation }

abbrev pub plan_action_view : PlanAction → PlanActionView
plan_action_view a = record { fetch = a.fetch; retention = a.retention; items = map work_view a.items.items }

abbrev pub plan_task_view : PlanTask → PlanTaskView
plan_task_view t =
    record { name = t.name; project = t.project; after = t.after.items; all_projects = t.all_projects; actions = map plan_action_view t.actions.items }

abbrev pub plan_view : List (List ℕ) → List PlanTask → List RequirementsView → PlanView
plan_view projects tasks requirements = record { projects = projects; tasks = map plan_task_view tasks; requirements = requirements }
