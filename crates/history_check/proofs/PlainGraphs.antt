-- The graph of a plan in which no task asks for all projects is the one that it had, with one lock more.
use Rattle.std.proofs.Common.{◌≡◌, ℕ, ◌+◌, Bool, false, if◌then◌else◌, List, [], ◌∷◌, length, refl, ap, ◌∙◌}
use Rattle.std.specs.List.{AllByRecursion}
use Rattle.lock_journal.specs.Names.{GraphTaskView, project_lock, LockId}
use Rattle.lock_journal.specs.PlainPlans.{with_all}
use Rattle.plan_reader.specs.Graph.{all_projects_lock, graph_of, task_lock, tasks_from}
use Rattle.plan_reader.specs.PlanView.{PlanTaskView, PlanView}
use Rattle.history_check.specs.PlainPlans.{IsPlain, graph_before}

abbrev own_lock : Bool → PlanTaskView → LockId
own_lock parallel t = project_lock parallel t.project

abbrev task_with : LockId → ℕ → PlanTaskView → GraphTaskView
task_with lock first t = record { lock = lock; after = t.after; first_action = first; actions = length t.actions }

own_locks : (all : LockId) (parallel : Bool) (first : ℕ) (ts : List PlanTaskView) → AllByRecursion (λ t. t.all_projects ≡ false) ts → tasks_from (task_lock all parallel) first ts ≡ tasks_from (own_lock parallel) first ts
own_locks all parallel first [] plain = refl
own_locks all parallel first (t ∷ ts) plain =
    ap (λ (b : Bool). task_with (if b then all else own_lock parallel t) first t ∷ tasks_from (task_lock all parallel) (first + length t.actions) ts) plain.0
    ∙ ap (λ (xs : List GraphTaskView). task_with (own_lock parallel t) first t ∷ xs) (own_locks all parallel (first + length t.actions) ts plain.1)

pub plain_graph : (p : PlanView) (workers max_leases : ℕ) (parallel : Bool) → IsPlain p → graph_of p workers max_leases parallel ≡ with_all (graph_before p workers max_leases parallel)
plain_graph p workers max_leases parallel plain =
    ap (λ (ts : List GraphTaskView). record (graph_of p workers max_leases parallel) { tasks = ts }) (own_locks (all_projects_lock p parallel) parallel 0 p.tasks plain)
