-- The tasks of a plan's graph have ranks.
use Rattle.std.proofs.Common.{◌≡◌, ℕ, zero, suc, ◌+◌, ◌<◌, Bool, false, List, [], ◌∷◌, length, get_or, map, None, refl, sym, ◌∙◌, ap, subst, arith}
use Rattle.std.specs.List.{All}
use Rattle.std.proofs.lemmas.List.{length-map}
use Rattle.lock_journal.specs.Names.{GraphView, GraphTaskView, no_task, LockId, AreRanks}
use Rattle.plan_reader.specs.PlanView.{PlanTaskView, PlanView}
use Rattle.plan_reader.specs.Graph.{all_projects_lock, graph_of, task_lock, tasks_from}
use Rattle.plan_reader.specs.IsPlan.{IsPlan, dependencies}
use Rattle.ready_work.specs.Rank.{Dependencies, InRange, IsFirstCycle, after}
use Rattle.ready_work.specs.Numbering.{IsNumbering}

abbrev afters_in : List GraphTaskView → Dependencies
afters_in ts = map (λ t. t.after) ts

afters_from : (lock : PlanTaskView → LockId) (n : ℕ) (ts : List PlanTaskView) → afters_in (tasks_from lock n ts) ≡ dependencies ts
afters_from lock n [] = refl
afters_from lock n (t ∷ ts) = ap (λ rest. t.after ∷ rest) (afters_from lock (n + length t.actions) ts)

after_in : (ts : List GraphTaskView) (t : ℕ) → after (afters_in ts) t ≡ (get_or ts t no_task).after
after_in [] t = refl
after_in (x ∷ ts) zero = refl
after_in (x ∷ ts) (suc t) = after_in ts t

module _ (plan : PlanView) (g : GraphView) (workers leases : ℕ) (parallel : Bool) (is : g ≡ graph_of plan workers leases parallel) where
  -- the graph's tasks come after the same tasks as the plan's
  same_afters : afters_in g.tasks ≡ dependencies plan.tasks
  same_afters = ap (λ (o : GraphView). afters_in o.tasks) is ∙ afters_from (task_lock (all_projects_lock plan parallel) parallel) 0 plan.tasks

  pub task_count : length g.tasks ≡ length plan.tasks
  task_count = sym (length-map g.tasks (λ (t : GraphTaskView). t.after)) ∙ (ap (λ (d : Dependencies). length d) same_afters ∙ length-map plan.tasks (λ (t : PlanTaskView). t.after))

  pub ranks_of : (number : ℕ → ℕ) → IsNumbering (dependencies plan.tasks) number → AreRanks g number
  ranks_of number numbers = λ t. subst (All (λ u. number u < number t)) (ap (λ d. after d t) (sym same_afters) ∙ after_in g.tasks t) (numbers.rises t)

pub afters_count : (plan : PlanView) → length (dependencies plan.tasks) ≡ length plan.tasks
afters_count plan = length-map plan.tasks (λ (t : PlanTaskView). t.after)

abbrev no_plan_task : PlanTaskView
no_plan_task = record { name = []; project = 0; after = []; all_projects = false; actions = [] }

after_of : (ts : List PlanTaskView) (t : ℕ) → after (dependencies ts) t ≡ (get_or ts t no_plan_task).after
after_of [] t = refl
after_of (x ∷ ts) zero = refl
after_of (x ∷ ts) (suc t) = after_of ts t

pub in_range : (plan : PlanView) → IsPlan plan → InRange (dependencies plan.tasks)
in_range plan is t k lt within =
    let size = afters_count plan in
    let same = after_of plan.tasks t in
    let low : get_or (after (dependencies plan.tasks) t) k 0 < length plan.tasks = subst (λ us. get_or us k 0 < length plan.tasks) (sym same) (is.after_within t no_plan_task (omega (arith, size)) k 0 (omega (arith, within, ap length same))) in
    omega (arith, low, size)

pub no_cycle : (plan : PlanView) → IsPlan plan → IsFirstCycle (dependencies plan.tasks) None
no_cycle plan is = λ t lt. is.ranked t (omega (arith, lt, afters_count plan))
