use Rattle.std.proofs.Common.{◌≡◌, ℕ, List, [], ◌∷◌, ◌++◌, length, ap, ap₂, ◌∙◌, arith}
use Rattle.std.proofs.lemmas.List.{length-append}
use Rattle.resource_lock.specs.GraphView.{GraphTaskView}
use Rattle.resource_lock.specs.GraphTasks.{graph_view, tasks_from}
use Rattle.resource_lock.specs.declared.graph_tasks.GraphTask.{GraphTask}
use Rattle.resource_lock.proofs.TaskRows.{tasks_push}
use Rattle.resource_lock.proofs.graph_tasks.GraphTasks.push.Goals as goal
use Rattle.resource_lock.proofs.graph_tasks.GraphTasks.push.Goals.{After-push_reserved}

rows_are : (c : After-push_reserved) → c.push_reserved.new.self.items ≡ c.self.inside.rows.items ++ c.args.task ∷ []
rows_are c = c.push_reserved.ensures.items ∙ ap (λ (ts : List GraphTask). ts ++ c.args.task ∷ []) c.in_ok-try_reserve.ensures.items

pub invariant_of-self : goal.invariant_of-self
invariant_of-self c = omega (arith, ap (λ (ts : List GraphTask). length ts) c.in_err-try_reserve.ensures.items, c.self.invariant)

pub invariant_of-self-2 : goal.invariant_of-self-2
invariant_of-self-2 c =
    let lists = ap (λ (d : List (List ℕ)). length d) c.in_ok-push.ensures.ok in
    let rows = ap (λ (ts : List GraphTask). length ts) (rows_are c) in
    omega (arith, lists, rows, c.self.invariant, length-append c.self.inside.after (c.args.after.now ∷ []), length-append c.self.inside.rows.items (c.args.task ∷ []))

pub returns-clause-ok : goal.returns-clause-ok
returns-clause-ok c =
    ap₂ (λ (ts : List GraphTask) (ls : List (List ℕ)). tasks_from ts ls) (rows_are c) c.in_ok-push.ensures.ok
    ∙ tasks_push c.self.inside.rows.items c.self.inside.after c.args.task c.args.after.now c.self.invariant
    ∙ ap (λ (ts : List GraphTaskView). ts ++ graph_view c.args.task c.args.after.now ∷ []) c.self.view_is
