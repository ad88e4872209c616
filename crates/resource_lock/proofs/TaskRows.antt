-- The tasks of a graph, by what is stored of them.
use Rattle.std.proofs.Common.{◌≡◌, ℕ, zero, suc, ◌+◌, ◌<◌, List, [], ◌∷◌, ◌++◌, length, drop, get_or, refl, sym, ap, ◌∙◌, arith}
use Rattle.std.proofs.lemmas.List.{get_or-drop}
use Rattle.resource_lock.specs.Fits.{Follow}
use Rattle.resource_lock.specs.GraphView.{GraphTaskView, no_row, no_task}
use Rattle.resource_lock.specs.GraphTasks.{graph_view, tasks_from}
use Rattle.resource_lock.specs.declared.graph_tasks.GraphTask.{GraphTask}

pub length-tasks_from : (ts : List GraphTask) (ls : List (List ℕ)) → length (tasks_from ts ls) ≡ length ts
length-tasks_from [] ls = refl
length-tasks_from (t ∷ ts) ls = ap suc (length-tasks_from ts (drop 1 ls))

-- one task more
pub tasks_push : (ts : List GraphTask) (ls : List (List ℕ)) (t : GraphTask) (l : List ℕ) → length ls ≡ length ts → tasks_from (ts ++ t ∷ []) (ls ++ l ∷ []) ≡ tasks_from ts ls ++ graph_view t l ∷ []
tasks_push [] [] t l same = refl
tasks_push [] (x ∷ ls) t l same = absurd (omega (arith, same))
tasks_push (s ∷ ts) [] t l same = absurd (omega (arith, same))
tasks_push (s ∷ ts) (x ∷ ls) t l same = ap (λ rest. graph_view s x ∷ rest) (tasks_push ts ls t l (omega (arith, same)))

-- the task at a place
pub task_at : (ts : List GraphTask) (ls : List (List ℕ)) (i : ℕ) (t : GraphTask) → i < length ts → t ≡ get_or ts i t → get_or (tasks_from ts ls) i no_task ≡ graph_view t (get_or ls i [])
task_at [] ls i t lt is = absurd (omega (arith, lt))
task_at (s ∷ ts) ls zero t lt is = ap (λ (x : GraphTask). graph_view x (get_or ls 0 [])) (sym is)
task_at (s ∷ ts) ls (suc i) t lt is =
    let place : 1 + i ≡ suc i = omega arith in
    task_at ts (drop 1 ls) i t (omega (arith, lt)) is ∙ ap (graph_view t) (get_or-drop 1 ls i [] ∙ ap (λ k. get_or ls k []) place)

-- the same of tasks that are made of these
pub task_read : (ts : List GraphTask) (ls : List (List ℕ)) (tasks : List GraphTaskView) → tasks_from ts ls ≡ tasks → (i : ℕ) (t : GraphTask) → i < length tasks → t ≡ get_or ts i t → get_or tasks i no_task ≡ graph_view t (get_or ls i [])
task_read ts ls tasks are i t lt is =
    let within : i < length ts = omega (arith, lt, ap length are, length-tasks_from ts ls) in
    ap (λ (all : List GraphTaskView). get_or all i no_task) (sym are) ∙ task_at ts ls i t within is

-- its range of actions, also where there is none
pub first_at : (ts : List GraphTask) (ls : List (List ℕ)) (i : ℕ) → (get_or (tasks_from ts ls) i no_task).first_action ≡ (get_or ts i no_row).first_action
first_at [] ls i = refl
first_at (t ∷ ts) ls zero = refl
first_at (t ∷ ts) ls (suc i) = first_at ts (drop 1 ls) i

pub actions_at : (ts : List GraphTask) (ls : List (List ℕ)) (i : ℕ) → (get_or (tasks_from ts ls) i no_task).actions ≡ (get_or ts i no_row).actions
actions_at [] ls i = refl
actions_at (t ∷ ts) ls zero = refl
actions_at (t ∷ ts) ls (suc i) = actions_at ts (drop 1 ls) i

-- ranges of actions one behind the other
pub follow_with : (n : ℕ) (ts : List GraphTask) (ls : List (List ℕ)) (stop : ℕ) → Follow (λ (t : GraphTask). t.first_action) (λ (t : GraphTask). t.actions) n ts stop
    → Follow (λ (t : GraphTaskView). t.first_action) (λ (t : GraphTaskView). t.actions) n (tasks_from ts ls) stop
follow_with n [] ls stop h = h
follow_with n (t ∷ ts) ls stop h = (h.0, follow_with (n + t.actions) ts (drop 1 ls) stop h.1)

pub follow_without : (n : ℕ) (ts : List GraphTask) (ls : List (List ℕ)) (stop : ℕ) → Follow (λ (t : GraphTaskView). t.first_action) (λ (t : GraphTaskView). t.actions) n (tasks_from ts ls) stop
    → Follow (λ (t : GraphTask). t.first_action) (λ (t : GraphTask). t.actions) n ts stop
follow_without n [] ls stop h = h
follow_without n (t ∷ ts) ls stop h = (h.0, follow_without (n + t.actions) ts (drop 1 ls) stop h.1)
