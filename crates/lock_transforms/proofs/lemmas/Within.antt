-- The ranges of a graph that fits lie within it.
use Rattle.std.proofs.Common.{◌≡◌, ℕ, zero, suc, ◌+◌, ◌^◌, ◌<◌, ◌≤◌, List, [], ◌∷◌, length, get_or, sym, ◌∙◌, ap, subst, inl, inr, arith}
use Rattle.std.specs.List.{All, range_with_len}
use Rattle.std.proofs.lemmas.Bool.{cases_lt}
use Rattle.std.proofs.lemmas.List.{get_or_default, get_or_past}
use Rattle.resource_lock.specs.declared.graphs.GraphAction.{GraphAction}
use Rattle.resource_lock.specs.GraphView.{GraphView, GraphTaskView, no_task, no_action, task_of, action_of}
use Rattle.resource_lock.specs.Ranges.{IsIn, IsActionOf, units_in}
use Rattle.resource_lock.specs.Fits.{Follow, Fits}
use Rattle.resource_lock.proofs.lemmas.Units.{few_actions_in_all}

stop_follow : {X : Type 0} (first count : X → ℕ) (n : ℕ) (xs : List X) (stop : ℕ) → Follow first count n xs stop → n ≤ stop
stop_follow first count n [] stop f = omega arith
stop_follow first count n (x ∷ xs) stop f = let rest : n + count x ≤ stop = stop_follow first count (n + count x) xs stop f.1 in omega arith

-- each range ends before the stop
within_follow : {X : Type 0} (first count : X → ℕ) (n : ℕ) (xs : List X) (stop i : ℕ) (d : X) → Follow first count n xs stop → i < length xs → first (get_or xs i d) + count (get_or xs i d) ≤ stop
within_follow first count n [] stop i d f within = absurd (omega arith)
within_follow first count n (x ∷ xs) stop zero d f within = let rest : n + count x ≤ stop = stop_follow first count (n + count x) xs stop f.1 in omega (arith, f.0)
within_follow first count n (x ∷ xs) stop (suc i) d f within = within_follow first count (n + count x) xs stop i d f.1 (omega arith)

-- each range ends where the next begins
meets_follow : {X : Type 0} (first count : X → ℕ) (n : ℕ) (xs : List X) (stop i : ℕ) (d : X) → Follow first count n xs stop → i + 1 < length xs → first (get_or xs i d) + count (get_or xs i d) ≡ first (get_or xs (i + 1) d)
meets_follow first count n [] stop i d f within = absurd (omega arith)
meets_follow first count n (x ∷ []) stop zero d f within = absurd (omega arith)
meets_follow first count n (x ∷ y ∷ xs) stop zero d f within = omega (arith, f.0, f.1.0)
meets_follow first count n (x ∷ xs) stop (suc i) d f within =
    let later : suc (i + 1) ≡ suc i + 1 = omega arith in
    subst (λ j. first (get_or xs i d) + count (get_or xs i d) ≡ first (get_or (x ∷ xs) j d)) later (meets_follow first count (n + count x) xs stop i d f.1 (omega arith))

pub actions_within : {g : GraphView} → Fits g → (t : ℕ) → t < length g.tasks → (task_of g t).first_action + (task_of g t).actions ≤ length g.actions
actions_within {g} fits t within = within_follow (λ t. t.first_action) (λ t. t.actions) 0 g.tasks (length g.actions) t no_task fits.actions_follow within

pub units_within : {g : GraphView} → Fits g → (a : ℕ) → a < length g.actions → (action_of g a).first_unit + units_in (action_of g a) ≤ g.units
units_within {g} fits a within = within_follow (λ a. a.first_unit) units_in 0 g.actions g.units a no_action fits.units_follow within

pub units_meet : {g : GraphView} → Fits g → (a : ℕ) → a + 1 < length g.actions → (action_of g a).first_unit + units_in (action_of g a) ≡ (action_of g (a + 1)).first_unit
units_meet {g} fits a within = meets_follow (λ a. a.first_unit) units_in 0 g.actions g.units a no_action fits.units_follow within

-- a task with an action is one of the graph's
pub task_within : (g : GraphView) (t a : ℕ) → IsActionOf g t a → t < length g.tasks
task_within g t a h = elim (cases_lt t (length g.tasks)) [
  | inl within ↦ within
  | inr past ↦
      let none : IsIn no_task.first_action no_task.actions a = subst (λ (z : GraphTaskView). IsIn z.first_action z.actions a) (get_or_past g.tasks t no_task past) h in
      absurd (omega (arith, none.1))
]

-- What holds of a task of the graph.
pub record IsTaskOf (g : GraphView) (task : GraphTaskView) : Type 0 where
  pub lock : task.lock.0 < g.locks
  pub after : All (λ p. p < length g.tasks) task.after
  pub actions : task.first_action + task.actions ≤ length g.actions
  pub fits : task.first_action + task.actions < 2 ^ 32

pub task_fits : {g : GraphView} → Fits g → (t : ℕ) → t < length g.tasks → IsTaskOf g (task_of g t)
task_fits {g} fits t within = record {
  lock = fits.locks_within t no_task within;
  after = fits.after_within t no_task within;
  actions = actions_within fits t within;
  fits = omega (arith, actions_within fits t within, few_actions_in_all g fits);
}

-- so of one that was read
pub task_read : {g : GraphView} (tasks : List GraphTaskView) (i : ℕ) → Fits g → tasks ≡ g.tasks → i < length g.tasks → IsTaskOf g (get_or tasks i no_task)
task_read {g} tasks i fits is within = subst (λ ts. IsTaskOf g (get_or ts i no_task)) (sym is) (task_fits fits i within)

-- What holds of an action of the graph, by its number.
pub record IsActionAt (g : GraphView) (i : ℕ) (action : GraphAction) : Type 0 where
  pub own : IsActionOf g action.task i
  pub units : action.first_unit + units_in action ≤ g.units

pub action_read : {g : GraphView} (actions : List GraphAction) (i : ℕ) (d : GraphAction) → Fits g → actions ≡ g.actions → i < length g.actions → IsActionAt g i (get_or actions i d)
action_read {g} actions i d fits is within =
    subst (IsActionAt g i) (get_or_default g.actions i no_action d within ∙ ap (λ (as' : List GraphAction). get_or as' i d) (sym is)) record { own = fits.own_task i within; units = units_within fits i within }

-- a range by its first number and its length
pub same_range : {a b n m : ℕ} → a ≡ b → n ≡ m → range_with_len a n ≡ range_with_len b m
same_range {b = b} {n = n} first count = ap (λ k. range_with_len k n) first ∙ ap (range_with_len b) count
