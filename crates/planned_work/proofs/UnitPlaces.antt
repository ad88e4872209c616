-- Units by their places, and in a graph without names.
use mir.Val.{bool_byte}
use Rattle.std.proofs.Common.{ℕ, ◌+◌, ◌≡◌, ◌<◌, ◌≤◌, zero, suc, Bool, true, false, Option, Some, None, List, [], ◌∷◌, arith, drop, get_or, length, map, take, refl, ap, sym, ◌∙◌, subst}
use Rattle.std.specs.List.{All}
use Rattle.std.specs.Bool.{then_some}
use Rattle.std.specs.Prelude.{IfSome, sum_by}
use Rattle.std.proofs.lemmas.List.{length-map, take_all}
use Rattle.std.proofs.lemmas.List.Elements.{All-map}
use Rattle.std.proofs.lemmas.List.Sums.{sum_by-cons}
use Rattle.lock_journal.specs.Names.{Fits, Follow, GraphView, GraphTaskView, action_of, no_action, no_task, task_of, made_of, IsActionOf, IsIn}
use Rattle.lock_journal.specs.Names.{fetches, first_item, units_in, GraphAction, LockId, MAX_ACTIONS_PER_TASK, MAX_AFTER}
use Rattle.resource_lock.specs.GraphTasks.{graph_view, tasks_from}
use Rattle.resource_lock.specs.declared.graph_tasks.GraphTask.{GraphTask}
use Rattle.planned_work.specs.Numbers.{IsActionAt, IsUnitAt, IsUnitIn, task_without_names, without_names}
use Rattle.planned_work.specs.declared.numbers.Numbered.{Numbered}

first_same : (ts : List GraphTaskView) (t : ℕ) → (get_or (map task_without_names ts) t no_task).first_action ≡ (get_or ts t no_task).first_action
first_same [] t = refl
first_same (x ∷ ts) zero = refl
first_same (x ∷ ts) (suc t) = first_same ts t

count_same : (ts : List GraphTaskView) (t : ℕ) → (get_or (map task_without_names ts) t no_task).actions ≡ (get_or ts t no_task).actions
count_same [] t = refl
count_same (x ∷ ts) zero = refl
count_same (x ∷ ts) (suc t) = count_same ts t

pub action_same : (g : GraphView) (a t k : ℕ) → IsActionAt (without_names g) a t k → IsActionAt g a t k
action_same g a t k at = record {
  task_is = (let low = at.task_is in let size = length-map g.tasks task_without_names in omega (arith, low, size));
  own = subst (λ n. IsIn n (task_of g t).actions a) (first_same g.tasks t) (subst (λ n. IsIn (task_of (without_names g) t).first_action n a) (count_same g.tasks t) at.own);
  number = at.number ∙ ap (λ n. n + k) (first_same g.tasks t);
}

pub unit_same : (g : GraphView) (u : ℕ) (at : Numbered) → IsUnitAt (without_names g) u at → IsUnitAt g u at
unit_same g u at h = (h.0, action_same g h.0 at.task at.action h.1, h.2)

-- ---- the graph without names fits where the graph does

same_length : (g : GraphView) → length (map task_without_names g.tasks) ≡ length g.tasks
same_length g = length-map g.tasks task_without_names

follow_without : (n : ℕ) (ts : List GraphTaskView) (stop : ℕ) → Follow (λ (t : GraphTaskView). t.first_action) (λ (t : GraphTaskView). t.actions) n ts stop
    → Follow (λ (t : GraphTaskView). t.first_action) (λ (t : GraphTaskView). t.actions) n (map task_without_names ts) stop
follow_without n [] stop h = h
follow_without n (t ∷ ts) stop h = (h.0, follow_without (n + t.actions) ts stop h.1)

action_without : (g : GraphView) (t a : ℕ) → IsActionOf g t a → IsActionOf (without_names g) t a
action_without g t a own = subst (λ n. IsIn n (task_of (without_names g) t).actions a) (sym (first_same g.tasks t)) (subst (λ n. IsIn (task_of g t).first_action n a) (sym (count_same g.tasks t)) own)

pub fits_without : (g : GraphView) → Fits g → Fits (without_names g)
fits_without g f = record {
  some_worker = f.some_worker;
  few_workers = f.few_workers;
  some_lease = f.some_lease;
  few_leases = f.few_leases;
  few_locks = f.few_locks;
  all_within = f.all_within;
  few_tasks = (let few = f.few_tasks in let size = same_length g in omega (arith, few, size));
  few_units = f.few_units;
  few_actions = All-map (λ (t : GraphTaskView). t.actions ≤ MAX_ACTIONS_PER_TASK) task_without_names g.tasks f.few_actions;
  few_after = All-map (λ (t : GraphTaskView). length t.after ≤ MAX_AFTER) task_without_names g.tasks (λ k d low. omega arith);
  locks_within = All-map (λ (t : GraphTaskView). t.lock.0 < g.locks) task_without_names g.tasks f.locks_within;
  after_within = All-map (λ (t : GraphTaskView). All (λ p. p < length (map task_without_names g.tasks)) t.after) task_without_names g.tasks (λ k d low i e none. absurd (omega (arith, none)));
  actions_follow = follow_without 0 g.tasks (length g.actions) f.actions_follow;
  units_follow = f.units_follow;
  own_task = λ a low. action_without g (action_of g a).task a (f.own_task a low);
  some_item = f.some_item;
}

-- the tasks without names are their rows
pub bare_rows : (rows : List GraphTask) (lists : List (List ℕ)) → map task_without_names (tasks_from rows lists) ≡ map (λ (t : GraphTask). graph_view t []) rows
bare_rows [] lists = refl
bare_rows (t ∷ ts) lists = ap (λ rest. graph_view t [] ∷ rest) (bare_rows ts (drop 1 lists))

-- where none is left
pub all_bare : (tasks made : List GraphTaskView) (rows : List GraphTask) (lists : List (List ℕ)) (n : ℕ) → tasks_from rows lists ≡ tasks → length rows ≤ n → made ≡ map (λ (t : GraphTask). graph_view t []) (take n rows)
    → made ≡ map task_without_names tasks
all_bare tasks made rows lists n shown past so_far = so_far ∙ ap (map (λ (t : GraphTask). graph_view t [])) (take_all n rows past) ∙ sym (bare_rows rows lists) ∙ ap (map task_without_names) shown

-- ---- ranges end within the stop

follow_le : {X : Type 0} (first count : X → ℕ) (n : ℕ) (xs : List X) (stop : ℕ) → Follow first count n xs stop → n ≤ stop
follow_le first count n [] stop h = omega (arith, h)
follow_le first count n (x ∷ xs) stop h = let rest = follow_le first count (n + count x) xs stop h.1 in omega (arith, rest)

range_ends : {X : Type 0} (first count : X → ℕ) (n : ℕ) (xs : List X) (stop i : ℕ) (d : X) → Follow first count n xs stop → i < length xs → first (get_or xs i d) + count (get_or xs i d) ≤ stop
range_ends first count n [] stop i d h low = absurd (omega (arith, low))
range_ends first count n (x ∷ xs) stop zero d h low = let rest = follow_le first count (n + count x) xs stop h.1 in omega (arith, h.0, rest)
range_ends first count n (x ∷ xs) stop (suc i) d h low = range_ends first count (n + count x) xs stop i d h.1 (omega (arith, low))

-- the action at a place of a task is one of the graph, and so are the action's units
pub action_within : (g : GraphView) (t k : ℕ) → Fits g → t < length g.tasks → k < (task_of g t).actions → (task_of g t).first_action + k < length g.actions
action_within g t k fits low at =
    let ends = range_ends (λ (t : GraphTaskView). t.first_action) (λ (t : GraphTaskView). t.actions) 0 g.tasks (length g.actions) t no_task fits.actions_follow low in
    omega (arith, ends, at)

pub units_within : (g : GraphView) (a : ℕ) → Fits g → a < length g.actions → (action_of g a).first_unit + units_in (action_of g a) ≤ g.units
units_within g a fits low = range_ends (λ (a : GraphAction). a.first_unit) units_in 0 g.actions g.units a no_action fits.units_follow low

-- the action at this place
pub action_here : (g : GraphView) (t k : ℕ) → t < length g.tasks → k < (task_of g t).actions → IsActionAt g ((task_of g t).first_action + k) t k
action_here g t k low at = record { task_is = low; own = (omega arith, omega (arith, at)); number = refl }

-- the task and the action at this place of it, by the task's row
pub place_shown : (g : GraphView) (ts : List GraphTaskView) (t k : ℕ) (x : GraphTask) → Fits g → ts ≡ g.tasks → t < length ts → x.first_action ≡ (get_or ts t no_task).first_action → x.actions ≡ (get_or ts t no_task).actions
    → k < x.actions → (x.first_action + k < length g.actions) × IsActionAt g (x.first_action + k) t k
place_shown g ts t k x fits shown low first count at =
    let there : t < length g.tasks = subst (λ (l : List GraphTaskView). t < length l) shown low in
    let first_is : (task_of g t).first_action ≡ x.first_action = ap (λ (l : List GraphTaskView). (get_or l t no_task).first_action) (sym shown) ∙ sym first in
    let count_is : (task_of g t).actions ≡ x.actions = ap (λ (l : List GraphTaskView). (get_or l t no_task).actions) (sym shown) ∙ sym count in
    let inside : k < (task_of g t).actions = omega (arith, count_is, at) in (
      subst (λ n. n + k < length g.actions) first_is (action_within g t k fits there inside),
      subst (λ n. IsActionAt g (n + k) t k) first_is (action_here g t k there inside),
    )

-- the fetch or the item at this place
pub byte_is : (b : Bool) → bool_byte b ≡ fetches b
byte_is true = refl
byte_is false = refl

pub fetch_there : (g : GraphView) (a : ℕ) (at : Numbered) (b : Bool) → Fits g → a < length g.actions → IsActionAt g a at.task at.action → at.item ≡ None → (action_of g a).fetch ≡ b
    → IfSome (then_some b (action_of g a).first_unit) (λ unit. IsUnitAt g unit at × (unit < g.units))
fetch_there g a at true fits low here none is =
    let ends = units_within g a fits low in
    let one = ap fetches is in (
      (a, here, subst (IsUnitIn g a (action_of g a).first_unit) (sym none) (is, refl)),
      omega (arith, ends, one),
    )
fetch_there g a at false fits low here none is = _

pub item_there : (g : GraphView) (a : ℕ) (at : Numbered) (i u : ℕ) → Fits g → a < length g.actions → IsActionAt g a at.task at.action → at.item ≡ Some i → i < (action_of g a).items → u ≡ first_item (action_of g a) + i
    → IsUnitAt g u at × (u < g.units)
item_there g a at i u fits low here item inside is =
    let ends = units_within g a fits low in (
      (a, here, subst (IsUnitIn g a u) (sym item) ((omega (arith, is), omega (arith, is, inside)), is)),
      omega (arith, ends, is, inside),
    )

-- ---- the graph without names of these parts

follow_sum : {X : Type 0} (first count : X → ℕ) (n : ℕ) (xs : List X) (stop : ℕ) → Follow first count n xs stop → n + sum_by count xs ≡ stop
follow_sum first count n [] stop h = omega (arith, h)
follow_sum first count n (x ∷ xs) stop h =
    let rest = follow_sum first count (n + count x) xs stop h.1 in
    let sum = sum_by-cons count x xs in
    omega (arith, rest, sum)

pub made_without : (g : GraphView) (locks : ℕ) (all : Option LockId) (workers max_leases : ℕ) (tasks : List GraphTaskView) (actions : List GraphAction) → Fits g → locks ≡ g.locks → all ≡ g.all → workers ≡ g.workers → max_leases ≡ g.max_leases
    → tasks ≡ map task_without_names g.tasks → actions ≡ g.actions → made_of locks all workers max_leases tasks actions ≡ without_names g
made_without g locks all workers max_leases tasks actions fits locks_are all_is workers_are leases_are tasks_are actions_are =
    let units_are : sum_by units_in g.actions ≡ g.units = (let sum = follow_sum (λ (a : GraphAction). a.first_unit) units_in 0 g.actions g.units fits.units_follow in omega (arith, sum)) in
    λ i. record {
      locks = locks_are i;
      all = all_is i;
      workers = workers_are i;
      max_leases = leases_are i;
      units = (ap (λ (as' : List GraphAction). sum_by units_in as') actions_are ∙ units_are) i;
      tasks = tasks_are i;
      actions = actions_are i;
    }
