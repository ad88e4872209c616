-- Which actions a task has, and which units an action has: by number, and as lists in order.
use Rattle.std.specs.Prelude.{ℕ, ◌≡◌, ◌⊎◌, ◌+◌, ◌-◌, ◌<◌, ◌≤◌, nat_lt, nat_le, Bool, true, ◌&&◌, List, if◌then◌else◌}
use Rattle.std.specs.List.{list_any, range_with_len}
use Rattle.resource_lock.specs.GraphView.{GraphView, task_of, action_of}
use Rattle.resource_lock.specs.declared.ids.LockId.{LockId}
use Rattle.resource_lock.specs.declared.graphs.GraphAction.{GraphAction}

-- how many fetches: one or none
abbrev pub fetches : Bool → ℕ
fetches b = if b then 1 else 0

-- the fetch comes before the items
abbrev pub first_item : GraphAction → ℕ
first_item a = a.first_unit + fetches a.fetch

-- how many units an action has
abbrev pub units_in : GraphAction → ℕ
units_in a = a.items + fetches a.fetch

-- the number is one of so many from the first on
abbrev pub IsIn : ℕ → ℕ → ℕ → Type 0
IsIn first count n = (first ≤ n) × (n < first + count)

abbrev pub IsActionOf : GraphView → ℕ → ℕ → Type 0
IsActionOf g t a = IsIn (task_of g t).first_action (task_of g t).actions a

abbrev pub IsItemOf : GraphView → ℕ → ℕ → Type 0
IsItemOf g a u = IsIn (first_item (action_of g a)) (action_of g a).items u

abbrev pub IsFetchOf : GraphView → ℕ → ℕ → Type 0
IsFetchOf g a u = ((action_of g a).fetch ≡ true) × (u ≡ (action_of g a).first_unit)

abbrev pub IsUnitOf : GraphView → ℕ → ℕ → Type 0
IsUnitOf g a u = IsFetchOf g a u ⊎ IsItemOf g a u

abbrev pub IsItem : GraphView → ℕ → Type 0
IsItem g u = (a : ℕ) × IsItemOf g a u

-- the same as lists
abbrev pub actions_of : GraphView → ℕ → List ℕ
actions_of g t = range_with_len (task_of g t).first_action (task_of g t).actions

abbrev pub items_of : GraphView → ℕ → List ℕ
items_of g a = range_with_len (first_item (action_of g a)) (action_of g a).items

abbrev pub units_of : GraphView → ℕ → List ℕ
units_of g a = range_with_len (action_of g a).first_unit (units_in (action_of g a))

-- the task of an action, and its lock
abbrev pub task_with : GraphView → ℕ → ℕ
task_with g a = (action_of g a).task

abbrev pub lock_with : GraphView → ℕ → LockId
lock_with g a = (task_of g (task_with g a)).lock

-- the actions before this one in its task
abbrev pub earlier_actions : GraphView → ℕ → List ℕ
earlier_actions g a = range_with_len (task_of g (task_with g a)).first_action (a - (task_of g (task_with g a)).first_action)

-- whether a unit is among an action's items
abbrev pub has_item : ℕ → GraphAction → Bool
has_item u a = nat_le (first_item a) u && nat_lt u (first_item a + a.items)

-- whether a unit is an item of some action
abbrev pub is_item : GraphView → ℕ → Bool
is_item g u = list_any (has_item u) g.actions
