-- Where a worker of a plan is, by what its pass shows, and where it may make which call.
use Rattle.std.specs.Prelude.{ℕ, ◌==◌, Bool, true, false, not, ◌&&◌, ◌||◌, List, [], ◌∷◌, Option, Some, None, length}
use Rattle.lock_journal.specs.Names.{MarkId, TaskOf, ActionOf, UnitOf}
use Rattle.coordination.specs.Shown.{blocked_shown, claimed_shown, lease_shown, locks_shown}
use Rattle.coordination.specs.declared.rule.Sight.{Sight}
use Rattle.planned_work.specs.declared.places.Place.{Place}
use Rattle.planned_work.specs.declared.places.Place.TheVariants.{Idle, Outside, InTask, Fetch, Parked, Item, ItemIn, Section}

-- the first unit, action and task among marks
abbrev pub unit_in : List MarkId → Option ℕ
unit_in [] = None
unit_in (TaskOf t ∷ ms) = unit_in ms
unit_in (ActionOf a ∷ ms) = unit_in ms
unit_in (UnitOf u ∷ ms) = Some u

abbrev pub action_in : List MarkId → Option ℕ
action_in [] = None
action_in (TaskOf t ∷ ms) = action_in ms
action_in (ActionOf a ∷ ms) = Some a
action_in (UnitOf u ∷ ms) = action_in ms

abbrev pub task_in : List MarkId → Option ℕ
task_in [] = None
task_in (TaskOf t ∷ ms) = Some t
task_in (ActionOf a ∷ ms) = task_in ms
task_in (UnitOf u ∷ ms) = task_in ms

-- the worker has a lease or a lock
abbrev pub has_any : Sight → Bool
has_any s = lease_shown s || not (length (locks_shown s) == 0)

-- the place of a worker that is blocked or isn't, by the unit, action and task that it runs, and whether it has anything
abbrev pub place_by : Bool → Option ℕ → Option ℕ → Option ℕ → Bool → Place
place_by true (Some u) a t any = Fetch u
place_by true None a t any = Section
place_by false (Some u) (Some a) t any = ItemIn u a
place_by false (Some u) None t any = Item u
place_by false None (Some a) t any = Parked a
place_by false None None (Some t) any = InTask t
place_by false None None None true = Outside
place_by false None None None false = Idle

abbrev pub place_of : Sight → Place
place_of s = place_by (blocked_shown s) (unit_in (claimed_shown s)) (action_in (claimed_shown s)) (task_in (claimed_shown s)) (has_any s)

-- where a worker may ask what it does next
abbrev pub may_next : Place → Bool
may_next Idle = true
may_next (InTask t) = true
may_next (Parked a) = true
may_next _ = false

-- where it has a unit that it may close
abbrev pub closes : Place → Bool
closes (Item u) = true
closes (ItemIn u a) = true
closes (Fetch u) = true
closes _ = false

-- where it is in no part of the plan that it may not leave for a while
abbrev pub works : Place → Bool
works (InTask t) = true
works Outside = true
works _ = false

-- where it may enter a blocking section
abbrev pub may_enter : Sight → Bool
may_enter s = works (place_of s) && lease_shown s

-- where it may leave one
abbrev pub may_leave : Place → Bool
may_leave Section = true
may_leave _ = false
