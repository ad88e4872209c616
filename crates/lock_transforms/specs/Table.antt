-- The kinds of entry: where each can stand, and the changes that it makes.
use Rattle.std.specs.Prelude.{ℕ, ◌+◌, ◌==◌, nat_le, Bool, false, not, ◌&&◌, ◌||◌, List, [], ◌∷◌, ◌++◌, map, reverse}
use Rattle.std.specs.Prelude.{length, Option, None, Some, if◌then◌else◌}
use Rattle.std.specs.List.{list_any, list_all, range_with_len}
use Rattle.resource_lock.specs.StateView.{StateView, holding_of, is_owner, mark_of, runs_unit, is_parked, runs_any, owns_any, is_idle}
use Rattle.resource_lock.specs.Change.{same_mark, can_all}
pub use Rattle.resource_lock.specs.Marks.{has_passed, has_ended, has_fallen}
use Rattle.resource_lock.specs.GraphView.{GraphView, task_of, action_of}
use Rattle.resource_lock.specs.Ranges.{actions_of, items_of, units_of, task_with, lock_with, earlier_actions, is_item}
use Rattle.resource_lock.specs.declared.ids.LockId.{LockId}
use Rattle.resource_lock.specs.declared.ids.WorkerId.{WorkerId}
use Rattle.resource_lock.specs.declared.marks.Mark.{Mark}
use Rattle.resource_lock.specs.declared.marks.Mark.TheVariants.{Waiting, Queued, Running, Passed, Failed, Skipped}
use Rattle.resource_lock.specs.declared.marks.MarkId.TheVariants.{Task as TaskOf, Action as ActionOf, Unit as UnitOf}
use Rattle.resource_lock.specs.declared.changes.Change.{Change}
use Rattle.resource_lock.specs.declared.changes.Change.TheVariants.{Lock, Unlock, Take, Give, Move, Park as ParkLock, Unpark, Enter, Leave}
use Rattle.resource_lock.specs.declared.graphs.Retention.{Retention}
use Rattle.resource_lock.specs.declared.graphs.Retention.TheVariants.{Retain, Release, ReleaseAndReacquire}
use Rattle.item_actions.specs.declared.outcomes.Outcome.{Outcome}
use Rattle.item_actions.specs.declared.outcomes.Outcome.TheVariants as outcomes
use Rattle.lock_transforms.specs.declared.entries.Kind.{Kind}
use Rattle.lock_transforms.specs.declared.entries.Kind.TheVariants.{Start, Skip, Submit, Park, Resume, Claim, Close, Block, Unblock, End, Acquire, HandBack}

-- words on a worker

-- w runs the task and works on it now
abbrev pub works_on : StateView → WorkerId → ℕ → Bool
works_on s w t = same_mark (mark_of s (TaskOf t)) (Running w) && (holding_of s w).lease && not (is_parked s w)

-- the locks that a worker owns, from the lock numbered n on, in rising order
abbrev pub owned_from : ℕ → List (Option WorkerId) → WorkerId → List LockId
owned_from n [] w = []
owned_from n (o ∷ os) w = if is_owner o w then record { 0 = n } ∷ owned_from (n + 1) os w else owned_from (n + 1) os w

abbrev pub owned : StateView → WorkerId → List LockId
owned s w = owned_from 0 s.owners w

-- words on units and actions

abbrev pub units_passed : GraphView → StateView → ℕ → Bool
units_passed g s a = list_all (λ u. has_passed (mark_of s (UnitOf u))) (units_of g a)

-- each earlier action of the same task is Passed, and so are its units
abbrev pub earlier_passed : GraphView → StateView → ℕ → Bool
earlier_passed g s a = list_all (λ b. has_passed (mark_of s (ActionOf b)) && units_passed g s b) (earlier_actions g a)

-- a fetch, where there is one, has passed or failed
abbrev pub fetch_closed : GraphView → StateView → ℕ → Bool
fetch_closed g s a = not (action_of g a).fetch || has_passed (mark_of s (UnitOf (action_of g a).first_unit))
    || same_mark (mark_of s (UnitOf (action_of g a).first_unit)) Failed

-- an action that never ran, after one of its task with a unit that failed
abbrev pub never_ran : GraphView → StateView → ℕ → Bool
never_ran g s a =
    same_mark (mark_of s (ActionOf a)) Waiting
    && list_all (λ u. same_mark (mark_of s (UnitOf u)) Waiting) (units_of g a)
    && list_any (λ b. list_any (λ u. same_mark (mark_of s (UnitOf u)) Failed) (units_of g b)) (earlier_actions g a)

-- moves of several marks

abbrev pub moved_units : List ℕ → Mark → Mark → List Change
moved_units us from to = map (λ u. Move (UnitOf u) from to) us

abbrev pub skipped_action : GraphView → ℕ → List Change
skipped_action g a = Move (ActionOf a) Waiting Skipped ∷ moved_units (units_of g a) Waiting Skipped

abbrev pub skipped_waiting : GraphView → StateView → List ℕ → List Change
skipped_waiting g s [] = []
skipped_waiting g s (a ∷ rest) = (if same_mark (mark_of s (ActionOf a)) Waiting then skipped_action g a else []) ++ skipped_waiting g s rest

abbrev pub skipped_actions : GraphView → List ℕ → List Change
skipped_actions g [] = []
skipped_actions g (a ∷ rest) = skipped_action g a ++ skipped_actions g rest

-- the mark that an outcome gives
abbrev pub mark_from : Outcome → Mark
mark_from (outcomes.Number n) = Passed
mark_from (outcomes.Digest d) = Passed
mark_from _ = Failed

abbrev pub end_mark : GraphView → StateView → ℕ → Mark
end_mark g s t = if list_all (units_passed g s) (actions_of g t) then Passed else Failed

-- locks given back and parked, and taken again

abbrev pub parked_locks : List LockId → List Change
parked_locks [] = []
parked_locks (l ∷ ls) = Unlock l ∷ ParkLock l ∷ parked_locks ls

abbrev pub taken_again : List LockId → List Change
taken_again [] = []
taken_again (l ∷ ls) = Unpark l ∷ Lock l ∷ taken_again ls

abbrev pub set_down : StateView → WorkerId → List Change
set_down s w = Give ∷ parked_locks (owned s w) ++ Enter ∷ []

abbrev pub taken_up : StateView → WorkerId → List Change
taken_up s w = Leave ∷ taken_again (reverse (holding_of s w).parked) ++ Take ∷ []

-- the lock is given back while the items are waited for
abbrev pub on_park : Retention → LockId → List Change
on_park Retain l = Give ∷ []
on_park _ l = Give ∷ Unlock l ∷ ParkLock l ∷ []

abbrev pub on_resume : Retention → LockId → List Change
on_resume Retain l = Take ∷ []
on_resume ReleaseAndReacquire l = Unpark l ∷ Lock l ∷ Take ∷ []
on_resume Release l = Unpark l ∷ []

-- The conditions.
abbrev pub condition : GraphView → StateView → WorkerId → Kind → Bool
condition g s w (Start t) = same_mark (mark_of s (TaskOf t)) Waiting && list_all (λ k. has_passed (mark_of s (TaskOf k))) (task_of g t).after && is_idle s w
condition g s w (Skip t) = same_mark (mark_of s (TaskOf t)) Waiting && list_any (λ k. has_fallen (mark_of s (TaskOf k))) (task_of g t).after && is_idle s w
condition g s w (Submit a) = works_on s w (task_with g a) && same_mark (mark_of s (ActionOf a)) Waiting && earlier_passed g s a && fetch_closed g s a
condition g s w (Park a) = works_on s w (task_with g a) && same_mark (mark_of s (ActionOf a)) Queued
condition g s w (Resume a) = same_mark (mark_of s (ActionOf a)) (Running w) && not (holding_of s w).lease && not (runs_unit s w)
    && list_all (λ u. has_ended (mark_of s (UnitOf u))) (items_of g a)
condition g s w (Claim u) = is_item g u && same_mark (mark_of s (UnitOf u)) Queued && not (runs_unit s w)
    && not (holding_of s w).blocked && not (holding_of s w).lease && (is_parked s w || is_idle s w)
condition g s w (Close c) = is_item g c.unit && same_mark (mark_of s (UnitOf c.unit)) (Running w)
condition g s w (Block (Some u)) = list_any (λ a. (action_of g a).fetch && (action_of g a).first_unit == u
    && works_on s w (task_with g a) && same_mark (mark_of s (ActionOf a)) Waiting && same_mark (mark_of s (UnitOf u)) Waiting
    && earlier_passed g s a) (range_with_len 0 (length g.actions))
condition g s w (Block None) = (holding_of s w).lease && not (runs_unit s w)
condition g s w (Unblock (Some c)) = (holding_of s w).blocked && same_mark (mark_of s (UnitOf c.unit)) (Running w)
condition g s w (Unblock None) = (holding_of s w).blocked && not (runs_unit s w)
condition g s w (End t) = same_mark (mark_of s (TaskOf t)) (Running w) && not (is_parked s w) && not (holding_of s w).blocked
    && not (runs_unit s w) && list_all (λ a. has_passed (mark_of s (ActionOf a)) || never_ran g s a) (actions_of g t)
condition g s w Acquire = not (holding_of s w).blocked && not (runs_any s w)
condition g s w HandBack = not (holding_of s w).blocked && not (runs_any s w) && (owns_any s w || (holding_of s w).lease)

-- The changes, where the kind and the state fix them.
abbrev pub list_of : GraphView → StateView → WorkerId → Kind → List Change
list_of g s w (Start t) = Lock (task_of g t).lock ∷ Take ∷ Move (TaskOf t) Waiting (Running w) ∷ []
list_of g s w (Skip t) = Move (TaskOf t) Waiting Skipped ∷ skipped_actions g (actions_of g t)
list_of g s w (Submit a) = Move (ActionOf a) Waiting Queued ∷ moved_units (items_of g a) Waiting Queued
list_of g s w (Park a) = on_park (action_of g a).retention (lock_with g a) ++ Move (ActionOf a) Queued (Running w) ∷ []
list_of g s w (Resume a) = on_resume (action_of g a).retention (lock_with g a) ++ Move (ActionOf a) (Running w) Passed ∷ []
list_of g s w (Claim u) = Take ∷ Move (UnitOf u) Queued (Running w) ∷ []
list_of g s w (Close c) = Move (UnitOf c.unit) (Running w) (mark_from c.outcome) ∷ Give ∷ []
list_of g s w (Block (Some u)) = Move (UnitOf u) Waiting (Running w) ∷ set_down s w
list_of g s w (Block None) = set_down s w
list_of g s w (Unblock (Some c)) = taken_up s w ++ Move (UnitOf c.unit) (Running w) (mark_from c.outcome) ∷ []
list_of g s w (Unblock None) = taken_up s w
list_of g s w (End t) = skipped_waiting g s (actions_of g t) ++ Move (TaskOf t) (Running w) (end_mark g s t)
    ∷ (if (holding_of s w).lease then Unlock (task_of g t).lock ∷ Give ∷ [] else [])
list_of g s w Acquire = []
list_of g s w HandBack = map Unlock (owned s w) ++ (if (holding_of s w).lease then Give ∷ [] else [])

-- Whether an entry of the kind can finish: its condition holds and each of its changes can be made.
abbrev pub is_enabled : GraphView → StateView → WorkerId → Kind → Bool
is_enabled g s w kind = condition g s w kind && can_all s w (list_of g s w kind)

-- Locks from the number low on, in strictly rising order, and then a lease where there was none.
abbrev pub acquires : ℕ → Bool → List Change → Bool
acquires low lease [] = lease
acquires low lease (Lock l ∷ cs) = nat_le low l.0 && acquires (l.0 + 1) lease cs
acquires low lease (Take ∷ []) = not lease
acquires low lease _ = false
