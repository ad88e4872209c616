-- At most how many changes an entry has.
use Rattle.std.proofs.Common.{◌≡◌, ℕ, ◌+◌, ◌-◌, ◌<◌, ◌≤◌, List, [], ◌∷◌, map, length, Bool, true, false, cond, None, Some, ap, sym, inl, inr, zero, suc, arith}
use Rattle.std.specs.List.{range_with_len}
use Rattle.std.proofs.lemmas.Bool.{cases_lt}
use Rattle.std.proofs.lemmas.List.{length-append, length-map, get_or_past}
use Rattle.std.proofs.lemmas.List.FromFn.{length-map-range_with_len}
use Rattle.resource_lock.specs.StateView.{StateView, holding_of}
use Rattle.resource_lock.specs.GraphView.{GraphView, GraphTaskView, no_task, no_action, task_of, action_of}
use Rattle.resource_lock.specs.Ranges.{actions_of, first_item, items_of, lock_with}
use Rattle.resource_lock.specs.Fits.{Fits}
use Rattle.resource_lock.specs.Good.{Good}
use Rattle.resource_lock.specs.Shape.{BelongsTo}
use Rattle.resource_lock.specs.declared.graphs.GraphAction.{GraphAction}
use Rattle.resource_lock.specs.declared.graphs.Retention.{Retention}
use Rattle.resource_lock.specs.declared.graphs.Retention.TheVariants.{Retain, Release, ReleaseAndReacquire}
use Rattle.resource_lock.specs.declared.ids.LockId.{LockId}
use Rattle.resource_lock.specs.declared.ids.WorkerId.{WorkerId}
use Rattle.resource_lock.specs.declared.marks.Mark.{Mark}
use Rattle.resource_lock.specs.declared.marks.Mark.TheVariants.{Waiting, Queued, Running, Passed}
use Rattle.resource_lock.specs.declared.marks.MarkId.TheVariants.{Task as TaskOf, Action as ActionOf, Unit as UnitOf}
use Rattle.resource_lock.specs.declared.changes.Change.{Change}
use Rattle.resource_lock.specs.declared.changes.Change.TheVariants.{Unlock, Give, Move}
use Rattle.lock_transforms.specs.MostChanges.{IsRoomFor, changes_below, most_of}
use Rattle.lock_transforms.specs.Table.{end_mark, list_of, mark_from, moved_units, on_park, on_resume, owned, skipped_action, skipped_actions, skipped_waiting, taken_up}
use Rattle.lock_transforms.specs.declared.entries.Kind.{Kind}
use Rattle.lock_transforms.specs.declared.entries.Kind.TheVariants.{Start, Skip, Submit, Park, Resume, Claim, Close, Block, Unblock, End, Acquire, HandBack}
use Rattle.lock_transforms.proofs.Freed.{few_given, few_owned, lease_given, length-set_down}
use Rattle.lock_transforms.proofs.Skipped.{each_skipped, fewer_waiting, length-skipped_action, skipped_by_units, units_end}
use Rattle.lock_transforms.proofs.TakenUp.{few_parked, length-taken_up}
use Rattle.lock_transforms.proofs.lemmas.Within.{same_range}

few_on_park : (r : Retention) (l : LockId) → length (on_park r l) ≤ 3
few_on_park Retain l = omega arith
few_on_park Release l = omega arith
few_on_park ReleaseAndReacquire l = omega arith

few_on_resume : (r : Retention) (l : LockId) → length (on_resume r l) ≤ 3
few_on_resume Retain l = omega arith
few_on_resume Release l = omega arith
few_on_resume ReleaseAndReacquire l = omega arith

-- one change for each item
pub as_many : (g : GraphView) (a : ℕ) → length (moved_units (items_of g a) Waiting Queued) ≡ (action_of g a).items
as_many g a = length-map-range_with_len (λ u. Move (UnitOf u) Waiting Queued) (first_item (action_of g a)) (action_of g a).items

-- the changes behind those that skip
abbrev pub ended : GraphView → WorkerId → ℕ → Mark → Bool → List Change
ended g w t mark leased = Move (TaskOf t) (Running w) mark ∷ cond leased (Unlock (task_of g t).lock ∷ Give ∷ []) []

pub few_ended : (g : GraphView) (w : WorkerId) (t : ℕ) (mark : Mark) (leased : Bool) → length (ended g w t mark leased) ≤ 3
few_ended g w t mark true = omega arith
few_ended g w t mark false = omega arith

-- the list of a kind has no more changes
pub few_listed : (g : GraphView) (s : StateView) (w : WorkerId) (k : Kind) → length (list_of g s w k) ≤ most_of g w s k
few_listed g s w (Start t) = omega arith
few_listed g s w (Skip t) = omega arith
few_listed g s w (Submit a) = omega (arith, as_many g a)
few_listed g s w (Park a) =
    omega (arith, few_on_park (action_of g a).retention (lock_with g a), length-append (on_park (action_of g a).retention (lock_with g a)) (Move (ActionOf a) Queued (Running w) ∷ []))
few_listed g s w (Resume a) =
    omega (arith, few_on_resume (action_of g a).retention (lock_with g a), length-append (on_resume (action_of g a).retention (lock_with g a)) (Move (ActionOf a) (Running w) Passed ∷ []))
few_listed g s w (Claim u) = omega arith
few_listed g s w (Close c) = omega arith
few_listed g s w (Block (Some u)) = omega (arith, length-set_down s w)
few_listed g s w (Block None) = omega (arith, length-set_down s w)
few_listed g s w (Unblock (Some c)) = omega (arith, length-taken_up s w, length-append (taken_up s w) (Move (UnitOf c.unit) (Running w) (mark_from c.outcome) ∷ []))
few_listed g s w (Unblock None) = omega (arith, length-taken_up s w)
few_listed g s w (End t) =
    omega (arith, fewer_waiting g s (actions_of g t), few_ended g w t (end_mark g s t) (holding_of s w).lease, length-append (skipped_waiting g s (actions_of g t)) (ended g w t (end_mark g s t) (holding_of s w).lease))
few_listed g s w Acquire = omega arith
few_listed g s w HandBack = omega (arith, few_given s w, length-append (map Unlock (owned s w)) (lease_given s w), length-map (owned s w) Unlock)

-- ---- room for any entry

-- numbers that aren't the graph's have no changes
pub none_below : (g : GraphView) (t : ℕ) → length g.tasks ≤ t → changes_below g t ≡ 0
none_below g t past = ap (λ (x : GraphTaskView). length (skipped_actions g (range_with_len x.first_action x.actions))) (get_or_past g.tasks t no_task past)

room_below : (g : GraphView) (room t : ℕ) → IsRoomFor g room → 3 + changes_below g t ≤ room
room_below g room t enough = elim (cases_lt t (length g.tasks)) [
  | inl within ↦ enough.tasks t within
  | inr past ↦ omega (arith, none_below g t past, enough.few)
]

-- an action of a range has fewer items than the changes that skip them all
in_skipped : (g : GraphView) (first n a : ℕ) → first ≤ a → a < first + n → (action_of g a).items ≤ length (skipped_actions g (range_with_len first n))
in_skipped g first zero a low high = absurd (omega (arith, low, high))
in_skipped g first (suc n) a low high =
    let all : length (skipped_actions g (range_with_len first (suc n))) ≡ length (skipped_action g first) + length (skipped_actions g (range_with_len (first + 1) n)) = length-append (skipped_action g first) (skipped_actions g (range_with_len (first + 1) n)) in
    elim (cases_lt first a) [
      | inl below ↦ omega (arith, in_skipped g (first + 1) n a (omega (arith, below)) (omega (arith, high)))
      | inr past ↦
          let same : a ≡ first = omega (arith, low, past) in
          omega (arith, length-skipped_action g first, ap (λ k. (action_of g k).items) same)
    ]

-- the items of an action are among those of its task that would be skipped
items_below : {g : GraphView} → Fits g → (a : ℕ) → a < length g.actions → (action_of g a).items ≤ changes_below g (action_of g a).task
items_below {g} fits a within = in_skipped g (task_of g (action_of g a).task).first_action (task_of g (action_of g a).task).actions a (fits.own_task a within).0 (fits.own_task a within).1

room_items : {g : GraphView} → Fits g → (room a : ℕ) → IsRoomFor g room → 1 + (action_of g a).items ≤ room
room_items {g} fits room a enough = elim (cases_lt a (length g.actions)) [
  | inl within ↦ omega (arith, items_below fits a within, room_below g room (action_of g a).task enough)
  | inr past ↦ omega (arith, ap (λ (x : GraphAction). x.items) (get_or_past g.actions a no_action past), enough.few)
]

-- there is room for each kind
pub room_for : {g : GraphView} {s : StateView} → Fits g → BelongsTo g s → Good s → (w : WorkerId) (room : ℕ) (k : Kind) → IsRoomFor g room → most_of g w s k ≤ room
room_for fits belongs good w room (Start t) enough = omega (arith, enough.few)
room_for {g} fits belongs good w room (Skip t) enough = omega (arith, room_below g room t enough)
room_for fits belongs good w room (Submit a) enough = room_items fits room a enough
room_for fits belongs good w room (Park a) enough = enough.few
room_for fits belongs good w room (Resume a) enough = enough.few
room_for fits belongs good w room (Claim u) enough = omega (arith, enough.few)
room_for fits belongs good w room (Close c) enough = omega (arith, enough.few)
room_for {s = s} fits belongs good w room (Block u) enough = omega (arith, few_owned s w, belongs.locks, enough.locks)
room_for fits belongs good w room (Unblock c) enough = omega (arith, few_parked belongs good w, enough.locks)
room_for {g} fits belongs good w room (End t) enough = room_below g room t enough
room_for fits belongs good w room Acquire enough = omega (arith, enough.locks)
room_for {s = s} fits belongs good w room HandBack enough = omega (arith, few_owned s w, belongs.locks, enough.locks)

-- a task's changes by the range of its actions
pub below_of : (g : GraphView) (t first count : ℕ) → first ≡ (task_of g t).first_action → count ≡ (task_of g t).actions → changes_below g t ≡ length (skipped_actions g (range_with_len first count))
below_of g t first count from many = ap (λ as'. length (skipped_actions g as')) (sym (same_range from many))

-- and by the units from the first action's to the last one's
pub below_by_units : {g : GraphView} → Fits g → (t first count start stop : ℕ) → first ≡ (task_of g t).first_action → count ≡ (task_of g t).actions → 0 < count → first + count ≤ length g.actions
    → start ≡ (action_of g first).first_unit → stop ≡ units_end g (first + (count - 1)) → (start ≤ stop) × (changes_below g t + start ≡ count + stop)
below_by_units {g} fits t first count start stop from many some within begins ends =
    let same : changes_below g t ≡ length (skipped_actions g (range_with_len first count)) = below_of g t first count from many in
    let all : length (skipped_actions g (range_with_len first count)) + (action_of g first).first_unit ≡ count + units_end g (first + (count - 1)) = skipped_by_units fits first count some within in
    (omega (arith, begins, ends, all, each_skipped g first count), omega (arith, same, begins, ends, all))
