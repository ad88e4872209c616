-- What a pass shows round a blocking section.
use Rattle.std.specs.Prelude.{◌≡◌, ◌≢◌, ◌<◌, ◌&&◌, ◌||◌, ℕ, Bool, true, false, List, [], ◌++◌, Option, None, Some, Contains}
use Rattle.std.specs.List.{list_any}
use Rattle.lock_journal.specs.Names.{same_mark, Fits, GraphView, IsFetchOf, task_with, StateView, holding_of, mark_of, owns, stands_in, LockId}
use Rattle.lock_journal.specs.Names.{WorkerId, Waiting, MarkId, TaskOf, ActionOf, UnitOf, BookView, condition, earlier_passed, can_take_all, Closed}
use Rattle.lock_journal.specs.Names.{Block, is_action, is_unit, mark_before, with_member, without_member}
use Rattle.item_actions.specs.declared.outcomes.Outcome.{Outcome}
use Rattle.item_actions.specs.declared.outcomes.Outcome.TheVariants as outcomes
use Rattle.coordination.specs.Names.{Agrees, IsSoundBook, blocked_shown, claimed_shown, lease_shown, locks_shown, parked_shown}
use Rattle.coordination.specs.declared.rule.Sight.{Sight}
use Rattle.blocking_section.specs.BlockedView.{BlockedView}

-- The unit is the fetch of an action whose task is claimed.
pub record IsOwnFetch (g : GraphView) (marks : List MarkId) (u : ℕ) : Type 0 where
  pub action : ℕ
  pub there : u < g.units
  pub fetch : IsFetchOf g action u
  pub task : Contains marks (TaskOf (task_with g action))

-- Without a unit none is claimed. A unit is the fetch of a claimed task, and no action is claimed.
abbrev pub MayEnter : Option ℕ → Sight → Type 0
MayEnter None s = list_any is_unit (claimed_shown s) ≡ false
MayEnter (Some u) s = IsOwnFetch s.seen.graph (claimed_shown s) u × (list_any is_action (claimed_shown s) ≡ false)

-- a fetch and its action wait, and the earlier actions of the task have passed with their units
abbrev pub is_ready : GraphView → StateView → ℕ → ℕ → Bool
is_ready g s a u = same_mark (mark_of s (ActionOf a)) Waiting && same_mark (mark_of s (UnitOf u)) Waiting && earlier_passed g s a

-- the section is for a fetch that isn't ready
abbrev pub IsNotReady : Option ℕ → GraphView → WorkerId → StateView → Type 0
IsNotReady None g w s = ⊥
IsNotReady (Some u) g w s = (a : ℕ) × IsFetchOf g a u × (is_ready g s a u ≡ false)

-- In the book that the pass has seen last, a sound one of a graph that fits, the section could be entered.
pub record CouldEnter (unit : Option ℕ) (s : Sight) : Type 0 where
  pub fits : Fits s.seen.graph
  pub sound : IsSoundBook s.seen
  pub condition : condition s.seen.graph s.seen.state s.worker (Block unit) ≡ true

-- the claimed marks with the unit, and without it, where there is one
abbrev pub with_unit : Option ℕ → List MarkId → List MarkId
with_unit None marks = marks
with_unit (Some u) marks = with_member mark_before (UnitOf u) marks

abbrev pub without_unit : Option ℕ → List MarkId → List MarkId
without_unit None marks = marks
without_unit (Some u) marks = without_member mark_before (UnitOf u) marks

-- The pass is blocked and has no lock and no lease. Its locks stand behind those that it had parked before, by rising number, and the unit is claimed.
pub record HasSetDown (unit : Option ℕ) (old new : Sight) : Type 0 where
  pub locks : locks_shown new ≡ []
  pub lease : lease_shown new ≡ false
  pub blocked : blocked_shown new ≡ true
  pub parked : parked_shown new ≡ parked_shown old ++ locks_shown old
  pub claimed : claimed_shown new ≡ with_unit unit (claimed_shown old)

-- the worker owns no lock and has no lease
pub record OwnsNothing (w : WorkerId) (s : StateView) : Type 0 where
  pub locks : (l : LockId) → owns s w l ≡ false
  pub lease : (holding_of s w).lease ≡ false

-- so it is in every book that goes on by entries of others from what the pass has seen
abbrev pub OwnsNothingMeanwhile : Sight → Type 0
OwnsNothingMeanwhile s = (book : BookView) → Agrees s.worker s.seen book → OwnsNothing s.worker book.state

-- the unit is claimed, or no unit where there is none
abbrev pub HasUnit : Option ℕ → List MarkId → Type 0
HasUnit None marks = list_any is_unit marks ≡ false
HasUnit (Some u) marks = Contains marks (UnitOf u)

-- What was given back is that of the pass: of its worker, which is blocked, has all its locks parked, and has claimed its unit.
pub record IsGivenBackBy (s : Sight) (b : BlockedView) : Type 0 where
  pub worker : b.worker ≡ s.worker
  pub blocked : blocked_shown s ≡ true
  pub locks : (l : LockId) → stands_in l b.locks ≡ true → stands_in l (parked_shown s) ≡ true
  pub unit : HasUnit b.unit (claimed_shown s)

-- an outcome is given exactly where a unit is, and isn't Skipped
abbrev pub FitsUnit : Option ℕ → Option Outcome → Type 0
FitsUnit None None = Unit {0}
FitsUnit (Some u) (Some o) = o ≢ outcomes.Skipped
FitsUnit _ _ = ⊥

-- the unit with its outcome
abbrev pub closed_with : Option ℕ → Option Outcome → Option Closed
closed_with (Some u) (Some o) = Some (record { unit = u; outcome = o })
closed_with _ _ = None

-- The pass has a lease, isn't blocked, has no lock parked, and has those that it had parked besides its own. The unit isn't claimed any more.
pub record HasTakenUp (unit : Option ℕ) (old new : Sight) : Type 0 where
  pub lease : lease_shown new ≡ true
  pub blocked : blocked_shown new ≡ false
  pub parked : parked_shown new ≡ []
  pub locks : (l : LockId) → stands_in l (locks_shown new) ≡ (stands_in l (parked_shown old) || stands_in l (locks_shown old))
  pub claimed : claimed_shown new ≡ without_unit unit (claimed_shown old)

-- the worker is kept from a lock that it has parked, or no lease is free
abbrev pub CanNotTakeUp : GraphView → WorkerId → StateView → Type 0
CanNotTakeUp g w s = can_take_all s w (holding_of s w).parked ≡ false
