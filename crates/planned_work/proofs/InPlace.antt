-- An entry of a worker leaves it in place.
use Rattle.std.proofs.Common.{◌≡◌, ℕ, ◌+◌, ◌<◌, ◌⊎◌, true, false, List, [], ◌∷◌, ◌++◌, length, map, reverse, None, Some, inl, inr, refl, sym, ap, ◌∙◌, subst, arith}
use Rattle.std.specs.List.{AllByRecursion, list_all}
use Rattle.std.proofs.lemmas.Bool.{and_parts, eq-eqb, false≢true, false_from_ne_true, not-true, or_cases}
use Rattle.std.proofs.lemmas.List.{get_or-set_same}
use Rattle.lock_journal.specs.Names.{can, can_all, holding_after, make, make_all, same_mark, NamesOnly, Good, GraphView, action_of, task_of}
use Rattle.lock_journal.specs.Names.{IsActionOf, actions_of, is_item, items_of, lock_with, task_with, BelongsTo, Holding, StateView, holding_of}
use Rattle.lock_journal.specs.Names.{is_idle, is_owner, is_parked, mark_of, runs_unit, IsLockOf, IsWorkerOf, Change, Lock, Unlock, Take, Give, Move}
use Rattle.lock_journal.specs.Names.{ParkLock, Unpark, Enter, Leave, Retention, Retain, Release, ReleaseAndReacquire, LockId, WorkerId, Mark, Waiting}
use Rattle.lock_journal.specs.Names.{Queued, Running, Passed, TaskOf, ActionOf, UnitOf, Finishes, IsKindOf, condition, end_mark, list_of, mark_from}
use Rattle.lock_journal.specs.Names.{on_park, on_resume, owned, parked_locks, skipped_waiting, taken_again, units_passed, Closed, Kind, Start, Skip}
use Rattle.lock_journal.specs.Names.{Submit, Park, Resume, Claim, Close, Block, Unblock, End, Acquire, HandBack, after_all}
use Rattle.resource_lock.proofs.lemmas.Runs.{all_named-append, all_named_along, can_all-append, make_all-append, same_shape-make, same_shape-make_all, worker_along}
use Rattle.resource_lock.proofs.lemmas.Undo.{same_mark_is}
use Rattle.lock_journal.proofs.Finished.{has_moved}
use Rattle.lock_journal.proofs.Marks.{Names, Names-append_right, StaysOrMoves}
use Rattle.lock_journal.proofs.Moves.{MayMove}
use Rattle.lock_journal.proofs.Ranges.{each-append}
use Rattle.lock_journal.proofs.lemmas.Fitting.{RangesApart}
use Rattle.lock_journal.proofs.lemmas.OwnChanges.{own_holding_all}
use Rattle.worker_notes.proofs.lemmas.FewMarks.{Keeps}
use Rattle.single_steps.proofs.TaskActions.{unit_runs_by}
use Rattle.single_steps.proofs.TaskEnds.{AreUnderTasks, action_runs_by}
use Rattle.planned_work.specs.InPlace.{HasLock, HasReleasedTask, IsInPlace, parked_under}
use Rattle.planned_work.proofs.Begun.{Begins, RunsNothing, Works, idle_runs, lands, moved, not_either, not_running, nothing_runs, ran, ran_before, some_runs, task_runs_by, works, works_to_fetch}
use Rattle.planned_work.proofs.Left.{HasParked, acquiring_parks_nothing, actions_park_nothing, blocks_holding, ending_parks_nothing, giving_parks_nothing, parks_holding, resumes_parked, taken_then, unblocks_lease, unblocks_lease_then, unblocks_parked}
use Rattle.planned_work.proofs.Left.{units_leave, units_leave_locks, units_park_nothing, unlocks_park_nothing, waiting_parks_nothing}
use Rattle.planned_work.proofs.LocksKept.{LeavesLocks, ParksNothing, had_after, had_all_parked, had_all_taken, had_parking, had_taking, parked_stays}

-- kinds whose worker waits for no items, and kinds whose worker runs no unit
abbrev IsOut : Kind → Type 0
IsOut (Resume a) = ⊥
IsOut (Claim u) = ⊥
IsOut (Close d) = ⊥
IsOut _ = Unit {0}

abbrev IsUnitless : Kind → Type 0
IsUnitless (Close d) = ⊥
IsUnitless (Unblock (Some d)) = ⊥
IsUnitless _ = Unit {0}

module _ (g : GraphView) (s : StateView) (w : WorkerId) (apart : RangesApart g) (belongs : BelongsTo g s) (good : Good s) (worker : IsWorkerOf s w) (keeps : Keeps s w) (under : AreUnderTasks g s) (before : IsInPlace g s w) where
  -- where the worker isn't blocked
  leased_open : (holding_of s w).lease ≡ true → (holding_of s w).blocked ≡ false
  leased_open lease = false_from_ne_true (holding_of s w).blocked (λ blocked. false≢true (sym (good.blocked_no_lease w blocked) ∙ lease))

  idle_open : is_idle s w ≡ true → (holding_of s w).blocked ≡ false
  idle_open idle = not-true (holding_of s w).blocked (and_parts _ _ (and_parts _ _ (and_parts _ _ idle).0).0).0

  -- where it waits for no items
  blocked_out : (holding_of s w).blocked ≡ true → is_parked s w ≡ false
  blocked_out blocked = false_from_ne_true (is_parked s w) (λ waits. let a = some_runs w s.actions waits in false≢true (sym (before.waits a.0 a.1).0 ∙ blocked))

  out : (k : Kind) → IsOut k → condition g s w k ≡ true → is_parked s w ≡ false
  out (Start t) o h = (idle_runs s w (and_parts _ _ h).1).action
  out (Skip t) o h = (idle_runs s w (and_parts _ _ h).1).action
  out (Submit a) o h = (works s w (task_with g a) (and_parts _ _ (and_parts _ _ (and_parts _ _ h).0).0).0).waits
  out (Park a) o h = (works s w (task_with g a) (and_parts _ _ h).0).waits
  out (Resume a) o h = absurd o
  out (Claim u) o h = absurd o
  out (Close d) o h = absurd o
  out (Block (Some u)) o h = (works_to_fetch g s w u h).2.waits
  out (Block None) o h =
      let p = and_parts _ _ h in
      false_from_ne_true (is_parked s w) (λ waits. let a = some_runs w s.actions waits in false≢true (sym (not-true (runs_unit s w) p.1) ∙ before.lease a.0 a.1 p.0))
  out (Unblock (Some d)) o h = blocked_out (and_parts _ _ h).0
  out (Unblock None) o h = blocked_out (and_parts _ _ h).0
  out (End t) o h = not-true (is_parked s w) (and_parts _ _ (and_parts _ _ (and_parts _ _ (and_parts _ _ h).0).0).0).1
  out Acquire o h = (nothing_runs s w (and_parts _ _ h).1).action
  out HandBack o h = (nothing_runs s w (and_parts _ _ (and_parts _ _ h).0).1).action

  -- and where it runs no unit
  works_unitless : (t u : ℕ) → Works s w t → mark_of s (UnitOf u) ≡ Running w → ⊥
  works_unitless t u at runs = let a = keeps.apart at.lease t u at.task runs in false≢true (sym at.waits ∙ action_runs_by s w a.0 a.1)

  not_by : (u : ℕ) → runs_unit s w ≡ false → mark_of s (UnitOf u) ≡ Running w → ⊥
  not_by u none runs = false≢true (sym none ∙ unit_runs_by s w u runs)

  unitless : (k : Kind) (u : ℕ) → IsUnitless k → condition g s w k ≡ true → mark_of s (UnitOf u) ≡ Running w → ⊥
  unitless (Start t) u o h runs = not_by u (idle_runs s w (and_parts _ _ h).1).unit runs
  unitless (Skip t) u o h runs = not_by u (idle_runs s w (and_parts _ _ h).1).unit runs
  unitless (Submit a) u o h runs = works_unitless (task_with g a) u (works s w (task_with g a) (and_parts _ _ (and_parts _ _ (and_parts _ _ h).0).0).0) runs
  unitless (Park a) u o h runs = works_unitless (task_with g a) u (works s w (task_with g a) (and_parts _ _ h).0) runs
  unitless (Resume a) u o h runs = not_by u (not-true (runs_unit s w) (and_parts _ _ (and_parts _ _ h).0).1) runs
  unitless (Claim x) u o h runs = not_by u (not-true (runs_unit s w) (and_parts _ _ (and_parts _ _ (and_parts _ _ (and_parts _ _ h).0).0).0).1) runs
  unitless (Close d) u o h runs = absurd o
  unitless (Block (Some x)) u o h runs = let at = works_to_fetch g s w x h in works_unitless (task_with g at.0) u at.2 runs
  unitless (Block None) u o h runs = not_by u (not-true (runs_unit s w) (and_parts _ _ h).1) runs
  unitless (Unblock (Some d)) u o h runs = absurd o
  unitless (Unblock None) u o h runs = not_by u (not-true (runs_unit s w) (and_parts _ _ h).1) runs
  unitless (End t) u o h runs = not_by u (not-true (runs_unit s w) (and_parts _ _ (and_parts _ _ h).0).1) runs
  unitless Acquire u o h runs = not_by u (nothing_runs s w (and_parts _ _ h).1).unit runs
  unitless HandBack u o h runs = not_by u (nothing_runs s w (and_parts _ _ (and_parts _ _ h).0).1).unit runs

  -- an entry of the worker's
  module _ (cs : List Change) where
    left : (ds : List Change) → cs ≡ ds → holding_of (make_all s w cs) w ≡ after_all holding_after (holding_of s w) ds
    left ds is = own_holding_all s w cs worker ∙ ap (λ (xs : List Change). after_all holding_after (holding_of s w) xs) is

    takes_up_then : (d : Closed) → list_of g s w (Unblock (Some d)) ≡ Leave ∷ taken_again (reverse (holding_of s w).parked) ++ Take ∷ Move (UnitOf d.unit) (Running w) (mark_from d.outcome) ∷ []
    takes_up_then d = ap (λ (ds : List Change). Leave ∷ ds) (taken_then (taken_again (reverse (holding_of s w).parked)) (Move (UnitOf d.unit) (Running w) (mark_from d.outcome)))

    -- it waits for no items, and runs no unit
    no_action : (k : Kind) (f : Finishes g s w k cs) (a : ℕ) → IsOut k → (Begins k (ActionOf a) → ⊥) → mark_of (make_all s w cs) (ActionOf a) ≡ Running w → ⊥
    no_action k f a o never runs = false≢true (sym (out k o f.condition) ∙ action_runs_by s w a (ran g s w k cs f (ActionOf a) never runs))

    no_unit : (k : Kind) (f : Finishes g s w k cs) (u : ℕ) → IsUnitless k → (Begins k (UnitOf u) → ⊥) → mark_of (make_all s w cs) (UnitOf u) ≡ Running w → ⊥
    no_unit k f u o never runs = unitless k u o f.condition (ran g s w k cs f (UnitOf u) never runs)

    -- the action that it resumes has passed, and the unit that it closes has ended
    resumed : (x : ℕ) (f : Finishes g s w (Resume x) cs) → x < length g.actions → mark_of (make_all s w cs) (ActionOf x) ≡ Passed
    resumed x f there =
        lands g s w (Resume x) cs f (ActionOf x) Passed (λ a b p. p.2) (omega (arith, there, belongs.actions))
        (subst (λ (ds : List Change). Names (ActionOf x) ds) (sym f.list) (Names-append_right (ActionOf x) (on_resume (action_of g x).retention (lock_with g x)) (Move (ActionOf x) (Running w) Passed ∷ []) (inl refl)))

    not_resumed : (x a : ℕ) (f : Finishes g s w (Resume x) cs) → x < length g.actions → mark_of (make_all s w cs) (ActionOf a) ≡ Running w → ⊥
    not_resumed x a f there runs =
        let was : mark_of s (ActionOf x) ≡ Running w = same_mark_is (mark_of s (ActionOf x)) (Running w) (and_parts _ _ (and_parts _ _ (and_parts _ _ f.condition).0).0).0 in
        let same : a ≡ x = keeps.few.action a x (ran g s w (Resume x) cs f (ActionOf a) (λ b. b) runs) was in
        absurd (cc (sym (resumed x f there) ∙ subst (λ n. mark_of (make_all s w cs) (ActionOf n) ≡ Running w) same runs))

    not_ended : (k : Kind) (f : Finishes g s w k cs) (u x : ℕ) → (Begins k (UnitOf u) → ⊥) → same_mark (mark_of s (UnitOf x)) (Running w) ≡ true → (mark_of (make_all s w cs) (UnitOf x) ≡ Running w → ⊥) → mark_of (make_all s w cs) (UnitOf u) ≡ Running w → ⊥
    not_ended k f u x never was ended runs =
        let same : u ≡ x = keeps.few.unit u x (ran g s w k cs f (UnitOf u) never runs) (same_mark_is (mark_of s (UnitOf x)) (Running w) was) in
        ended (subst (λ n. mark_of (make_all s w cs) (UnitOf n) ≡ Running w) same runs)

    -- the action that it begins to wait for
    begun_wait : (x : ℕ) (f : Finishes g s w (Park x) cs) → x < length g.actions → mark_of (make_all s w cs) (ActionOf x) ≡ Running w
    begun_wait x f there =
        lands g s w (Park x) cs f (ActionOf x) (Running w) (λ a b p. p.2) (omega (arith, there, belongs.actions))
        (subst (λ (ds : List Change). Names (ActionOf x) ds) (sym f.list) (Names-append_right (ActionOf x) (on_park (action_of g x).retention (lock_with g x)) (Move (ActionOf x) Queued (Running w) ∷ []) (inl refl)))

    parks_open : (x : ℕ) (f : Finishes g s w (Park x) cs) → HasParked (action_of g x).retention (lock_with g x) (holding_of (make_all s w cs) w)
    parks_open x f =
        let at = works s w (task_with g x) (and_parts _ _ f.condition).0 in
        let free = leased_open at.lease in
        subst (HasParked (action_of g x).retention (lock_with g x)) (sym (left (list_of g s w (Park x)) f.list)) (parks_holding (action_of g x).retention (lock_with g x) x w (holding_of s w) free (before.parked free at.waits))

    waits_after : (k : Kind) (f : Finishes g s w k cs) → IsKindOf g k → (a : ℕ) → mark_of (make_all s w cs) (ActionOf a) ≡ Running w
        → ((holding_of (make_all s w cs) w).blocked ≡ false) × ((holding_of (make_all s w cs) w).parked ≡ parked_under (action_of g a).retention (lock_with g a))
    waits_after (Park x) f kind a runs = at (ran_before g s w (Park x) cs f (ActionOf a) runs)
      where
        at : (mark_of s (ActionOf a) ≡ Running w) ⊎ (a ≡ x) → ((holding_of (make_all s w cs) w).blocked ≡ false) × ((holding_of (make_all s w cs) w).parked ≡ parked_under (action_of g a).retention (lock_with g a))
        at (inl was) = absurd (false≢true (sym (out (Park x) tt f.condition) ∙ action_runs_by s w a was))
        at (inr same) = let p = parks_open x f in (p.blocked, p.parked ∙ ap (λ n. parked_under (action_of g n).retention (lock_with g n)) (sym same))
    waits_after (Resume x) f kind a runs = absurd (not_resumed x a f kind runs)
    waits_after (Claim x) f kind a runs =
        let was = before.waits a (ran g s w (Claim x) cs f (ActionOf a) (λ b. b) runs) in
        let h = left (list_of g s w (Claim x)) f.list in
        (ap (λ (y : Holding). y.blocked) h ∙ was.0, ap (λ (y : Holding). y.parked) h ∙ was.1)
    waits_after (Close d) f kind a runs =
        let was = before.waits a (ran g s w (Close d) cs f (ActionOf a) (λ b. b) runs) in
        let h = left (list_of g s w (Close d)) f.list in
        (ap (λ (y : Holding). y.blocked) h ∙ was.0, ap (λ (y : Holding). y.parked) h ∙ was.1)
    waits_after (Start t) f kind a runs = absurd (no_action (Start t) f a tt (λ b. b) runs)
    waits_after (Skip t) f kind a runs = absurd (no_action (Skip t) f a tt (λ b. b) runs)
    waits_after (Submit x) f kind a runs = absurd (no_action (Submit x) f a tt (λ b. b) runs)
    waits_after (Block (Some u)) f kind a runs = absurd (no_action (Block (Some u)) f a tt (λ b. b) runs)
    waits_after (Block None) f kind a runs = absurd (no_action (Block None) f a tt (λ b. b) runs)
    waits_after (Unblock (Some d)) f kind a runs = absurd (no_action (Unblock (Some d)) f a tt (λ b. b) runs)
    waits_after (Unblock None) f kind a runs = absurd (no_action (Unblock None) f a tt (λ b. b) runs)
    waits_after (End t) f kind a runs = absurd (no_action (End t) f a tt (λ b. b) runs)
    waits_after Acquire f kind a runs = absurd (no_action Acquire f a tt (λ b. b) runs)
    waits_after HandBack f kind a runs = absurd (no_action HandBack f a tt (λ b. b) runs)

    lease_after : (k : Kind) (f : Finishes g s w k cs) → IsKindOf g k → (a : ℕ) → mark_of (make_all s w cs) (ActionOf a) ≡ Running w → (holding_of (make_all s w cs) w).lease ≡ true → runs_unit (make_all s w cs) w ≡ true
    lease_after (Park x) f kind a runs lease = absurd (false≢true (sym (parks_open x f).lease ∙ lease))
    lease_after (Resume x) f kind a runs lease = absurd (not_resumed x a f kind runs)
    lease_after (Claim x) f kind a runs lease = unit_runs_by (make_all s w cs) w x (has_moved g s w (Claim x) cs belongs kind f.list f.possible)
    lease_after (Close d) f kind a runs lease = absurd (false≢true (sym (ap (λ (y : Holding). y.lease) (left (list_of g s w (Close d)) f.list)) ∙ lease))
    lease_after (Start t) f kind a runs lease = absurd (no_action (Start t) f a tt (λ b. b) runs)
    lease_after (Skip t) f kind a runs lease = absurd (no_action (Skip t) f a tt (λ b. b) runs)
    lease_after (Submit x) f kind a runs lease = absurd (no_action (Submit x) f a tt (λ b. b) runs)
    lease_after (Block (Some u)) f kind a runs lease = absurd (no_action (Block (Some u)) f a tt (λ b. b) runs)
    lease_after (Block None) f kind a runs lease = absurd (no_action (Block None) f a tt (λ b. b) runs)
    lease_after (Unblock (Some d)) f kind a runs lease = absurd (no_action (Unblock (Some d)) f a tt (λ b. b) runs)
    lease_after (Unblock None) f kind a runs lease = absurd (no_action (Unblock None) f a tt (λ b. b) runs)
    lease_after (End t) f kind a runs lease = absurd (no_action (End t) f a tt (λ b. b) runs)
    lease_after Acquire f kind a runs lease = absurd (no_action Acquire f a tt (λ b. b) runs)
    lease_after HandBack f kind a runs lease = absurd (no_action HandBack f a tt (λ b. b) runs)

    -- who enters a section is blocked
    blocks : (k : Kind) (ds : List Change) (h : Holding) → cs ≡ ds → after_all holding_after (holding_of s w) ds ≡ after_all holding_after h (parked_locks (owned s w) ++ Enter ∷ []) → (holding_of (make_all s w cs) w).blocked ≡ false → ⊥
    blocks k ds h is same free = false≢true (sym free ∙ (ap (λ (y : Holding). y.blocked) (left ds is ∙ same) ∙ blocks_holding h (owned s w)))

    item_after : (k : Kind) (f : Finishes g s w k cs) → IsKindOf g k → (u : ℕ) → mark_of (make_all s w cs) (UnitOf u) ≡ Running w → (holding_of (make_all s w cs) w).blocked ≡ false
        → (is_item g u ≡ true) × ((holding_of (make_all s w cs) w).lease ≡ true)
    item_after (Claim x) f kind u runs free = at (ran_before g s w (Claim x) cs f (UnitOf u) runs)
      where
        at : (mark_of s (UnitOf u) ≡ Running w) ⊎ (u ≡ x) → (is_item g u ≡ true) × ((holding_of (make_all s w cs) w).lease ≡ true)
        at (inl was) = absurd (unitless (Claim x) u tt f.condition was)
        at (inr same) =
            let item : is_item g x ≡ true = (and_parts _ _ (and_parts _ _ (and_parts _ _ (and_parts _ _ (and_parts _ _ f.condition).0).0).0).0).0 in
            (subst (λ n. is_item g n ≡ true) (sym same) item, ap (λ (y : Holding). y.lease) (left (list_of g s w (Claim x)) f.list))
    item_after (Close d) f kind u runs free =
        absurd (not_ended (Close d) f u d.unit (λ b. b) (and_parts _ _ f.condition).1 (λ is. not_running d.outcome w (sym (has_moved g s w (Close d) cs belongs kind f.list f.possible) ∙ is)) runs)
    item_after (Unblock (Some d)) f kind u runs free =
        absurd (not_ended (Unblock (Some d)) f u d.unit (λ b. b) (and_parts _ _ f.condition).1 (λ is. not_running d.outcome w (sym (has_moved g s w (Unblock (Some d)) cs belongs kind f.list f.possible) ∙ is)) runs)
    item_after (Block (Some x)) f kind u runs free = absurd (blocks (Block (Some x)) (list_of g s w (Block (Some x))) (record (holding_of s w) { lease = false }) f.list refl free)
    item_after (Block None) f kind u runs free = absurd (no_unit (Block None) f u tt (λ b. b) runs)
    item_after (Start t) f kind u runs free = absurd (no_unit (Start t) f u tt (λ b. b) runs)
    item_after (Skip t) f kind u runs free = absurd (no_unit (Skip t) f u tt (λ b. b) runs)
    item_after (Submit x) f kind u runs free = absurd (no_unit (Submit x) f u tt (λ b. b) runs)
    item_after (Park x) f kind u runs free = absurd (no_unit (Park x) f u tt (λ b. b) runs)
    item_after (Resume x) f kind u runs free = absurd (no_unit (Resume x) f u tt (λ b. b) runs)
    item_after (Unblock None) f kind u runs free = absurd (no_unit (Unblock None) f u tt (λ b. b) runs)
    item_after (End t) f kind u runs free = absurd (no_unit (End t) f u tt (λ b. b) runs)
    item_after Acquire f kind u runs free = absurd (no_unit Acquire f u tt (λ b. b) runs)
    item_after HandBack f kind u runs free = absurd (no_unit HandBack f u tt (λ b. b) runs)

    -- nothing is parked
    same_parked : (ds : List Change) → cs ≡ ds → AllByRecursion ParksNothing ds → (holding_of s w).blocked ≡ false → is_parked s w ≡ false → (holding_of (make_all s w cs) w).parked ≡ []
    same_parked ds is nothing free none = ap (λ (y : Holding). y.parked) (left ds is) ∙ (parked_stays (holding_of s w) ds nothing ∙ before.parked free none)

    -- a wait for items that the kind doesn't end
    still_out : (k : Kind) (f : Finishes g s w k cs) → ((a : ℕ) (from to : Mark) → MayMove g s w k (ActionOf a) from to → ⊥) → is_parked (make_all s w cs) w ≡ false → is_parked s w ≡ false
    still_out k f never none = false_from_ne_true (is_parked s w) (λ waits. let a = some_runs w s.actions waits in at a.0 a.1 (moved g s w k cs f (ActionOf a.0)))
      where
        at : (a : ℕ) → mark_of s (ActionOf a) ≡ Running w → StaysOrMoves (MayMove g s w k) (ActionOf a) (mark_of s (ActionOf a)) (mark_of (make_all s w cs) (ActionOf a)) → ⊥
        at a was (inl same) = false≢true (sym none ∙ action_runs_by (make_all s w cs) w a (same ∙ was))
        at a was (inr move) = never a move.last_from _ move.last

    parked_after : (k : Kind) (f : Finishes g s w k cs) → IsKindOf g k → (holding_of (make_all s w cs) w).blocked ≡ false → is_parked (make_all s w cs) w ≡ false → (holding_of (make_all s w cs) w).parked ≡ []
    parked_after (Start t) f kind free none =
        let idle = (and_parts _ _ f.condition).1 in
        same_parked (list_of g s w (Start t)) f.list (tt, (tt, (tt, tt))) (idle_open idle) (out (Start t) tt f.condition)
    parked_after (Skip t) f kind free none =
        let idle = (and_parts _ _ f.condition).1 in
        same_parked (list_of g s w (Skip t)) f.list (tt, actions_park_nothing g (actions_of g t)) (idle_open idle) (out (Skip t) tt f.condition)
    parked_after (Submit x) f kind free none =
        let at = works s w (task_with g x) (and_parts _ _ (and_parts _ _ (and_parts _ _ f.condition).0).0).0 in
        same_parked (list_of g s w (Submit x)) f.list (tt, units_park_nothing Waiting Queued (items_of g x)) (leased_open at.lease) at.waits
    parked_after (Park x) f kind free none = absurd (false≢true (sym none ∙ action_runs_by (make_all s w cs) w x (begun_wait x f kind)))
    parked_after (Resume x) f kind free none =
        let was : mark_of s (ActionOf x) ≡ Running w = same_mark_is (mark_of s (ActionOf x)) (Running w) (and_parts _ _ (and_parts _ _ (and_parts _ _ f.condition).0).0).0 in
        ap (λ (y : Holding). y.parked) (left (list_of g s w (Resume x)) f.list) ∙ resumes_parked (action_of g x).retention (lock_with g x) x w (holding_of s w) (before.waits x was).1
    parked_after (Claim x) f kind free none =
        let open' : (holding_of s w).blocked ≡ false = sym (ap (λ (y : Holding). y.blocked) (left (list_of g s w (Claim x)) f.list)) ∙ free in
        same_parked (list_of g s w (Claim x)) f.list (tt, (tt, tt)) open' (still_out (Claim x) f (λ a from to p. p) none)
    parked_after (Close d) f kind free none =
        let open' : (holding_of s w).blocked ≡ false = sym (ap (λ (y : Holding). y.blocked) (left (list_of g s w (Close d)) f.list)) ∙ free in
        same_parked (list_of g s w (Close d)) f.list (tt, (tt, tt)) open' (still_out (Close d) f (λ a from to p. p) none)
    parked_after (Block (Some x)) f kind free none = absurd (blocks (Block (Some x)) (list_of g s w (Block (Some x))) (record (holding_of s w) { lease = false }) f.list refl free)
    parked_after (Block None) f kind free none = absurd (blocks (Block None) (list_of g s w (Block None)) (record (holding_of s w) { lease = false }) f.list refl free)
    parked_after (Unblock (Some d)) f kind free none =
        ap (λ (y : Holding). y.parked) (left (list_of g s w (Unblock (Some d))) f.list ∙ ap (λ (ds : List Change). after_all holding_after (holding_of s w) ds) (takes_up_then d))
        ∙ unblocks_parked (holding_of s w) (Take ∷ Move (UnitOf d.unit) (Running w) (mark_from d.outcome) ∷ []) (tt, (tt, tt))
    parked_after (Unblock None) f kind free none =
        ap (λ (y : Holding). y.parked) (left (list_of g s w (Unblock None)) f.list) ∙ unblocks_parked (holding_of s w) (Take ∷ []) (tt, tt)
    parked_after (End t) f kind free none =
        let p = and_parts _ _ (and_parts _ _ (and_parts _ _ f.condition).0).0 in
        same_parked (list_of g s w (End t)) f.list
        (each-append ParksNothing (skipped_waiting g s (actions_of g t)) _ (waiting_parks_nothing g s (actions_of g t)) (tt, ending_parks_nothing (holding_of s w).lease (task_of g t).lock)) (not-true (holding_of s w).blocked p.1) (out (End t) tt f.condition)
    parked_after Acquire f kind free none = same_parked cs refl (acquiring_parks_nothing 0 (holding_of s w).lease cs f.list) (not-true (holding_of s w).blocked (and_parts _ _ f.condition).0) (out Acquire tt f.condition)
    parked_after HandBack f kind free none =
        same_parked (list_of g s w HandBack) f.list (each-append ParksNothing (map Unlock (owned s w)) _ (unlocks_park_nothing (owned s w)) (giving_parks_nothing (holding_of s w).lease))
        (not-true (holding_of s w).blocked (and_parts _ _ (and_parts _ _ f.condition).0).0) (out HandBack tt f.condition)

    -- the task's lock
    has_lock : (t : ℕ) → mark_of s (TaskOf t) ≡ Running w → (HasReleasedTask g s w t → ⊥) → HasLock s w (task_of g t).lock
    has_lock t runs never = elim (before.task t runs) [
      | inl has ↦ has
      | inr released ↦ absurd (never released)
    ]

    had : (ds : List Change) (l : LockId) → cs ≡ ds → HasLock (make_all s w ds) w l → HasLock (make_all s w cs) w l
    had ds l is has = subst (λ (xs : List Change). HasLock (make_all s w xs) w l) (sym is) has

    starts_with : (x : ℕ) → IsLockOf s (task_of g x).lock → HasLock (make_all s w (list_of g s w (Start x))) w (task_of g x).lock
    starts_with x there = inl (ap (λ o. is_owner o w) (get_or-set_same s.owners (task_of g x).lock.0 (Some w) None there) ∙ eq-eqb w.0 w.0 refl)

    sets_down : (t : StateView) (l : LockId) (ls : List LockId) → IsWorkerOf t w → HasLock t w l → HasLock (make_all t w (Give ∷ parked_locks ls ++ Enter ∷ [])) w l
    sets_down t l ls there has =
        let one : StateView = make t w Give in
        let first : IsWorkerOf one w = worker_along t one w (same_shape-make t w Give) there in
        let two : StateView = make_all one w (parked_locks ls) in
        subst (λ (x : StateView). HasLock x w l) (sym (make_all-append one w (parked_locks ls) (Enter ∷ [])))
        (had_after two w l (Enter ∷ []) (worker_along one two w (same_shape-make_all one w (parked_locks ls)) first) (tt, tt) (had_all_parked one w l ls first (had_after t w l (Give ∷ []) there (tt, tt) has)))

    takes_up : (l : LockId) (ks : List LockId) (ds : List Change) → AllByRecursion LeavesLocks ds → AllByRecursion (NamesOnly s) (Leave ∷ taken_again ks ++ ds) → can_all s w (Leave ∷ taken_again ks ++ ds) ≡ true
        → HasLock s w l → HasLock (make_all s w (Leave ∷ taken_again ks ++ ds)) w l
    takes_up l ks ds leaves named possible has =
        let one : StateView = make s w Leave in
        let first : IsWorkerOf one w = worker_along s one w (same_shape-make s w Leave) worker in
        let two : StateView = make_all one w (taken_again ks) in
        let names = all_named_along s one (taken_again ks) (same_shape-make s w Leave) (all_named-append s (taken_again ks) ds named.1).0 in
        let can_take = (and_parts (can_all one w (taken_again ks)) (can_all two w ds) (sym (can_all-append one w (taken_again ks) ds) ∙ (and_parts (can s w Leave) (can_all one w (taken_again ks ++ ds)) possible).1)).0 in
        subst (λ (x : StateView). HasLock x w l) (sym (make_all-append one w (taken_again ks) ds))
        (had_after two w l ds (worker_along one two w (same_shape-make_all one w (taken_again ks)) first) leaves (had_all_taken one w l ks first names can_take (had_after s w l (Leave ∷ []) worker (tt, tt) has)))

    puts_by : (l k : LockId) (x : ℕ) → HasLock s w l → HasLock (make_all s w (Give ∷ Unlock k ∷ ParkLock k ∷ Move (ActionOf x) Queued (Running w) ∷ [])) w l
    puts_by l k x has =
        let one : StateView = make s w Give in
        let first : IsWorkerOf one w = worker_along s one w (same_shape-make s w Give) worker in
        let two : StateView = make_all one w (Unlock k ∷ ParkLock k ∷ []) in
        had_after two w l (Move (ActionOf x) Queued (Running w) ∷ []) (worker_along one two w (same_shape-make_all one w (Unlock k ∷ ParkLock k ∷ [])) first) (tt, tt) (had_parking one w l k first (had_after s w l (Give ∷ []) worker (tt, tt) has))

    parks_it : (r : Retention) (l k : LockId) (x : ℕ) → HasLock s w l → HasLock (make_all s w (on_park r k ++ Move (ActionOf x) Queued (Running w) ∷ [])) w l
    parks_it Retain l k x has = had_after s w l (Give ∷ Move (ActionOf x) Queued (Running w) ∷ []) worker (tt, (tt, tt)) has
    parks_it Release l k x has = puts_by l k x has
    parks_it ReleaseAndReacquire l k x has = puts_by l k x has

    -- what a worker with a lease, that is blocked, or that waits for items, hasn't released
    leased_keeps : (t : ℕ) → (holding_of s w).lease ≡ true → HasReleasedTask g s w t → ⊥
    leased_keeps t lease r = false≢true (sym r.lease ∙ lease)

    resumes_it : (r : Retention) (x t : ℕ) (f : Finishes g s w (Resume x) cs) → (action_of g x).retention ≡ r → x < length g.actions → mark_of s (ActionOf x) ≡ Running w → mark_of s (TaskOf t) ≡ Running w → HasLock s w (task_of g t).lock
        → (HasLock (make_all s w cs) w (task_of g t).lock × ((holding_of (make_all s w cs) w).lease ≡ true)) ⊎ HasReleasedTask g (make_all s w cs) w t
    resumes_it r x t f is there was task has = at r (f.list ∙ ap (λ (q : Retention). on_resume q (lock_with g x) ++ Move (ActionOf x) (Running w) Passed ∷ []) is) is
      where
        at : (q : Retention) → cs ≡ on_resume q (lock_with g x) ++ Move (ActionOf x) (Running w) Passed ∷ [] → (action_of g x).retention ≡ q
            → (HasLock (make_all s w cs) w (task_of g t).lock × ((holding_of (make_all s w cs) w).lease ≡ true)) ⊎ HasReleasedTask g (make_all s w cs) w t
        at Retain list same = inl ((had (Take ∷ Move (ActionOf x) (Running w) Passed ∷ []) (task_of g t).lock list (had_after s w (task_of g t).lock (Take ∷ Move (ActionOf x) (Running w) Passed ∷ []) worker (tt, (tt, tt)) has)), ap (λ (y : Holding). y.lease) (left (Take ∷ Move (ActionOf x) (Running w) Passed ∷ []) list))
        at ReleaseAndReacquire list same =
            let k : LockId = lock_with g x in
            let named = subst (AllByRecursion (NamesOnly s)) list f.named in
            let possible : can_all s w (Unpark k ∷ Lock k ∷ Take ∷ Move (ActionOf x) (Running w) Passed ∷ []) ≡ true = subst (λ (ds : List Change). can_all s w ds ≡ true) list f.possible in
            let two : StateView = make_all s w (Unpark k ∷ Lock k ∷ []) in
            inl (
              (had (Unpark k ∷ Lock k ∷ Take ∷ Move (ActionOf x) (Running w) Passed ∷ []) (task_of g t).lock list
                  (had_after two w (task_of g t).lock (Take ∷ Move (ActionOf x) (Running w) Passed ∷ []) (worker_along s two w (same_shape-make_all s w (Unpark k ∷ Lock k ∷ [])) worker) (tt, (tt, tt))
                  (had_taking s w (task_of g t).lock k worker named.0 (and_parts _ _ possible).0 has))),
              ap (λ (y : Holding). y.lease) (left (Unpark k ∷ Lock k ∷ Take ∷ Move (ActionOf x) (Running w) Passed ∷ []) list),
            )
        at Release list same =
            let h = left (Unpark (lock_with g x) ∷ Move (ActionOf x) (Running w) Passed ∷ []) list in
            inr (record {
              lease = ap (λ (y : Holding). y.lease) h ∙ not-true (holding_of s w).lease (and_parts _ _ (and_parts _ _ (and_parts _ _ f.condition).0).0).1;
              blocked = ap (λ (y : Holding). y.blocked) h ∙ (before.waits x was).0;
              waits = false_from_ne_true (is_parked (make_all s w cs) w) (λ still. let a = some_runs w (make_all s w cs).actions still in not_resumed x a.0 f there a.1);
              action = x;
              of_task = subst (λ n. IsActionOf g n x) (keeps.few.task (task_with g x) t (under.running x w was) task) (apart.own_task x there);
              releases = same;
              passed = resumed x f there;
            })

    -- the task of an entry that ends it has ended
    not_over : (x t : ℕ) (f : Finishes g s w (End x) cs) → x < length g.tasks → mark_of (make_all s w cs) (TaskOf t) ≡ Running w → ⊥
    not_over x t f there runs =
        let was : mark_of s (TaskOf x) ≡ Running w = same_mark_is (mark_of s (TaskOf x)) (Running w) (and_parts _ _ (and_parts _ _ (and_parts _ _ (and_parts _ _ f.condition).0).0).0).0 in
        let same : t ≡ x = keeps.few.task t x (ran g s w (End x) cs f (TaskOf t) (λ b. b) runs) was in
        let over : mark_of (make_all s w cs) (TaskOf x) ≡ end_mark g s x =
        lands g s w (End x) cs f (TaskOf x) (end_mark g s x) (λ a b p. p.2) (omega (arith, there, belongs.tasks))
        (subst (λ (ds : List Change). Names (TaskOf x) ds) (sym f.list) (Names-append_right (TaskOf x) (skipped_waiting g s (actions_of g x)) _ (inl refl))) in
        not_either (list_all (units_passed g s) (actions_of g x)) w (sym over ∙ subst (λ n. mark_of (make_all s w cs) (TaskOf n) ≡ Running w) same runs)

    no_task : (k : Kind) (f : Finishes g s w k cs) (t : ℕ) → RunsNothing s w → (Begins k (TaskOf t) → ⊥) → mark_of (make_all s w cs) (TaskOf t) ≡ Running w → ⊥
    no_task k f t nothing never runs = false≢true (sym nothing.task ∙ task_runs_by s w t (ran g s w k cs f (TaskOf t) never runs))

    task_after : (k : Kind) (f : Finishes g s w k cs) → IsKindOf g k → (t : ℕ) → mark_of (make_all s w cs) (TaskOf t) ≡ Running w → HasLock (make_all s w cs) w (task_of g t).lock ⊎ HasReleasedTask g (make_all s w cs) w t
    task_after (Start x) f kind t runs = at (ran_before g s w (Start x) cs f (TaskOf t) runs)
      where
        at : (mark_of s (TaskOf t) ≡ Running w) ⊎ (t ≡ x) → HasLock (make_all s w cs) w (task_of g t).lock ⊎ HasReleasedTask g (make_all s w cs) w t
        at (inl was) = absurd (false≢true (sym (idle_runs s w (and_parts _ _ f.condition).1).task ∙ task_runs_by s w t was))
        at (inr same) =
            let named = subst (AllByRecursion (NamesOnly s)) f.list f.named in
            inl (subst (λ n. HasLock (make_all s w cs) w (task_of g n).lock) (sym same) (had (list_of g s w (Start x)) (task_of g x).lock f.list (starts_with x named.0)))
    task_after (Skip x) f kind t runs = absurd (no_task (Skip x) f t (idle_runs s w (and_parts _ _ f.condition).1) (λ b. b) runs)
    task_after (Submit x) f kind t runs =
        let at = works s w (task_with g x) (and_parts _ _ (and_parts _ _ (and_parts _ _ f.condition).0).0).0 in
        inl (had (list_of g s w (Submit x)) (task_of g t).lock f.list
        (had_after s w (task_of g t).lock (list_of g s w (Submit x)) worker (tt, units_leave_locks Waiting Queued (items_of g x)) (has_lock t (ran g s w (Submit x) cs f (TaskOf t) (λ b. b) runs) (leased_keeps t at.lease))))
    task_after (Park x) f kind t runs =
        let at = works s w (task_with g x) (and_parts _ _ f.condition).0 in
        inl (had (list_of g s w (Park x)) (task_of g t).lock f.list
        (parks_it (action_of g x).retention (task_of g t).lock (lock_with g x) x (has_lock t (ran g s w (Park x) cs f (TaskOf t) (λ b. b) runs) (leased_keeps t at.lease))))
    task_after (Resume x) f kind t runs =
        let was : mark_of s (ActionOf x) ≡ Running w = same_mark_is (mark_of s (ActionOf x)) (Running w) (and_parts _ _ (and_parts _ _ (and_parts _ _ f.condition).0).0).0 in
        let task = ran g s w (Resume x) cs f (TaskOf t) (λ b. b) runs in
        elim (resumes_it (action_of g x).retention x t f refl kind was task (has_lock t task (λ r. false≢true (sym r.waits ∙ action_runs_by s w x was)))) [
          | inl both ↦ inl both.0
          | inr released ↦ inr released
        ]
    task_after (Claim x) f kind t runs =
        let task = ran g s w (Claim x) cs f (TaskOf t) (λ b. b) runs in
        inl (had (list_of g s w (Claim x)) (task_of g t).lock f.list
        (had_after s w (task_of g t).lock (list_of g s w (Claim x)) worker (tt, (tt, tt))
        (has_lock t task (λ r. elim (or_cases (is_parked s w) (is_idle s w) (and_parts _ _ f.condition).1) [
          | inl waits ↦ false≢true (sym r.waits ∙ waits)
          | inr idle ↦ false≢true (sym (idle_runs s w idle).task ∙ task_runs_by s w t task)
        ]))))
    task_after (Close d) f kind t runs =
        let possible : can_all s w (list_of g s w (Close d)) ≡ true = subst (λ (ds : List Change). can_all s w ds ≡ true) f.list f.possible in
        let gives : (holding_of s w).lease ≡ true = (and_parts _ _ (and_parts _ _ possible).1).0 in
        inl (had (list_of g s w (Close d)) (task_of g t).lock f.list
        (had_after s w (task_of g t).lock (list_of g s w (Close d)) worker (tt, (tt, tt)) (has_lock t (ran g s w (Close d) cs f (TaskOf t) (λ b. b) runs) (leased_keeps t gives))))
    task_after (Block (Some x)) f kind t runs =
        let at = works_to_fetch g s w x f.condition in
        let one : StateView = make s w (Move (UnitOf x) Waiting (Running w)) in
        let has = has_lock t (ran g s w (Block (Some x)) cs f (TaskOf t) (λ b. b) runs) (leased_keeps t at.2.lease) in
        inl (had (list_of g s w (Block (Some x))) (task_of g t).lock f.list (sets_down one (task_of g t).lock (owned s w) worker (had_after s w (task_of g t).lock (Move (UnitOf x) Waiting (Running w) ∷ []) worker (tt, tt) has)))
    task_after (Block None) f kind t runs =
        let has = has_lock t (ran g s w (Block None) cs f (TaskOf t) (λ b. b) runs) (leased_keeps t (and_parts _ _ f.condition).0) in
        inl (had (list_of g s w (Block None)) (task_of g t).lock f.list (sets_down s (task_of g t).lock (owned s w) worker has))
    task_after (Unblock (Some d)) f kind t runs =
        let has = has_lock t (ran g s w (Unblock (Some d)) cs f (TaskOf t) (λ b. b) runs) (λ r. false≢true (sym r.blocked ∙ (and_parts _ _ f.condition).0)) in
        let list = f.list ∙ takes_up_then d in
        inl (had _ (task_of g t).lock list
        (takes_up (task_of g t).lock (reverse (holding_of s w).parked) (Take ∷ Move (UnitOf d.unit) (Running w) (mark_from d.outcome) ∷ []) (tt, (tt, tt)) (subst (AllByRecursion (NamesOnly s)) list f.named) (subst (λ (ds : List Change). can_all s w ds ≡ true) list f.possible) has))
    task_after (Unblock None) f kind t runs =
        let has = has_lock t (ran g s w (Unblock None) cs f (TaskOf t) (λ b. b) runs) (λ r. false≢true (sym r.blocked ∙ (and_parts _ _ f.condition).0)) in
        inl (had _ (task_of g t).lock f.list
        (takes_up (task_of g t).lock (reverse (holding_of s w).parked) (Take ∷ []) (tt, tt) (subst (AllByRecursion (NamesOnly s)) f.list f.named) (subst (λ (ds : List Change). can_all s w ds ≡ true) f.list f.possible) has))
    task_after (End x) f kind t runs = absurd (not_over x t f kind runs)
    task_after Acquire f kind t runs = absurd (no_task Acquire f t (nothing_runs s w (and_parts _ _ f.condition).1) (λ b. b) runs)
    task_after HandBack f kind t runs = absurd (no_task HandBack f t (nothing_runs s w (and_parts _ _ (and_parts _ _ f.condition).0).1) (λ b. b) runs)

    -- who runs a task and neither waits nor is blocked has a lease, or has released it
    works_after : (k : Kind) (f : Finishes g s w k cs) → IsKindOf g k → (t : ℕ) → mark_of (make_all s w cs) (TaskOf t) ≡ Running w → (holding_of (make_all s w cs) w).blocked ≡ false → is_parked (make_all s w cs) w ≡ false
        → ((holding_of (make_all s w cs) w).lease ≡ true) ⊎ HasReleasedTask g (make_all s w cs) w t
    works_after (Start x) f kind t runs free none = inl (ap (λ (y : Holding). y.lease) (left (list_of g s w (Start x)) f.list))
    works_after (Skip x) f kind t runs free none = absurd (no_task (Skip x) f t (idle_runs s w (and_parts _ _ f.condition).1) (λ b. b) runs)
    works_after (Submit x) f kind t runs free none =
        let at = works s w (task_with g x) (and_parts _ _ (and_parts _ _ (and_parts _ _ f.condition).0).0).0 in
        inl (ap (λ (y : Holding). y.lease) (left (list_of g s w (Submit x)) f.list ∙ units_leave Waiting Queued (items_of g x) (holding_of s w)) ∙ at.lease)
    works_after (Park x) f kind t runs free none = absurd (false≢true (sym none ∙ action_runs_by (make_all s w cs) w x (begun_wait x f kind)))
    works_after (Resume x) f kind t runs free none =
        let was : mark_of s (ActionOf x) ≡ Running w = same_mark_is (mark_of s (ActionOf x)) (Running w) (and_parts _ _ (and_parts _ _ (and_parts _ _ f.condition).0).0).0 in
        let task = ran g s w (Resume x) cs f (TaskOf t) (λ b. b) runs in
        elim (resumes_it (action_of g x).retention x t f refl kind was task (has_lock t task (λ r. false≢true (sym r.waits ∙ action_runs_by s w x was)))) [
          | inl both ↦ inl both.1
          | inr released ↦ inr released
        ]
    works_after (Claim x) f kind t runs free none = inl (ap (λ (y : Holding). y.lease) (left (list_of g s w (Claim x)) f.list))
    works_after (Close d) f kind t runs free none =
        let possible : can_all s w (list_of g s w (Close d)) ≡ true = subst (λ (ds : List Change). can_all s w ds ≡ true) f.list f.possible in
        let unit : mark_of s (UnitOf d.unit) ≡ Running w = same_mark_is (mark_of s (UnitOf d.unit)) (Running w) (and_parts _ _ f.condition).1 in
        let a = keeps.apart (and_parts _ _ (and_parts _ _ possible).1).0 t d.unit (ran g s w (Close d) cs f (TaskOf t) (λ b. b) runs) unit in
        absurd (false≢true (sym (still_out (Close d) f (λ b from to p. p) none) ∙ action_runs_by s w a.0 a.1))
    works_after (Block (Some x)) f kind t runs free none = absurd (blocks (Block (Some x)) (list_of g s w (Block (Some x))) (record (holding_of s w) { lease = false }) f.list refl free)
    works_after (Block None) f kind t runs free none = absurd (blocks (Block None) (list_of g s w (Block None)) (record (holding_of s w) { lease = false }) f.list refl free)
    works_after (Unblock (Some d)) f kind t runs free none =
        inl (ap (λ (y : Holding). y.lease) (left _ (f.list ∙ takes_up_then d)) ∙ unblocks_lease_then (holding_of s w) (reverse (holding_of s w).parked) (UnitOf d.unit) (Running w) (mark_from d.outcome))
    works_after (Unblock None) f kind t runs free none = inl (ap (λ (y : Holding). y.lease) (left (list_of g s w (Unblock None)) f.list) ∙ unblocks_lease (holding_of s w) (reverse (holding_of s w).parked))
    works_after (End x) f kind t runs free none = absurd (not_over x t f kind runs)
    works_after Acquire f kind t runs free none = absurd (no_task Acquire f t (nothing_runs s w (and_parts _ _ f.condition).1) (λ b. b) runs)
    works_after HandBack f kind t runs free none = absurd (no_task HandBack f t (nothing_runs s w (and_parts _ _ (and_parts _ _ f.condition).0).1) (λ b. b) runs)

    pub in_place_after : (k : Kind) → Finishes g s w k cs → IsKindOf g k → IsInPlace g (make_all s w cs) w
    in_place_after k f kind = record {
      task = λ t runs. task_after k f kind t runs;
      works = λ t runs free none. works_after k f kind t runs free none;
      parked = λ free none. parked_after k f kind free none;
      waits = λ a runs. waits_after k f kind a runs;
      lease = λ a runs lease. lease_after k f kind a runs lease;
      item = λ u runs free. item_after k f kind u runs free;
    }
