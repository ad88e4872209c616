-- An action's items queued, and the wait for them begun behind that.
use Rattle.std.proofs.Common.{◌≡◌, ℕ, ◌<◌, Bool, true, false, List, [], ◌∷◌, Option, Some, Result, Ok, IfOk, sym, ap, ◌∙◌, subst, arith, refl, length}
use Rattle.std.specs.Prelude.{Contains}
use Rattle.std.specs.List.{list_any}
use Rattle.std.proofs.lemmas.List.{get_or-set_same}
use Rattle.lock_journal.specs.Names.{make, make_all, GraphView, action_of, items_of, lock_with, task_with, IsMarkOf, StateView, mark_of, stands_in}
use Rattle.lock_journal.specs.Names.{Change, Move, Retention, Retain, Release, ReleaseAndReacquire, LockId, WorkerId, Waiting, Queued, MarkId, TaskOf}
use Rattle.lock_journal.specs.Names.{ActionOf, UnitOf, BookView, IsDisabled, IsFixedList, moved_units, Submit, Park, is_action, is_unit}
use Rattle.resource_lock.specs.Change.{with_mark}
use Rattle.lock_transforms.specs.declared.kinds.parks.Park.{Park as ParkOf}
use Rattle.coordination.specs.Names.{HasFinished, HasLooked, AsTold, Telling, WaitsAsTold, HasFollowed, ShowsTheSame, claimed_shown, lease_shown}
use Rattle.coordination.specs.declared.decisions.Decided.TheVariants as decided
use Rattle.coordination.specs.declared.decisions.Followed.{Followed}
use Rattle.coordination.specs.declared.decisions.Followed.TheVariants as followed
use Rattle.coordination.specs.declared.halts.Halt.{Halt}
use Rattle.coordination.specs.declared.rule.Sight.{Sight}
use Rattle.worker_notes.proofs.lemmas.Entries.{belongs_sound}
use Rattle.coordination.proofs.lemmas.Shown.{looked_shows}
use Rattle.async_tracker.specs.Following.{HasParkedAtOnce}
use Rattle.async_tracker.specs.Queueing.{HasSubmittedThen}
use Rattle.async_tracker.specs.Shows.{HasReleased, IsFree, IsIdleOrParked, OwnsToPark, ShowsParked, WorksOn}
use Rattle.async_tracker.proofs.Parking.{not_queued, parked_free, parked_shows, parked_waits, released, submitted_shows}
use Rattle.async_tracker.proofs.lemmas.After.{found_again, if_ok}
use Rattle.async_tracker.proofs.lemmas.Turns.{parked_from, shows_then}

-- moves of units leave the mark of an action
action_stays : (w : WorkerId) (a : ℕ) (us : List ℕ) (s : StateView) → mark_of (make_all s w (moved_units us Waiting Queued)) (ActionOf a) ≡ mark_of s (ActionOf a)
action_stays w a [] s = refl
action_stays w a (u ∷ us) s = action_stays w a us (make s w (Move (UnitOf u) Waiting Queued))

-- an action whose items were queued is Queued
queued_then : {a : ℕ} {old new : Sight} → HasFinished (Submit a) (IsFixedList (Submit a)) old new → mark_of new.seen.state (ActionOf a) ≡ Queued
queued_then {a} {old} f =
    let w : WorkerId = old.worker in
    let s : StateView = f.before.state in
    let us : List ℕ = items_of f.before.graph a in
    let belongs = belongs_sound f.before f.found.sound in
    let there : a < length f.before.graph.actions = f.finished.allowed.kind in
    let within : IsMarkOf s (ActionOf a) = let same = belongs.actions in omega (arith, there, same) in
    ap (λ (x : Sight). mark_of x.seen.state (ActionOf a)) f.sight
    ∙ (ap (λ (x : StateView). mark_of x (ActionOf a)) f.finished.state
    ∙ (ap (λ (cs : List Change). mark_of (make_all s w cs) (ActionOf a)) f.finished.made
    ∙ (action_stays w a us (with_mark s (ActionOf a) Queued) ∙ get_or-set_same s.actions a Queued Waiting within)))

same_action : (a : ℕ) (p : ParkOf) → ◌≡◌ {A = Option ParkOf} (Some (record { action = a })) (Some p) → p.action ≡ a
same_action a p is = cc

-- a worker that shows the same works on the task of the action, and owns what it is to park
pub works_still : {old new : Sight} (a : ℕ) → ShowsTheSame old new → WorksOn old (task_with old.seen.graph a) → WorksOn new (task_with new.seen.graph a)
works_still {old} {new} a same works = subst (λ (g : GraphView). WorksOn new (task_with g a)) (sym same.graph) there
  where
    there : WorksOn new (task_with old.seen.graph a)
    there = record {
      task = subst (λ (ms : List MarkId). Contains ms (TaskOf (task_with old.seen.graph a))) (sym same.claimed) works.task;
      lease = same.lease ∙ works.lease;
      actions = ap (list_any is_action) same.claimed ∙ works.actions;
    }

owns_by : {old new : Sight} (r : Retention) (l : LockId) → ShowsTheSame old new → OwnsToPark r l old → OwnsToPark r l new
owns_by Retain l same own = tt
owns_by Release l same own = ap (stands_in l) same.locks ∙ own
owns_by ReleaseAndReacquire l same own = ap (stands_in l) same.locks ∙ own

pub owns_still : {old new : Sight} (a : ℕ) → ShowsTheSame old new → OwnsToPark (action_of old.seen.graph a).retention (lock_with old.seen.graph a) old → OwnsToPark (action_of new.seen.graph a).retention (lock_with new.seen.graph a) new
owns_still {old} {new} a same own =
    subst (λ (g : GraphView). OwnsToPark (action_of g a).retention (lock_with g a) new) (sym same.graph) (owns_by (action_of old.seen.graph a).retention (lock_with old.seen.graph a) same own)

module _ (tells : Telling) (a : ℕ) (old new : Sight) where
  -- what the two entries that are made in one hold leave, with their answer
  abbrev pub Leaves : Followed (Unit {0}) → Type 0
  Leaves = HasFollowed (AsTold tells (λ queued w book x. Unit {0})) (WaitsAsTold tells (λ queued w book. ⊥)) (λ x. Some (record { action = a })) (λ (p : ParkOf). Park p.action) (λ p. IsFixedList (Park p.action)) (λ p g w s. ⊥) (λ p. IsDisabled (Park p.action))
      (Submit a) (IsFixedList (Submit a)) (λ g w s. ⊥) old new

  abbrev pub Parked : Type 0
  Parked = HasSubmittedThen a old (λ between. HasParkedAtOnce a between new)

  abbrev pub Submitted : Type 0
  Submitted = HasSubmittedThen a old (λ between. HasLooked between new)

  pub if_left : (r : Result (Followed (Unit {0})) Halt) (f : Followed (Unit {0})) → r ≡ Ok f → IfOk r Leaves → Leaves f
  if_left = if_ok Leaves

  pub parked_at_once : (b : Bool) → Leaves (followed.Decided (decided.Entered tt b)) → Parked
  parked_at_once true h =
      let parked : (p : HasFinished (Park a) (IsFixedList (Park a)) h.between new) × (p.before ≡ h.between.seen) =
      subst (λ n. (p : HasFinished (Park n) (IsFixedList (Park n)) h.between new) × (p.before ≡ h.between.seen)) (same_action a h.decided.step h.decided.is) (h.decided.finished, h.at_once) in
      record { between = h.between; submitted = h.finished; follows = record { parked = parked.0; at_once = parked.1 } }
  parked_at_once false h = absurd h.decided.failed.failed.cause

  pub submitted_alone : Leaves followed.NoMemory → Submitted
  submitted_alone h = record { between = new; submitted = h.0; follows = found_again h.0 }

  pub never_failed : Leaves followed.Failed → ⊥
  never_failed h = h.failed.cause

  pub never_undecided : Leaves followed.Undecided → ⊥
  never_undecided h = h.1.2

  pub never_answered : Leaves (followed.Decided (decided.Answered tt)) → ⊥
  never_answered h = let none = h.decided.1 in absurd (cc)

  -- parking is possible where the action is Queued
  pub never_waits : Leaves (followed.Decided (decided.Waiting tt)) → a < length old.seen.graph.actions → WorksOn old (task_with old.seen.graph a)
      → OwnsToPark (action_of old.seen.graph a).retention (lock_with old.seen.graph a) old → ⊥
  never_waits h there works own =
      let same = submitted_shows h.finished in
      let q = h.decided in
      not_queued h.between q.before a q.found (subst (λ (g : GraphView). a < length g.actions) (sym same.graph) there) (works_still a same works) (owns_still a same own)
      (subst (λ n. IsDisabled (Park n) q.before.graph h.between.worker q.before.state) (same_action a q.step q.is) q.unchanged.cause)
      (subst (λ (b : BookView). mark_of b.state (ActionOf a) ≡ Queued) (sym h.at_once) (queued_then h.finished))

  pub parked_behind : Parked → ShowsParked (action_of old.seen.graph a).retention (lock_with old.seen.graph a) a old new
  parked_behind p =
      let same = submitted_shows p.submitted in
      subst (λ (g : GraphView). ShowsParked (action_of g a).retention (lock_with g a) a old new) same.graph
      (parked_from (action_of p.between.seen.graph a).retention (lock_with p.between.seen.graph a) a same (parked_shows p.follows.parked))

  pub free_behind : Parked → lease_shown old ≡ true → list_any is_unit (claimed_shown old) ≡ false → IsFree new
  free_behind p leased none =
      let same = submitted_shows p.submitted in
      let parked = p.follows.parked in
      parked_free (action_of p.between.seen.graph a).retention (lock_with p.between.seen.graph a) parked (same.lease ∙ leased) (parked_shows parked) (ap (list_any is_unit) same.claimed ∙ none)

  pub waits_behind : Parked → IsIdleOrParked new
  waits_behind p = parked_waits a (action_of p.between.seen.graph a).retention (lock_with p.between.seen.graph a) (parked_shows p.follows.parked)

  pub released_behind : Parked → HasReleased (action_of old.seen.graph a).retention (lock_with old.seen.graph a) new
  released_behind p =
      let parked = p.follows.parked in
      subst (λ (g : GraphView). HasReleased (action_of g a).retention (lock_with g a) new) (submitted_shows p.submitted).graph
      (released (action_of p.between.seen.graph a).retention (lock_with p.between.seen.graph a) parked (parked_shows parked))

  pub submitted_still : Submitted → ShowsTheSame old new
  submitted_still p = shows_then (submitted_shows p.submitted) (looked_shows p.follows)
