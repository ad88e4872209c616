-- Where a parked worker can go on, and what that leaves.
use Rattle.std.proofs.Common.{◌≡◌, ℕ, ◌<◌, Bool, true, false, not, ◌&&◌, ◌||◌, cond, eqb, inl, inr, List, [], ◌∷◌, ◌++◌, length, None, Some, refl, sym, ap, ◌∙◌, subst, arith}
use Rattle.std.specs.Prelude.{find, is_none, nat_lt}
use Rattle.std.specs.List.{list_all}
use Rattle.std.proofs.lemmas.Bool.{and_from, and_parts, cases_lt, eq-eqb, false≢true, false_from_ne_true, not-true}
use Rattle.std.proofs.lemmas.List.{get_or_past}
use Rattle.lock_journal.specs.Names.{can, can_all, holding_after, make, same_mark, stands_last, without_last, Good, GraphView, action_of, items_of}
use Rattle.lock_journal.specs.Names.{lock_with, Holding, StateView, has_parked, holding_of, kept_from, leases_out, mark_of, owner_of, owns, runs_unit}
use Rattle.lock_journal.specs.Names.{stands_in, IsWorkerOf, can_lease, Lock, Take, Move, Unpark, Retention, Retain, Release, ReleaseAndReacquire}
use Rattle.lock_journal.specs.Names.{LockId, WorkerId, Waiting, Running, Passed, ActionOf, UnitOf, IsDisabled}
use Rattle.lock_journal.specs.Names.{IsFixedList, BookView, condition, has_ended, on_resume, can_take_all, Resume}
use Rattle.lock_journal.specs.Names.{mark_before, with_if, without_if, without_member}
use Rattle.resource_lock.specs.Change.{inverse_of}
use Rattle.resource_lock.proofs.lemmas.Kept.{can_back, leases-with_holding}
use Rattle.resource_lock.proofs.lemmas.Runs.{worker_from}
use Rattle.resource_lock.proofs.lemmas.Undo.{last_from}
use Rattle.lock_transforms.proofs.lemmas.Locking.{free_lock}
use Rattle.lock_journal.proofs.lemmas.OwnChanges.{own_holding_all}
use Rattle.coordination.specs.Names.{Finds, HasFinished, blocked_shown, claimed_shown, lease_shown, locks_shown}
use Rattle.coordination.specs.Names.{parked_shown}
use Rattle.coordination.specs.declared.rule.Sight.{Sight}
use Rattle.worker_notes.proofs.lemmas.Entries.{belongs_sound, good_sound}
use Rattle.async_tracker.specs.ParkedView.{ParkedView}
use Rattle.async_tracker.specs.Shows.{HasParkedLast, IsFree, IsParkedBy, ShowsResumed, lease_on_resume, locks_on_resume, parked_on_resume}
use Rattle.worker_choices.specs.NextSteps.{CanGoOn, can_take_again, first_open}
use Rattle.async_tracker.specs.Waits.{CannotTakeAgain}
use Rattle.coordination.proofs.lemmas.Shown.{Leaves, shows_left}
use Rattle.lock_journal.proofs.lemmas.Claims.{action_runs, unit_claimed}
use Rattle.async_tracker.proofs.Parking.{stands_in-last}

-- no item is open where all have ended
pub none_open : {X : Type 0} (p : X → Bool) (xs : List X) → is_none (find (λ x. not (p x)) xs) ≡ list_all p xs
none_open p [] = refl
none_open p (x ∷ xs) = elim (p x) as (λ b. is_none (cond (not b) (Some x) (find (λ y. not (p y)) xs)) ≡ (b && list_all p xs)) [
  | true ↦ none_open p xs
  | false ↦ refl
]

-- What is so of a parked worker in a state that it finds.
record Waits (s : StateView) (w : WorkerId) (a : ℕ) : Type 0 where
  worker : IsWorkerOf s w
  good : Good s
  action : mark_of s (ActionOf a) ≡ Running w
  lease : (holding_of s w).lease ≡ false
  blocked : (holding_of s w).blocked ≡ false

passes_on : (s : StateView) (w : WorkerId) (a : ℕ) → mark_of s (ActionOf a) ≡ Running w → can_all s w (Move (ActionOf a) (Running w) Passed ∷ []) ≡ true
passes_on s w a runs =
    let same : same_mark (mark_of s (ActionOf a)) (Running w) ≡ true = ap (λ m. same_mark m (Running w)) runs ∙ eq-eqb w.0 w.0 refl in
    λ i. (same i && true && eq-eqb w.0 w.0 refl i && true) && true

takes_then : (s : StateView) (w : WorkerId) (a : ℕ) → (holding_of s w).lease ≡ false → (holding_of s w).blocked ≡ false → mark_of s (ActionOf a) ≡ Running w → can_lease s w ≡ true → can_all s w (Take ∷ Move (ActionOf a) (Running w) Passed ∷ []) ≡ true
takes_then s w a lease blocked runs free =
    let some : nat_lt (leases_out s) s.max_leases ≡ true = sym (ap (λ b. b || nat_lt (leases_out s) s.max_leases) lease) ∙ free in
    and_from _ _ (λ i. not (lease i) && not (blocked i) && some i) (passes_on (make s w Take) w a runs)

has_last : (s : StateView) (w : WorkerId) (l : LockId) → stands_last l (holding_of s w).parked ≡ true → has_parked s w l ≡ true
has_last s w l last = ap (stands_in l) (sym (last_from (holding_of s w).parked l last)) ∙ stands_in-last l (without_last (holding_of s w).parked)

takes_again : (s : StateView) (w : WorkerId) (l : LockId) (a : ℕ) → Waits s w a → stands_last l (holding_of s w).parked ≡ true → can_take_all s w (l ∷ []) ≡ true
    → can_all s w (Unpark l ∷ Lock l ∷ Take ∷ Move (ActionOf a) (Running w) Passed ∷ []) ≡ true
takes_again s w l a waits last free =
    let one : StateView = make s w (Unpark l) in
    let two : StateView = make one w (Lock l) in
    let p = and_parts _ _ free in
    let parked : has_parked s w l ≡ true = has_last s w l last in
    let not_own : owns s w l ≡ false = false_from_ne_true _ (λ own. false≢true (sym (waits.good.parked_not_owned w l own) ∙ parked)) in
    let open' : not (kept_from s w l) ≡ true = (and_parts _ _ p.0).0 in
    let nobody : is_none (owner_of s l) ≡ true = free_lock s w l not_own (not-true (kept_from s w l) open') in
    let back : can one w (inverse_of (Unpark l)) ≡ true = can_back s w (Unpark l) waits.worker (waits.good.parked_locks w l parked) waits.good last in
    let absent : not (has_parked one w l) ≡ true = (and_parts _ _ back).1 in
    let holding : holding_of two w ≡ holding_after (holding_of s w) (Unpark l) = own_holding_all s w (Unpark l ∷ Lock l ∷ []) waits.worker in
    let out : leases_out two ≡ leases_out s = omega (arith, leases-with_holding s w (holding_after (holding_of s w) (Unpark l)) waits.worker) in
    let lease_two : can_lease two w ≡ true = (λ i. (holding i).lease || nat_lt (out i) s.max_leases) ∙ p.1 in
    let then : can_all two w (Take ∷ Move (ActionOf a) (Running w) Passed ∷ []) ≡ true =
    takes_then two w a (ap (λ (h : Holding). h.lease) holding ∙ waits.lease) (ap (λ (h : Holding). h.blocked) holding ∙ waits.blocked) waits.action lease_two in
    and_from _ _ last (and_from _ _ (and_from _ _ (and_from (is_none (owner_of s l)) (not (kept_from s w l)) nobody open') absent) then)

-- what a worker has parked last, by the retention
abbrev LastBy : Retention → LockId → StateView → WorkerId → Type 0
LastBy Retain l s w = Unit {0}
LastBy _ l s w = stands_last l (holding_of s w).parked ≡ true

-- it can't take again what it may not have
cannot_take : (r : Retention) (l : LockId) (s : StateView) (w : WorkerId) (a : ℕ) → Waits s w a → LastBy r l s w → (can_all s w (on_resume r l ++ Move (ActionOf a) (Running w) Passed ∷ []) ≡ true → ⊥) → CannotTakeAgain r l w s
cannot_take Retain l s w a waits last not_all = false_from_ne_true _ (λ free. not_all (takes_then s w a waits.lease waits.blocked waits.action free))
cannot_take Release l s w a waits last not_all = not_all (and_from _ _ last (passes_on (make s w (Unpark l)) w a waits.action))
cannot_take ReleaseAndReacquire l s w a waits last not_all = false_from_ne_true _ (λ free. not_all (takes_again s w l a waits last free))

last_found : (r : Retention) (l : LockId) (old : Sight) (s : StateView) → (holding_of s old.worker).parked ≡ parked_shown old → HasParkedLast r l old → LastBy r l s old.worker
last_found Retain l old s same last = tt
last_found Release l old s same last = ap (stands_last l) same ∙ last
last_found ReleaseAndReacquire l old s same last = ap (stands_last l) same ∙ last

-- the action is one of the graph's
action_within : (s : StateView) (w : WorkerId) (a : ℕ) → mark_of s (ActionOf a) ≡ Running w → a < length s.actions
action_within s w a runs = elim (cases_lt a (length s.actions)) [
  | inl there ↦ there
  | inr past ↦ let waiting : mark_of s (ActionOf a) ≡ Waiting = get_or_past s.actions a Waiting past in absurd (cc)
]

-- once its items have ended, a parked worker waits only for what the retention takes again
pub waits_to_take : (old : Sight) (book : BookView) (p : ParkedView) → Finds old.worker old.seen book → IsParkedBy old p → IsFree old → first_open book.graph book.state p.action ≡ None
    → IsDisabled (Resume p.action) book.graph old.worker book.state → CannotTakeAgain (action_of book.graph p.action).retention (lock_with book.graph p.action) old.worker book.state
waits_to_take old book p found by free open_none disabled =
    let w : WorkerId = old.worker in
    let a : ℕ = p.action in
    let s : StateView = book.state in
    let g : GraphView = book.graph in
    let same = found.agrees.state in
    let belongs = belongs_sound book found.sound in
    let runs : mark_of s (ActionOf a) ≡ Running w = (same.running (ActionOf a)).0 (action_runs old.seen.state w a by.action) in
    let waits : Waits s w a = record {
      worker = worker_from g s w belongs found.known;
      good = good_sound book found.sound;
      action = runs;
      lease = ap (λ (h : Holding). h.lease) same.holding ∙ free.lease;
      blocked = ap (λ (h : Holding). h.blocked) same.holding ∙ free.blocked;
    } in
    let here : a < length g.actions = omega (arith, action_within s w a runs, belongs.actions) in
    let ended : list_all (λ u. has_ended (mark_of s (UnitOf u))) (items_of g a) ≡ true = sym (none_open _ (items_of g a)) ∙ ap is_none open_none in
    let units : runs_unit s w ≡ false = same.runs_unit ∙ (sym (unit_claimed old.seen.state w) ∙ free.units) in
    let running : same_mark (mark_of s (ActionOf a)) (Running w) ≡ true = ap (λ m. same_mark m (Running w)) runs ∙ eq-eqb w.0 w.0 refl in
    let holds : condition g s w (Resume a) ≡ true = λ i. running i && not (waits.lease i) && not (units i) && ended i in
    let lock : HasParkedLast (action_of g a).retention (lock_with g a) old = subst (λ (k : GraphView). HasParkedLast (action_of k a).retention (lock_with k a) old) (sym found.agrees.graph) by.lock in
    let last = last_found (action_of g a).retention (lock_with g a) old s (ap (λ (h : Holding). h.parked) same.holding) lock in
    cannot_take (action_of g a).retention (lock_with g a) s w a waits last (λ all. false≢true (sym (disabled here) ∙ and_from _ _ holds all))

can_take : (r : Retention) (l : LockId) (w : WorkerId) (s : StateView) → can_take_again r l w s ≡ true → CannotTakeAgain r l w s → ⊥
can_take Retain l w s free cannot = false≢true (sym cannot ∙ free)
can_take Release l w s free cannot = cannot
can_take ReleaseAndReacquire l w s free cannot =
    let p = and_parts (can_lease s w && is_none (owner_of s l)) (not (kept_from s w l)) free in
    let q = and_parts (can_lease s w) (is_none (owner_of s l)) p.0 in
    false≢true (sym cannot ∙ and_from (not (kept_from s w l) && true) (can_lease s w) (and_from (not (kept_from s w l)) true p.1 refl) q.0)

-- where a parked worker can go on it doesn't have to wait
pub resumes_at_once : (old : Sight) (book : BookView) (p : ParkedView) → Finds old.worker old.seen book → IsParkedBy old p → IsFree old → CanGoOn book.graph old.worker book.state p.action
    → IsDisabled (Resume p.action) book.graph old.worker book.state → ⊥
resumes_at_once old book p found by free can disabled =
    can_take (action_of book.graph p.action).retention (lock_with book.graph p.action) old.worker book.state can.free (waits_to_take old book p found by free can.over disabled)

-- what going on leaves
module _ (l : LockId) (a : ℕ) (old : Sight) where
  marks_left : with_if mark_before false (ActionOf a) (without_if mark_before (eqb old.worker.0 old.worker.0) (ActionOf a) (claimed_shown old)) ≡ without_member mark_before (ActionOf a) (claimed_shown old)
  marks_left = ap (λ b. without_if mark_before b (ActionOf a) (claimed_shown old)) (eq-eqb old.worker.0 old.worker.0 refl)

  resume_leaves : (r : Retention) → lease_shown old ≡ false → Leaves (locks_on_resume r l (locks_shown old)) (lease_on_resume r) (without_member mark_before (ActionOf a) (claimed_shown old)) (parked_on_resume r (parked_shown old)) old (on_resume r l ++ Move (ActionOf a) (Running old.worker) Passed ∷ [])
  resume_leaves Retain none = record { holding = refl; locks = refl; claimed = marks_left }
  resume_leaves Release none = record { holding = ap (λ b. record { lease = b; parked = without_last (parked_shown old); blocked = blocked_shown old }) none; locks = refl; claimed = marks_left }
  resume_leaves ReleaseAndReacquire none = record { holding = refl; locks = refl; claimed = marks_left }

pub resumed_shows : {a : ℕ} {old new : Sight} → lease_shown old ≡ false → HasFinished (Resume a) (IsFixedList (Resume a)) old new → ShowsResumed (action_of old.seen.graph a).retention (lock_with old.seen.graph a) a old new
resumed_shows {a} {old} {new} none f =
    let graph : f.before.graph ≡ old.seen.graph = f.found.agrees.graph in
    subst (λ (g : GraphView). ShowsResumed (action_of g a).retention (lock_with g a) a old new) graph (shows_left f f.finished.made (resume_leaves (lock_with f.before.graph a) a old (action_of f.before.graph a).retention none))
