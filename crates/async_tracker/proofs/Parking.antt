-- Where an action can be queued and waited for, and what that leaves.
use Rattle.std.proofs.Common.{◌≡◌, ◌≢◌, ℕ, zero, suc, ◌+◌, ◌-◌, ◌<◌, true, false, not, ◌&&◌, ◌||◌, eqb, List, [], ◌∷◌, ◌++◌, length, Option, None, Some, inr, refl, sym, ap, ◌∙◌, subst, arith}
use Rattle.std.specs.Prelude.{Contains}
use Rattle.std.specs.List.{list_all, list_any, range_with_len}
use Rattle.std.proofs.lemmas.Bool.{and_from, and_parts, eq-eqb, false≢true, false_from_ne_true, or_right}
use Rattle.std.proofs.lemmas.List.{get_or-set_other, get_or-set_same, get_or_push, length_push}
use Rattle.std.proofs.lemmas.Option.{slice_get-get_or}
use Rattle.std.proofs.lemmas.List.Folds.{list_any-append}
use Rattle.lock_journal.specs.Names.{can, can_all, holding_after, make, make_all, same_mark, stands_last, Good, GraphView, action_of, items_of}
use Rattle.lock_journal.specs.Names.{lock_with, task_with, Holding, StateView, has_parked, holding_of, is_owner, is_parked, mark_of, owns, stands_in}
use Rattle.lock_journal.specs.Names.{IsLockOf, IsWorkerOf, Change, Unlock, Give, Move, ParkLock, Retention, Retain, Release, ReleaseAndReacquire}
use Rattle.lock_journal.specs.Names.{LockId, WorkerId, Waiting, Queued, Running, MarkId, TaskOf, ActionOf, UnitOf, IsDisabled, IsFixedList, BookView}
use Rattle.lock_journal.specs.Names.{condition, is_enabled, moved_units, on_park, owned, works_on, Submit, Park, after_all, claimed_after}
use Rattle.lock_journal.specs.Names.{locks_after, mark_before, with_if, with_member, is_action, is_unit}
use Rattle.resource_lock.specs.Change.{is_lock}
use Rattle.resource_lock.proofs.lemmas.Kept.{kept}
use Rattle.resource_lock.proofs.lemmas.Runs.{worker_from}
use Rattle.coordination.specs.Names.{Finds, HasFinished, ShowsTheSame, claimed_shown, lease_shown, locks_shown, parked_shown}
use Rattle.coordination.specs.declared.rule.Sight.{Sight}
use Rattle.worker_notes.proofs.lemmas.Entries.{belongs_sound, good_sound}
use Rattle.coordination.proofs.lemmas.Shown.{Leaves, shows_left}
use Rattle.async_tracker.specs.Shows.{HasParkedLast, HasReleased, IsFree, IsIdleOrParked, IsParkedBy, OwnsToPark, ShowsParked, WorksOn, locks_on_park, parked_on_park}
use Rattle.async_tracker.specs.ParkedView.{ParkedView}
use Rattle.async_tracker.specs.Waits.{ActionIsNotQueued, CannotQueue, can_queue}
use Rattle.lock_journal.proofs.lemmas.Owned.{owned_there, stands_in_owned}
use Rattle.lock_journal.proofs.lemmas.Claims.{action_claimed, any_with, has_member, task_runs}

-- the worker works on the task in every state that it finds
pub works_found : (old : Sight) (book : BookView) (t : ℕ) → Finds old.worker old.seen book → WorksOn old t → works_on book.state old.worker t ≡ true
works_found old book t found works =
    let w : WorkerId = old.worker in
    let same = found.agrees.state in
    let runs : mark_of book.state (TaskOf t) ≡ Running w = (same.running (TaskOf t)).0 (task_runs old.seen.state w t works.task) in
    let leased : (holding_of book.state w).lease ≡ true = ap (λ (h : Holding). h.lease) same.holding ∙ works.lease in
    let waits : is_parked book.state w ≡ false = same.is_parked ∙ (sym (action_claimed old.seen.state w) ∙ works.actions) in
    (λ i. same_mark (runs i) (Running w) && leased i && not (waits i)) ∙ ap (λ b. b && true && true) (eq-eqb w.0 w.0 refl)

-- waiting units can be queued one after another
units_movable : (s : StateView) (w : WorkerId) (first n : ℕ) → list_all (λ u. same_mark (mark_of s (UnitOf u)) Waiting) (range_with_len first n) ≡ true → can_all s w (moved_units (range_with_len first n) Waiting Queued) ≡ true
units_movable s w first zero h = refl
units_movable s w first (suc n) h =
    let p = and_parts _ _ h in
    and_from _ _ (and_from _ _ (and_from _ _ (and_from _ _ p.0 refl) refl) refl)
    (units_movable (make s w (Move (UnitOf first) Waiting Queued)) w (first + 1) n (others (first + 1) n (omega arith) p.1))
  where
    others : (k m : ℕ) → first < k → list_all (λ u. same_mark (mark_of s (UnitOf u)) Waiting) (range_with_len k m) ≡ true → list_all (λ u. same_mark (mark_of (make s w (Move (UnitOf first) Waiting Queued)) (UnitOf u)) Waiting) (range_with_len k m) ≡ true
    others k zero above all = refl
    others k (suc m) above all =
        let q = and_parts _ _ all in
        and_from _ _ (ap (λ x. same_mark x Waiting) (get_or-set_other s.units first k Queued Waiting (omega (arith, above))) ∙ q.0) (others (k + 1) m (omega (arith, above)) q.1)

submit_enabled : (g : GraphView) (s : StateView) (w : WorkerId) (a : ℕ) → works_on s w (task_with g a) ≡ true → can_queue g s a ≡ true → is_enabled g s w (Submit a) ≡ true
submit_enabled g s w a works ready =
    let p = and_parts _ _ ready in
    let q = and_parts _ _ p.0 in
    let r = and_parts _ _ q.0 in
    let holds : condition g s w (Submit a) ≡ true = λ i. works i && r.0 i && r.1 i && q.1 i in
    let moves : can s w (Move (ActionOf a) Waiting Queued) ≡ true = λ i. r.0 i && true && true && true in
    and_from _ _ holds (and_from _ _ moves (units_movable (make s w (Move (ActionOf a) Waiting Queued)) w _ _ p.1))

pub cannot_queue : (old : Sight) (book : BookView) (a : ℕ) → Finds old.worker old.seen book → a < length old.seen.graph.actions → WorksOn old (task_with old.seen.graph a)
    → IsDisabled (Submit a) book.graph old.worker book.state → CannotQueue a book.graph old.worker book.state
cannot_queue old book a found there works disabled =
    let graph : old.seen.graph ≡ book.graph = sym found.agrees.graph in
    let here : a < length book.graph.actions = subst (λ (g : GraphView). a < length g.actions) graph there in
    let on : works_on book.state old.worker (task_with book.graph a) ≡ true = subst (λ (g : GraphView). works_on book.state old.worker (task_with g a) ≡ true) graph (works_found old book (task_with old.seen.graph a) found works) in
    false_from_ne_true _ (λ can. false≢true (sym (disabled here) ∙ submit_enabled book.graph book.state old.worker a on can))

-- moves of units to Queued change nothing of the worker's
units_queued : (w : WorkerId) (ms : List MarkId) (us : List ℕ) → after_all (claimed_after w) ms (moved_units us Waiting Queued) ≡ ms
units_queued w ms [] = refl
units_queued w ms (u ∷ us) = units_queued w ms us

holding_queued : (h : Holding) (us : List ℕ) → after_all holding_after h (moved_units us Waiting Queued) ≡ h
holding_queued h [] = refl
holding_queued h (u ∷ us) = holding_queued h us

locks_queued : (ls : List LockId) (us : List ℕ) → after_all locks_after ls (moved_units us Waiting Queued) ≡ ls
locks_queued ls [] = refl
locks_queued ls (u ∷ us) = locks_queued ls us

pub submitted_shows : {a : ℕ} {old new : Sight} → HasFinished (Submit a) (IsFixedList (Submit a)) old new → ShowsTheSame old new
submitted_shows {a} {old} f =
    let us : List ℕ = items_of f.before.graph a in
    shows_left f f.finished.made record {
      holding = holding_queued _ us;
      locks = locks_queued _ us;
      claimed = units_queued old.worker _ us;
    }

-- The lock that is parked can be unlocked and parked after the lease was given back.
can_put_by : (s : StateView) (w : WorkerId) (l : LockId) (cs : List Change) → IsWorkerOf s w → Good s → (holding_of s w).lease ≡ true → owns s w l ≡ true
    → can_all (make_all s w (Give ∷ Unlock l ∷ ParkLock l ∷ [])) w cs ≡ true → can_all s w (Give ∷ Unlock l ∷ ParkLock l ∷ cs) ≡ true
can_put_by s w l cs worker good lease own rest =
    let given : StateView = make s w Give in
    let open_state : StateView = make given w (Unlock l) in
    let good_given : Good given = kept s w Give worker tt good lease in
    let there : IsLockOf given l = owned_there s w l own in
    let not_own : owns open_state w l ≡ false = ap (λ (o : Option WorkerId). is_owner o w) (get_or-set_same s.owners l.0 None None there) in
    let absent : has_parked open_state w l ≡ false = good_given.parked_not_owned w l own in
    and_from _ _ lease (and_from _ _ own (and_from _ _ (λ i. not (not_own i) && not (absent i)) rest))

-- the action's move, which the rest of the list leaves possible
moves_on : (s : StateView) (w : WorkerId) (a : ℕ) → mark_of s (ActionOf a) ≡ Queued → can_all s w (Move (ActionOf a) Queued (Running w) ∷ []) ≡ true
moves_on s w a queued = λ i. (same_mark (queued i) Queued && true && true && eq-eqb w.0 w.0 refl i) && true

can_park : (r : Retention) (l : LockId) (s : StateView) (w : WorkerId) (a : ℕ) → IsWorkerOf s w → Good s → (holding_of s w).lease ≡ true → mark_of s (ActionOf a) ≡ Queued → (r ≢ Retain → owns s w l ≡ true)
    → can_all s w (on_park r l ++ Move (ActionOf a) Queued (Running w) ∷ []) ≡ true
can_park Retain l s w a worker good lease queued own = and_from _ _ lease (moves_on (make s w Give) w a queued)
can_park Release l s w a worker good lease queued own = can_put_by s w l (Move (ActionOf a) Queued (Running w) ∷ []) worker good lease (own (λ is. absurd (cc))) (moves_on (make_all s w (Give ∷ Unlock l ∷ ParkLock l ∷ [])) w a queued)
can_park ReleaseAndReacquire l s w a worker good lease queued own = can_put_by s w l (Move (ActionOf a) Queued (Running w) ∷ []) worker good lease (own (λ is. absurd (cc))) (moves_on (make_all s w (Give ∷ Unlock l ∷ ParkLock l ∷ [])) w a queued)

owns_to_park : (r : Retention) (l : LockId) (old : Sight) (s : StateView) → owned s old.worker ≡ locks_shown old → OwnsToPark r l old → r ≢ Retain → owns s old.worker l ≡ true
owns_to_park Retain l old s same own ne = absurd (ne refl)
owns_to_park Release l old s same own ne = sym (stands_in_owned s old.worker l) ∙ (ap (stands_in l) same ∙ own)
owns_to_park ReleaseAndReacquire l old s same own ne = sym (stands_in_owned s old.worker l) ∙ (ap (stands_in l) same ∙ own)

-- the retention, the lock and the task that a graph gives an action are the same in every book that is found
pub not_queued : (old : Sight) (book : BookView) (a : ℕ) → Finds old.worker old.seen book → a < length old.seen.graph.actions → WorksOn old (task_with old.seen.graph a)
    → OwnsToPark (action_of old.seen.graph a).retention (lock_with old.seen.graph a) old → IsDisabled (Park a) book.graph old.worker book.state → ActionIsNotQueued a book.graph old.worker book.state
not_queued old book a found there works own disabled = λ queued.
    let w : WorkerId = old.worker in
    let graph : old.seen.graph ≡ book.graph = sym found.agrees.graph in
    let s : StateView = book.state in
    let here : a < length book.graph.actions = subst (λ (g : GraphView). a < length g.actions) graph there in
    let on : works_on s w (task_with book.graph a) ≡ true = subst (λ (g : GraphView). works_on s w (task_with g a) ≡ true) graph (works_found old book (task_with old.seen.graph a) found works) in
    let owner : OwnsToPark (action_of book.graph a).retention (lock_with book.graph a) old = subst (λ (g : GraphView). OwnsToPark (action_of g a).retention (lock_with g a) old) graph own in
    let worker : IsWorkerOf s w = worker_from book.graph s w (belongs_sound book found.sound) found.known in
    let leased : (holding_of s w).lease ≡ true = ap (λ (h : Holding). h.lease) found.agrees.state.holding ∙ works.lease in
    let holds : condition book.graph s w (Park a) ≡ true = λ i. on i && same_mark (queued i) Queued in
    let possible = can_park (action_of book.graph a).retention (lock_with book.graph a) s w a worker (good_sound book found.sound) leased queued
    (owns_to_park (action_of book.graph a).retention (lock_with book.graph a) old s found.agrees.state.owned owner) in
    false≢true (sym (disabled here) ∙ and_from _ _ holds possible)

-- what a park leaves
park_leaves : (r : Retention) (l : LockId) (a : ℕ) (old : Sight) → Leaves (locks_on_park r l (locks_shown old)) false (with_member mark_before (ActionOf a) (claimed_shown old)) (parked_on_park r l (parked_shown old)) old (on_park r l ++ Move (ActionOf a) Queued (Running old.worker) ∷ [])
park_leaves Retain l a old = record { holding = refl; locks = refl; claimed = ap (λ b. with_if mark_before b (ActionOf a) (claimed_shown old)) (eq-eqb old.worker.0 old.worker.0 refl) }
park_leaves Release l a old = record { holding = refl; locks = refl; claimed = ap (λ b. with_if mark_before b (ActionOf a) (claimed_shown old)) (eq-eqb old.worker.0 old.worker.0 refl) }
park_leaves ReleaseAndReacquire l a old = record { holding = refl; locks = refl; claimed = ap (λ b. with_if mark_before b (ActionOf a) (claimed_shown old)) (eq-eqb old.worker.0 old.worker.0 refl) }

pub parked_shows : {a : ℕ} {old new : Sight} → HasFinished (Park a) (IsFixedList (Park a)) old new → ShowsParked (action_of old.seen.graph a).retention (lock_with old.seen.graph a) a old new
parked_shows {a} {old} {new} f =
    let graph : f.before.graph ≡ old.seen.graph = f.found.agrees.graph in
    subst (λ (g : GraphView). ShowsParked (action_of g a).retention (lock_with g a) a old new) graph (shows_left f f.finished.made (park_leaves (action_of f.before.graph a).retention (lock_with f.before.graph a) a old))

-- the pass shows a good state
good_left : {a : ℕ} {old new : Sight} → HasFinished (Park a) (IsFixedList (Park a)) old new → Good new.seen.state
good_left f = subst (λ (s : Sight). Good s.seen.state) (sym f.sight) (good_sound f.after f.left)

stands_last-push : (l : LockId) (locks : List LockId) → stands_last l (locks ++ l ∷ []) ≡ true
stands_last-push l locks =
    let at : length locks ≡ length (locks ++ l ∷ []) - 1 = omega (arith, length_push locks l) in
    let within : length (locks ++ l ∷ []) - 1 < length (locks ++ l ∷ []) = omega (arith, length_push locks l) in
    ap (λ o. is_lock o l) (slice_get-get_or (locks ++ l ∷ []) (length (locks ++ l ∷ []) - 1) l within ∙ ap Some (get_or_push locks l l (length (locks ++ l ∷ []) - 1) at))
    ∙ eq-eqb l.0 l.0 refl

pub stands_in-last : (l : LockId) (locks : List LockId) → stands_in l (locks ++ l ∷ []) ≡ true
stands_in-last l locks = list_any-append (λ x. eqb x.0 l.0) locks (l ∷ []) ∙ or_right (stands_in l locks) (eqb l.0 l.0 || false) (ap (λ b. b || false) (eq-eqb l.0 l.0 refl))

not_owned_when_parked : (s : StateView) (w : WorkerId) (l : LockId) → Good s → has_parked s w l ≡ true → owns s w l ≡ false
not_owned_when_parked s w l good parked = false_from_ne_true _ (λ own. false≢true (sym (good.parked_not_owned w l own) ∙ parked))

pub released : {a : ℕ} {old new : Sight} (r : Retention) (l : LockId) → HasFinished (Park a) (IsFixedList (Park a)) old new → ShowsParked r l a old new → HasReleased r l new
released Retain l f shows = tt
released {old = old} {new = new} Release l f shows = λ book agrees. agrees.state.owns l ∙ not_owned_when_parked new.seen.state new.worker l (good_left f) (ap (stands_in l) shows.parked ∙ stands_in-last l (parked_shown old))
released {old = old} {new = new} ReleaseAndReacquire l f shows = λ book agrees. agrees.state.owns l ∙ not_owned_when_parked new.seen.state new.worker l (good_left f) (ap (stands_in l) shows.parked ∙ stands_in-last l (parked_shown old))

parked_last : (r : Retention) (l : LockId) (a : ℕ) {old new : Sight} → ShowsParked r l a old new → HasParkedLast r l new
parked_last Retain l a shows = tt
parked_last Release l a {old = old} shows = ap (stands_last l) shows.parked ∙ stands_last-push l (parked_shown old)
parked_last ReleaseAndReacquire l a {old = old} shows = ap (stands_last l) shows.parked ∙ stands_last-push l (parked_shown old)

pub parked_by : {a : ℕ} {old new : Sight} (p : ParkedView) → p.worker ≡ new.worker → p.action ≡ a → ShowsParked (action_of old.seen.graph a).retention (lock_with old.seen.graph a) a old new → IsParkedBy new p
parked_by {a} {old} {new} p worker action shows =
    let last = parked_last (action_of old.seen.graph a).retention (lock_with old.seen.graph a) a shows in
    let here : HasParkedLast (action_of new.seen.graph a).retention (lock_with new.seen.graph a) new = subst (λ (g : GraphView). HasParkedLast (action_of g a).retention (lock_with g a) new) (sym shows.graph) last in
    record {
      worker = worker;
      action = subst (λ (ms : List MarkId). Contains ms (ActionOf p.action)) (sym shows.claimed) (subst (λ b. Contains (with_member mark_before (ActionOf a) (claimed_shown old)) (ActionOf b)) (sym action) (has_member mark_before (ActionOf a) (claimed_shown old)));
      lock = subst (λ b. HasParkedLast (action_of new.seen.graph b).retention (lock_with new.seen.graph b) new) (sym action) here;
    }

-- a worker that waits for items and runs no unit can claim one
pub parked_free : {a : ℕ} {old new : Sight} (r : Retention) (l : LockId) → HasFinished (Park a) (IsFixedList (Park a)) old new → lease_shown old ≡ true → ShowsParked r l a old new → list_any is_unit (claimed_shown old) ≡ false → IsFree new
parked_free {a} {old} {new} r l f leased shows none =
    let holding = f.found.agrees.state.holding in
    let lease : (holding_of f.before.state old.worker).lease ≡ true = ap (λ (h : Holding). h.lease) holding ∙ leased in
    let good : Good f.before.state = good_sound f.before f.found.sound in
    let open_before : (holding_of f.before.state old.worker).blocked ≡ false = false_from_ne_true _ (λ is. false≢true (sym (good.blocked_no_lease old.worker is) ∙ lease)) in
    record {
      lease = shows.lease;
      blocked = shows.blocked ∙ (sym (ap (λ (h : Holding). h.blocked) holding) ∙ open_before);
      units = ap (list_any is_unit) shows.claimed ∙ (any_with mark_before is_unit (ActionOf a) (claimed_shown old) ∙ none);
    }

pub parked_waits : (a : ℕ) {old new : Sight} (r : Retention) (l : LockId) → ShowsParked r l a old new → IsIdleOrParked new
parked_waits a {old} r l shows = inr (ap (list_any is_action) shows.claimed ∙ any_with mark_before is_action (ActionOf a) (claimed_shown old))
