-- Where a task can't be started or ended, and what a start, a skip and an end leave.
use Rattle.std.proofs.Common.{◌≡◌, ℕ, ◌<◌, Bool, true, false, cond, not, ◌&&◌, ◌||◌, List, [], ◌∷◌, ◌++◌, length, refl, sym, ap, ◌∙◌, subst}
use Rattle.std.specs.Prelude.{nat_lt, is_none}
use Rattle.std.specs.List.{list_all}
use Rattle.std.proofs.lemmas.Bool.{and_from, eq-eqb, false≢true, not_from_false}
use Rattle.std.proofs.lemmas.List.{append-nil, append_assoc}
use Rattle.resource_lock.proofs.lemmas.Conflicts.{free_for_all, free_of_owner}
use Rattle.lock_journal.specs.Names.{can, can_all, holding_after, make, make_all, same_mark, GraphView, task_of, actions_of, units_of, Holding}
use Rattle.lock_journal.specs.Names.{StateView, empty_holding, holding_of, is_idle, is_parked, kept_from, leases_out, mark_of, owner_of, runs_by}
use Rattle.lock_journal.specs.Names.{runs_unit, stands_in, Change, Lock, Unlock, Take, Give, Move, LockId, WorkerId, Mark, Waiting, Running, Passed}
use Rattle.lock_journal.specs.Names.{Failed, Skipped, MarkId, TaskOf, ActionOf, UnitOf, IsDisabled, IsFixedList, condition, end_mark, is_enabled}
use Rattle.lock_journal.specs.Names.{list_of, moved_units, skipped_action, skipped_actions, skipped_waiting, units_passed, Start, Skip, End, BookView}
use Rattle.lock_journal.specs.Names.{after_all, claimed_after, lock_before, locks_after, mark_before, with_if, with_member, without_if}
use Rattle.lock_journal.specs.Names.{without_member}
use Rattle.worker_choices.specs.NextSteps.{CanBegin}
use Rattle.coordination.specs.Names.{Finds, HasFinished, HoldsNothing, ShowsTheSame, blocked_shown}
use Rattle.coordination.specs.Names.{claimed_shown, lease_shown, locks_shown}
use Rattle.coordination.specs.declared.rule.Sight.{Sight}
use Rattle.coordination.proofs.lemmas.Shown.{shows_left}
use Rattle.async_tracker.specs.Tasks.{CannotEnd, CannotStart, MayEnd, ShowsEnded, ShowsStarted, locks_on_end}
use Rattle.lock_journal.proofs.lemmas.Claims.{action_claimed, idle_shown, task_runs, unit_claimed}

-- a worker that has nothing is idle in every state that it finds, and has nothing there
pub idle_found : (old : Sight) (book : BookView) → Finds old.worker old.seen book → HoldsNothing old → is_idle book.state old.worker ≡ true
idle_found old book found rests =
    found.agrees.state.is_idle
    ∙ idle_shown old.seen.state old.worker rests.locks rests.claimed (ap (λ (h : Holding). h.lease) rests.holding) (ap (λ (h : Holding). h.blocked) rests.holding)

nothing_found : (old : Sight) (book : BookView) → Finds old.worker old.seen book → HoldsNothing old → holding_of book.state old.worker ≡ empty_holding
nothing_found old book found rests = found.agrees.state.holding ∙ rests.holding

start_enabled : (g : GraphView) (s : StateView) (w : WorkerId) (t : ℕ) → is_idle s w ≡ true → holding_of s w ≡ empty_holding → CanBegin g w s t → is_enabled g s w (Start t) ≡ true
start_enabled g s w t idle nothing begin =
    let l : LockId = (task_of g t).lock in
    let left : nat_lt (leases_out s) s.max_leases ≡ true = sym (ap (λ (h : Holding). h.lease || nat_lt (leases_out s) s.max_leases) nothing) ∙ begin.lease in
    let holds : condition g s w (Start t) ≡ true = λ i. same_mark (begin.start.waits i) Waiting && begin.start.passed i && idle i in
    let open' : not (kept_from s w l) ≡ true = not_from_false (kept_from s w l) (free_for_all s w l begin.start.free) in
    let locks : can s w (Lock l) ≡ true = and_from _ _ (and_from (is_none (owner_of s l)) (not (kept_from s w l)) (free_of_owner s l begin.start.free) open') (ap (λ (h : Holding). not (stands_in l h.parked)) nothing) in
    let takes : can (make s w (Lock l)) w Take ≡ true = λ i. not (nothing i).lease && not (nothing i).blocked && left i in
    let moves : can (make_all s w (Lock l ∷ Take ∷ [])) w (Move (TaskOf t) Waiting (Running w)) ≡ true = λ i. same_mark (begin.start.waits i) Waiting && true && true && eq-eqb w.0 w.0 refl i in
    and_from _ _ holds (and_from _ _ locks (and_from _ _ takes (and_from _ _ moves refl)))

-- a start of an idle worker fails only where the task can't be begun
pub cannot_start : (old : Sight) (book : BookView) (t : ℕ) → Finds old.worker old.seen book → HoldsNothing old → is_enabled book.graph book.state old.worker (Start t) ≡ false → CannotStart t book.graph old.worker book.state
cannot_start old book t found rests fails = λ begin.
    false≢true (sym fails ∙ start_enabled book.graph book.state old.worker t (idle_found old book found rests) (nothing_found old book found rests) begin)

-- the end of a task waits only where an action isn't through, or where a change can't be made
pub cannot_end : (old : Sight) (book : BookView) (t : ℕ) → Finds old.worker old.seen book → t < length old.seen.graph.tasks → MayEnd old t → IsDisabled (End t) book.graph old.worker book.state → CannotEnd t book.graph old.worker book.state
cannot_end old book t found there may disabled = λ through.
    let w : WorkerId = old.worker in
    let same = found.agrees.state in
    let here : t < length book.graph.tasks = subst (λ (g : GraphView). t < length g.tasks) (sym found.agrees.graph) there in
    let runs : mark_of book.state (TaskOf t) ≡ Running w = (same.running (TaskOf t)).0 (task_runs old.seen.state w t may.task) in
    let waits : is_parked book.state w ≡ false = same.is_parked ∙ (sym (action_claimed old.seen.state w) ∙ may.actions) in
    let blocked : (holding_of book.state w).blocked ≡ false = ap (λ (h : Holding). h.blocked) same.holding ∙ may.blocked in
    let units : runs_unit book.state w ≡ false = same.runs_unit ∙ (sym (unit_claimed old.seen.state w) ∙ may.units) in
    let holds : condition book.graph book.state w (End t) ≡ true = (λ i. same_mark (runs i) (Running w) && not (waits i) && not (blocked i) && not (units i) && through i)
    ∙ ap (λ b. b && true && true && true && true) (eq-eqb w.0 w.0 refl) in
    sym (ap (λ b. b && can_all book.state w (list_of book.graph book.state w (End t))) holds) ∙ disabled here

pub started_shows : {t : ℕ} {old new : Sight} → HasFinished (Start t) (IsFixedList (Start t)) old new → HoldsNothing old → ShowsStarted t old new
started_shows {t} {old} f rests = shows_left f f.finished.made record {
  holding = ap (λ (h : Holding). record { lease = true; parked = h.parked; blocked = blocked_shown old }) rests.holding;
  locks = λ i. with_member lock_before (task_of (f.found.agrees.graph i) t).lock (rests.locks i);
  claimed = λ i. with_if mark_before (eq-eqb old.worker.0 old.worker.0 refl i) (TaskOf t) (rests.claimed i);
}

-- changes that are nobody's own: what isn't run is skipped

module _ {X : Type 0} (after : X → Change → X) (quiet : (x : X) (m : MarkId) → after x (Move m Waiting Skipped) ≡ x) where
  quiet_units : (x : X) (us : List ℕ) (rest : List Change) → after_all after x (moved_units us Waiting Skipped ++ rest) ≡ after_all after x rest
  quiet_units x [] rest = refl
  quiet_units x (u ∷ us) rest = ap (λ y. after_all after y (moved_units us Waiting Skipped ++ rest)) (quiet x (UnitOf u)) ∙ quiet_units x us rest

  quiet_action : (g : GraphView) (x : X) (a : ℕ) (rest : List Change) → after_all after x (skipped_action g a ++ rest) ≡ after_all after x rest
  quiet_action g x a rest = ap (λ y. after_all after y (moved_units (units_of g a) Waiting Skipped ++ rest)) (quiet x (ActionOf a)) ∙ quiet_units x (units_of g a) rest

  quiet_actions : (g : GraphView) (x : X) (acts : List ℕ) (rest : List Change) → after_all after x (skipped_actions g acts ++ rest) ≡ after_all after x rest
  quiet_actions g x [] rest = refl
  quiet_actions g x (a ∷ acts) rest =
      ap (after_all after x) (append_assoc (skipped_action g a) (skipped_actions g acts) rest)
      ∙ (quiet_action g x a (skipped_actions g acts ++ rest) ∙ quiet_actions g x acts rest)

  quiet_first : (g : GraphView) (s : StateView) (x : X) (a : ℕ) (acts : List ℕ) (rest : List Change) (b : Bool) → after_all after x (skipped_waiting g s acts ++ rest) ≡ after_all after x rest
      → after_all after x ((cond b (skipped_action g a) [] ++ skipped_waiting g s acts) ++ rest) ≡ after_all after x rest
  quiet_first g s x a acts rest true quiet_rest =
      ap (after_all after x) (append_assoc (skipped_action g a) (skipped_waiting g s acts) rest)
      ∙ (quiet_action g x a (skipped_waiting g s acts ++ rest) ∙ quiet_rest)
  quiet_first g s x a acts rest false quiet_rest = quiet_rest

  quiet_waiting : (g : GraphView) (s : StateView) (x : X) (acts : List ℕ) (rest : List Change) → after_all after x (skipped_waiting g s acts ++ rest) ≡ after_all after x rest
  quiet_waiting g s x [] rest = refl
  quiet_waiting g s x (a ∷ acts) rest = quiet_first g s x a acts rest (same_mark (mark_of s (ActionOf a)) Waiting) (quiet_waiting g s x acts rest)

pub skipped_shows : {t : ℕ} {old new : Sight} → HasFinished (Skip t) (IsFixedList (Skip t)) old new → ShowsTheSame old new
skipped_shows {t} {old} f =
    let g : GraphView = f.before.graph in
    let acts : List ℕ = actions_of g t in
    shows_left f (f.finished.made ∙ ap (λ cs. Move (TaskOf t) Waiting Skipped ∷ cs) (sym (append-nil (skipped_actions g acts)))) record {
      holding = quiet_actions holding_after (λ x m. refl) g (holding_of old.seen.state old.worker) acts [];
      locks = quiet_actions locks_after (λ x m. refl) g (locks_shown old) acts [];
      claimed = quiet_actions (claimed_after old.worker) (λ x m. refl) g (claimed_shown old) acts [];
    }

-- what ends is run by nobody
ends_run : (w : WorkerId) (b : Bool) → runs_by w (cond b Passed Failed) ≡ false
ends_run w true = refl
ends_run w false = refl

-- the task's own move to its end
leaves_task : (w : WorkerId) (t : ℕ) (to : Mark) (ms : List MarkId) → runs_by w to ≡ false → claimed_after w ms (Move (TaskOf t) (Running w) to) ≡ without_member mark_before (TaskOf t) ms
leaves_task w t to ms ends = λ i. with_if mark_before (ends i) (TaskOf t) (without_if mark_before (eq-eqb w.0 w.0 refl i) (TaskOf t) ms)

pub ended_shows : {t : ℕ} {old new : Sight} → HasFinished (End t) (IsFixedList (End t)) old new → ShowsEnded t old new
ended_shows {t} {old} {new} f = shows_left f changes record {
  holding = quiet_waiting holding_after (λ x m. refl) g s (holding_of old.seen.state w) acts (moved ∷ tail leased) ∙ given_back leased (holding_of old.seen.state w) refl;
  locks = quiet_waiting locks_after (λ x m. refl) g s (locks_shown old) acts (moved ∷ tail leased) ∙ locks_left leased (locks_shown old);
  claimed = quiet_waiting (claimed_after w) (λ x m. refl) g s (claimed_shown old) acts (moved ∷ tail leased)
      ∙ (ap (λ ms. after_all (claimed_after w) ms (tail leased)) (leaves_task w t to (claimed_shown old) (ends_run w (list_all (units_passed g s) acts)))
      ∙ tail_claims leased (without_member mark_before (TaskOf t) (claimed_shown old)));
}
  where
    w : WorkerId
    w = old.worker

    g : GraphView
    g = f.before.graph

    s : StateView
    s = f.before.state

    acts : List ℕ
    acts = actions_of g t

    leased : Bool
    leased = lease_shown old

    to : Mark
    to = end_mark g s t

    moved : Change
    moved = Move (TaskOf t) (Running w) to

    tail : Bool → List Change
    tail b = cond b (Unlock (task_of g t).lock ∷ Give ∷ []) []

    lease_is : (holding_of s w).lease ≡ leased
    lease_is = ap (λ (h : Holding). h.lease) f.found.agrees.state.holding

    changes : f.changes ≡ skipped_waiting g s acts ++ moved ∷ tail leased
    changes = f.finished.made ∙ ap (λ b. skipped_waiting g s acts ++ moved ∷ tail b) lease_is

    given_back : (b : Bool) (h : Holding) → h.lease ≡ b → after_all holding_after h (moved ∷ tail b) ≡ record { lease = false; parked = h.parked; blocked = h.blocked }
    given_back true h e = refl
    given_back false h e = λ i. record { lease = e i; parked = h.parked; blocked = h.blocked }

    locks_left : (b : Bool) (ls : List LockId) → after_all locks_after ls (moved ∷ tail b) ≡ locks_on_end b (task_of old.seen.graph t).lock ls
    locks_left true ls = ap (λ (k : GraphView). without_member lock_before (task_of k t).lock ls) f.found.agrees.graph
    locks_left false ls = refl

    tail_claims : (b : Bool) (ms : List MarkId) → after_all (claimed_after w) ms (tail b) ≡ ms
    tail_claims true ms = refl
    tail_claims false ms = refl
