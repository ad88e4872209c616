-- What the rules give next is done at once, in the very book of which they gave it.
use Rattle.std.proofs.Common.{◌≡◌, ◌+◌, ◌<◌, ℕ, zero, suc, Bool, true, false, Some, inl, length, refl, sym, ◌∙◌, subst, arith}
use Rattle.std.specs.Prelude.{find, if◌then◌else◌}
use Rattle.std.specs.List.{list_any, range_with_len}
use Rattle.std.proofs.lemmas.Bool.{and_parts, false≢true}
use Rattle.lock_journal.specs.Names.{can_all, same_mark, Fits, GraphView, action_of, task_of, IsActionOf, IsIn, lock_with, StateView, mark_of}
use Rattle.lock_journal.specs.Names.{WorkerId, Waiting, UnitOf, condition, is_enabled, list_of, is_unit}
use Rattle.ready_work.specs.Choices.{has_queued}
use Rattle.lock_transforms.specs.declared.entries.Kind.TheVariants as kinds
use Rattle.lock_journal.proofs.lemmas.Fitting.{apart_of}
use Rattle.coordination.specs.Names.{IsToWaitIn, HoldsNothing, claimed_shown}
use Rattle.coordination.specs.declared.rule.Sight.{Sight}
use Rattle.async_tracker.specs.NextWork.{step_of_next, step_of_parked}
use Rattle.async_tracker.specs.ParkedView.{ParkedView}
use Rattle.async_tracker.specs.Shows.{IsFree, IsIdleOrParked, IsParkedBy, OwnsToPark, WorksOn}
use Rattle.async_tracker.specs.WorkSteps.{IsRefused, RetriesAt}
use Rattle.async_tracker.specs.declared.next_work.NextWork.TheVariants as next
use Rattle.async_tracker.specs.declared.next_work.ParkedWork.TheVariants as parked
use Rattle.async_tracker.specs.declared.work_steps.WorkStep.{WorkStep}
use Rattle.async_tracker.specs.declared.work_steps.WorkStep.TheVariants as steps
use Rattle.async_tracker.proofs.lemmas.NextWork.{fits_in, idle_claims, never_refused, parked_claims, resumes, same_step, starts}
use Rattle.single_steps.specs.TaskMoves.{IsNextInTask, can_come, fetch_waits, first_to_come, is_queued, step_of_move}
use Rattle.single_steps.specs.declared.task_moves.TaskMove.TheVariants as moves
use Rattle.single_steps.proofs.AtOnce.{next_fetch, next_items, next_wait}
use Rattle.planned_work.specs.Next.{IsIdleChoice, IsMove, IsParkedChoice}

-- the claim of the lowest queued unit
pub claim_never : (old new : Sight) (u : ℕ) → Fits old.seen.graph → IsFree old → IsIdleOrParked old → IsRefused IsIdleChoice step_of_next (next.Claim u) old new → ⊥
claim_never old new u fits free waits =
    never_refused IsIdleChoice step_of_next (next.Claim u) (steps.Claim u) old new refl (λ book found choice. idle_claims old book u (has_queued book.state) fits found free waits choice)

pub parked_claim_never : (old new : Sight) (a u : ℕ) → Fits old.seen.graph → IsFree old → IsIdleOrParked old → IsRefused (IsParkedChoice a) (step_of_parked a) (parked.Claim u) old new → ⊥
parked_claim_never old new a u fits free waits =
    never_refused (IsParkedChoice a) (step_of_parked a) (parked.Claim u) (steps.Claim u) old new refl (λ book found choice. parked_claims old book a u (has_queued book.state) fits found free waits choice)

-- a start, and a skip that doesn't wait
pub start_never : (old new : Sight) (t : ℕ) → HoldsNothing old → IsRefused IsIdleChoice step_of_next (next.Start t) old new → ⊥
start_never old new t rests =
    never_refused IsIdleChoice step_of_next (next.Start t) (steps.Start t) old new refl (λ book found choice. starts old book t (has_queued book.state) found rests choice)

pub skip_never_waits : (old new : Sight) (t : ℕ) → IsToWaitIn IsIdleChoice step_of_next RetriesAt old new (next.Skip t) → ⊥
skip_never_waits old new t k =
    let again = subst (λ (x : WorkStep). RetriesAt x k.before.graph old.worker k.before.state) (same_step k.step (steps.Skip t) (sym k.is)) k.unchanged.cause in
    let within = k.answer.1.is.within in
    omega (arith, again, within)

-- going on behind the items of an action
pub resume_never : (old new : Sight) (p : ParkedView) (failed : Bool) → IsParkedBy old p → IsFree old → IsRefused (IsParkedChoice p.action) (step_of_parked p.action) (parked.Resume failed) old new → ⊥
resume_never old new p failed by free =
    never_refused (IsParkedChoice p.action) (step_of_parked p.action) (parked.Resume failed) (steps.Resume p.action) old new refl
    (λ book found choice. resumes old book p (has_queued book.state) failed found by free choice)

-- what is next in a task
enabled_meets : (g : GraphView) (s : StateView) (w : WorkerId) (u : ℕ) → is_enabled g s w (kinds.Block (Some u)) ≡ true → condition g s w (kinds.Block (Some u)) ≡ true
enabled_meets g s w u is = (and_parts (condition g s w (kinds.Block (Some u))) (can_all s w (list_of g s w (kinds.Block (Some u)))) is).0

fetch_is : (queued waits : Bool) (n a u : ℕ) → moves.Fetch u ≡ (if queued then moves.Park a else if waits then moves.Fetch n else moves.Submit a) → (waits ≡ true) × (u ≡ n)
fetch_is true waits n a u is = absurd (cc)
fetch_is false true n a u is = (refl, cc)
fetch_is false false n a u is = absurd (cc)

-- the fetch is a unit of the graph
fetch_within : (g : GraphView) (s : StateView) (w : WorkerId) (t u : ℕ) → Fits g → IsNextInTask g w s t (moves.Fetch u) → u < g.units
fetch_within g s w t u fits next =
    let a : ℕ = next.1 in
    let why = fetch_is (is_queued s a) (fetch_waits g s a) (action_of g a).first_unit a u next.3 in
    let fetch = (and_parts (action_of g a).fetch (same_mark (mark_of s (UnitOf (action_of g a).first_unit)) Waiting) why.0).0 in
    subst (λ n. n < g.units) (sym why.1) ((apart_of g fits).unit_within a (action_of g a).first_unit (inl (fetch, refl))).1

pub fetch_never : (old new : Sight) (t u : ℕ) → Fits old.seen.graph → WorksOn old t → IsRefused (IsMove t) (step_of_move t) (moves.Fetch u) old new → ⊥
fetch_never old new t u fits works =
    never_refused (IsMove t) (step_of_move t) (moves.Fetch u) (steps.Fetch u) old new refl
    (λ book found answer.
    let here = fits_in old book fits found in (
      λ no. no,
      λ unmet. false≢true (sym (unmet (fetch_within book.graph book.state old.worker t u here answer)) ∙ enabled_meets book.graph book.state old.worker u (next_fetch old book t here found works u answer)),
    ))

-- an action that can come is one of the graph
in_range : (p : ℕ → Bool) (first n a : ℕ) → find p (range_with_len first n) ≡ Some a → IsIn first n a
in_range p first zero a is = absurd (cc)
in_range p first (suc n) a is = at (p first) is (in_range p (first + 1) n a)
  where
    at : (b : Bool) → (if b then Some first else find p (range_with_len (first + 1) n)) ≡ Some a → (find p (range_with_len (first + 1) n) ≡ Some a → IsIn (first + 1) n a) → IsIn first (suc n) a
    at true here rest = let same : first ≡ a = cc in (omega (arith, same), omega (arith, same))
    at false later rest = let behind = rest later in (omega (arith, behind.0), omega (arith, behind.1))

action_in : (g : GraphView) (s : StateView) (t a : ℕ) → Fits g → first_to_come g s t ≡ Some a → a < length g.actions
action_in g s t a fits first = (apart_of g fits).action_within t a (in_range (can_come g s) (task_of g t).first_action (task_of g t).actions a first)

items_are : (queued waits : Bool) (n a b : ℕ) → moves.Submit b ≡ (if queued then moves.Park a else if waits then moves.Fetch n else moves.Submit a) → b ≡ a
items_are true waits n a b is = absurd (cc)
items_are false true n a b is = absurd (cc)
items_are false false n a b is = cc

wait_is : (queued waits : Bool) (n a b : ℕ) → moves.Park b ≡ (if queued then moves.Park a else if waits then moves.Fetch n else moves.Submit a) → b ≡ a
wait_is true waits n a b is = cc
wait_is false true n a b is = absurd (cc)
wait_is false false n a b is = absurd (cc)

items_within : (g : GraphView) (s : StateView) (w : WorkerId) (t b : ℕ) → Fits g → IsNextInTask g w s t (moves.Submit b) → b < length g.actions
items_within g s w t b fits next =
    let a : ℕ = next.1 in
    subst (λ n. n < length g.actions) (sym (items_are (is_queued s a) (fetch_waits g s a) (action_of g a).first_unit a b next.3)) (action_in g s t a fits next.2)

wait_within : (g : GraphView) (s : StateView) (w : WorkerId) (t b : ℕ) → Fits g → IsNextInTask g w s t (moves.Park b) → b < length g.actions
wait_within g s w t b fits next =
    let a : ℕ = next.1 in
    subst (λ n. n < length g.actions) (sym (wait_is (is_queued s a) (fetch_waits g s a) (action_of g a).first_unit a b next.3)) (action_in g s t a fits next.2)

-- it is one of the task
pub comes_in_task : (g : GraphView) (s : StateView) (w : WorkerId) (t b : ℕ) → IsNextInTask g w s t (moves.Park b) → IsActionOf g t b
comes_in_task g s w t b next =
    let a : ℕ = next.1 in
    subst (IsActionOf g t) (sym (wait_is (is_queued s a) (fetch_waits g s a) (action_of g a).first_unit a b next.3)) (in_range (can_come g s) (task_of g t).first_action (task_of g t).actions a next.2)

pub submit_never : (old new : Sight) (t a : ℕ) → Fits old.seen.graph → WorksOn old t → list_any is_unit (claimed_shown old) ≡ false → IsRefused (IsMove t) (step_of_move t) (moves.Submit a) old new → ⊥
submit_never old new t a fits works none =
    never_refused (IsMove t) (step_of_move t) (moves.Submit a) (steps.Submit a) old new refl
    (λ book found answer.
    let here = fits_in old book fits found in (
      λ no. no,
      λ disabled. false≢true (sym (disabled (items_within book.graph book.state old.worker t a here answer)) ∙ next_items old book t here found works a none answer),
    ))

pub park_never : (old new : Sight) (t a : ℕ) → Fits old.seen.graph → WorksOn old t → OwnsToPark (action_of old.seen.graph a).retention (lock_with old.seen.graph a) old
    → IsRefused (IsMove t) (step_of_move t) (moves.Park a) old new → ⊥
park_never old new t a fits works own =
    never_refused (IsMove t) (step_of_move t) (moves.Park a) (steps.Park a) old new refl
    (λ book found answer.
    let here = fits_in old book fits found in (
      λ no. no,
      λ disabled. false≢true (sym (disabled (wait_within book.graph book.state old.worker t a here answer)) ∙ next_wait old book t here found works a own answer),
    ))
