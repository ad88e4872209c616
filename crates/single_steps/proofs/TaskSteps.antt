-- Where a task can't be skipped, and what a skip leaves.
use Rattle.std.proofs.Common.{◌≡◌, ℕ, ◌<◌, ◌≤◌, Result, Ok, Err, arith, Bool, true, false, ◌&&◌, length, refl, sym, ap, ◌∙◌, subst}
use Rattle.lock_journal.specs.Names.{can_all, same_mark, GraphView, WorkerId, Waiting, IsFixedList, condition, is_enabled, list_of, Skip, BookView}
use Rattle.coordination.specs.Names.{Finds, Cause, HasFailed, HasFinished, HasLooked, WasStopped, HoldsNothing, ShowsTheSame, AsTold, Telling}
use Rattle.coordination.specs.Decisions.{HasFailedIn}
use Rattle.coordination.specs.declared.halts.Halt.{Halt}
use Rattle.coordination.specs.declared.rule.Sight.{Sight}
use Rattle.coordination.proofs.lemmas.Shown.{failed_shows, looked_shows, stopped_shows}
use Rattle.async_tracker.specs.NextWork.{IsNextWorkIf, step_of_next}
use Rattle.async_tracker.specs.WorkSteps.{FailsAt, kind_of_work}
use Rattle.async_tracker.specs.declared.next_work.NextWork.TheVariants as next
use Rattle.async_tracker.specs.declared.work_steps.WorkStep.{WorkStep}
use Rattle.async_tracker.specs.declared.work_steps.WorkStep.TheVariants as steps
use Rattle.async_tracker.proofs.TaskSteps.{idle_found, skipped_shows}
use Rattle.async_tracker.proofs.lemmas.NextWork.{same_step}
use Rattle.single_steps.specs.Tasks.{CannotSkip}

-- a start and a skip of a task that is there wait for nothing
pub is_there : (old : Sight) (book : BookView) (t : ℕ) → Finds old.worker old.seen book → t < length old.seen.graph.tasks → length book.graph.tasks ≤ t → ⊥
is_there old book t found within past =
    let here : t < length book.graph.tasks = subst (λ (g : GraphView). t < length g.tasks) (sym found.agrees.graph) within in
    omega (arith, here, past)

-- a skip of an idle worker fails only where the task can't be skipped
pub cannot_skip : (old : Sight) (book : BookView) (t : ℕ) → Finds old.worker old.seen book → HoldsNothing old → is_enabled book.graph book.state old.worker (Skip t) ≡ false → CannotSkip t book.graph old.worker book.state
cannot_skip old book t found rests fails = λ skip.
    let w : WorkerId = old.worker in
    let idle = idle_found old book found rests in
    let holds : condition book.graph book.state w (Skip t) ≡ true = λ i. same_mark (skip.waits i) Waiting && skip.fallen i && idle i in
    sym (ap (λ b. b && can_all book.state w (list_of book.graph book.state w (Skip t))) holds) ∙ fails

-- nor does a decided one fail elsewhere
pub skip_fails : (tells : Telling) (old new : Sight) (t : ℕ) → HoldsNothing old → (f : HasFailedIn (AsTold tells IsNextWorkIf) step_of_next kind_of_work FailsAt old new (next.Skip t))
    → CannotSkip t f.failed.before.graph old.worker f.failed.before.state
skip_fails tells old new t rests f =
    let book : BookView = f.failed.before in
    cannot_skip old book t f.failed.found rests (subst (λ (x : WorkStep). FailsAt x book.graph old.worker book.state) (same_step f.step (steps.Skip t) (sym f.is)) f.failed.failed.cause)

-- whatever a skip answers
pub skip_shows : {t : ℕ} {fails retries : Cause} {old new : Sight} (r : Result Bool Halt) → (r ≡ Ok true → HasFinished (Skip t) (IsFixedList (Skip t)) old new) → (r ≡ Ok false → HasFailed (Skip t) fails old new)
    → (r ≡ Err Halt.NoMemory → HasLooked old new) → ((by : WorkerId) → r ≡ Err (Halt.Stopped by) → WasStopped retries by old new) → ShowsTheSame old new
skip_shows (Ok true) finished failed looked stopped = skipped_shows (finished refl)
skip_shows (Ok false) finished failed looked stopped = failed_shows (failed refl)
skip_shows (Err Halt.NoMemory) finished failed looked stopped = looked_shows (looked refl)
skip_shows (Err (Halt.Stopped by)) finished failed looked stopped = stopped_shows (stopped by refl)
