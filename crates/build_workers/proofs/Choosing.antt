-- What an idle worker has after it decided what is next.
use Rattle.std.proofs.Common.{◌≡◌, ◌⊎◌, ℕ, ◌<◌, inl, inr, Bool, true, false, Some, Result, Ok, Err, [], All, length, IfOk, refl, sym, ap, ◌∙◌, subst}
use Rattle.lock_journal.specs.Names.{Fits, GraphView, StateView, WorkerId, IsEnded, BookView, IsFixedList}
use Rattle.worker_choices.specs.Choices.{IsNext}
use Rattle.worker_choices.specs.declared.choices.Choice.TheVariants as choices
use Rattle.coordination.specs.Names.{Finds, IsSoundBook, AskedInVain, HasLooked, WasStopped, CouldNotStep, HoldsNothing, AsTold, WaitsAsTold}
use Rattle.coordination.specs.Names.{TellsOwn}
use Rattle.coordination.specs.declared.decisions.Decided.{Decided}
use Rattle.coordination.specs.declared.decisions.Decided.TheVariants as decided
use Rattle.coordination.specs.declared.halts.Halt.{Halt}
use Rattle.coordination.specs.declared.rule.Sight.{Sight}
use Rattle.async_tracker.specs.Following.{HasDecidedAfter, HasEndedThen}
use Rattle.async_tracker.specs.NextWork.{IsIdleIf, IsNextWorkIf, ShowsNextWork, next_of, step_of_next}
use Rattle.async_tracker.specs.Tasks.{CannotEnd, ShowsEnded}
use Rattle.async_tracker.specs.WorkSteps.{FailsAt, RetriesAt, kind_of_work}
use Rattle.async_tracker.specs.declared.next_work.NextWork.{NextWork}
use Rattle.async_tracker.specs.declared.next_work.NextWork.TheVariants as next
use Rattle.async_tracker.specs.declared.work_steps.WorkStep.{WorkStep}
use Rattle.async_tracker.proofs.lemmas.NextWork.{DecidesWork, answered_in, work_shows}
use Rattle.build_workers.specs.Choices.{HasBegun}
use Rattle.build_workers.specs.Kept.{HasClosed}
use Rattle.build_workers.specs.Points.{HasFinishedWork}
use Rattle.build_workers.proofs.Keeping.{closes_then, decided_closes, finished_closes, in_vain_closes, looked_closes, stopped_closes}
use Rattle.build_workers.proofs.Points.{same_rests, started}

starts_within : (g : GraphView) (w : WorkerId) (s : StateView) (queued : Bool) (t : ℕ) → IsNext g w s queued (choices.Start t) → t < length g.tasks
starts_within g w s queued t next = next.2.is.start.within

all_ended : (g : GraphView) (w : WorkerId) (s : StateView) (queued : Bool) → IsNext g w s queued choices.Finish → All IsEnded s.tasks
all_ended g w s queued next = next.3

-- a step has an answer that has one
no_step : (n : NextWork) (step : WorkStep) → n ≡ next.Finish → step_of_next n ≡ Some step → ⊥
no_step next.Finish step is has = absurd (cc)
no_step next.Beside step is has = absurd (cc)
no_step (next.Claim u) step is has = absurd (cc)
no_step (next.Skip t) step is has = absurd (cc)
no_step (next.Start t) step is has = absurd (cc)

module _ (old new : Sight) where
  -- a worker that finishes saw all tasks ended
  finished : (d : Decided NextWork) → DecidesWork TellsOwn old new d → next_of d ≡ next.Finish → HoldsNothing new → HasFinishedWork new
  finished (decided.Answered n) h is rests =
      let k = h.0 in
      let seen : k.book ≡ new.seen = sym (ap (λ (x : Sight). x.seen) k.sight) in
      let answer = subst (λ (x : NextWork). AsTold TellsOwn IsNextWorkIf old.worker k.book x) is k.answer in record {
        sound = subst IsSoundBook seen k.found.sound;
        ended = subst (λ (b : BookView). All IsEnded b.state.tasks) seen (all_ended k.book.graph old.worker k.book.state answer.0 answer.2);
        rests = rests;
      }
  finished (decided.Entered n true) h is rests = absurd (no_step n h.step is h.is)
  finished (decided.Entered n false) h is rests = absurd (no_step n h.step is h.is)
  finished (decided.Waiting n) h is rests = absurd (no_step n h.step is h.is)

  begun_as : (n : NextWork) → (book : BookView) × Finds old.worker old.seen book × AsTold TellsOwn IsNextWorkIf old.worker book n → ShowsNextWork old new n → HoldsNothing old
      → (n ≡ next.Finish → HoldsNothing new → HasFinishedWork new) → HasBegun new n
  begun_as (next.Claim u) at shows rests ends = (old, rests, shows)
  begun_as next.Beside at shows rests ends = same_rests shows rests
  begun_as (next.Skip t) at shows rests ends = same_rests shows rests
  begun_as (next.Start t) at shows rests ends =
      let book : BookView = at.0 in (
        subst (λ (g : GraphView). t < length g.tasks) (at.1.agrees.graph ∙ sym shows.graph) (starts_within book.graph old.worker book.state at.2.0 t at.2.2),
        started shows rests,
      )
  begun_as next.Finish at shows rests ends = ends refl (same_rests shows rests)

  -- what a worker that had nothing has decided, it has begun
  pub begun : (d : Decided NextWork) → DecidesWork TellsOwn old new d → Fits old.seen.graph → HoldsNothing old → HasBegun new (next_of d)
  begun d done fits rests = begun_as (next_of d) (answered_in TellsOwn old new d done) (work_shows TellsOwn old new d done fits rests) rests (finished d done)

-- a task's end, and what was decided behind it
abbrev pub EndsWork : ℕ → Sight → Sight → Decided NextWork → Type 0
EndsWork t old new d = HasEndedThen t old
    (λ s. HasDecidedAfter (AsTold TellsOwn IsNextWorkIf) (WaitsAsTold TellsOwn IsIdleIf) step_of_next kind_of_work (λ x. IsFixedList (kind_of_work x)) FailsAt RetriesAt s new d)

abbrev EndsUnstepped : ℕ → Sight → Sight → Type 0
EndsUnstepped t old new = HasEndedThen t old (λ s. CouldNotStep (AsTold TellsOwn IsNextWorkIf) step_of_next s new)

abbrev EndsInVain : ℕ → WorkerId → Sight → Sight → Type 0
EndsInVain t by old new = HasEndedThen t old (λ s. AskedInVain (WaitsAsTold TellsOwn IsIdleIf) by s new)

looked_end : (t : ℕ) (old new : Sight) → HasLooked old new ⊎ EndsUnstepped t old new → HasClosed [] old new
looked_end t old new (inl looked) = looked_closes looked
looked_end t old new (inr k) = closes_then (finished_closes k.ended) (looked_closes k.then.looked)

stopped_end : (t : ℕ) (old new : Sight) (by : WorkerId) → WasStopped (CannotEnd t) by old new ⊎ EndsInVain t by old new → HasClosed [] old new
stopped_end t old new by (inl stopped) = stopped_closes stopped
stopped_end t old new by (inr k) = closes_then (finished_closes k.ended) (in_vain_closes k.then)

-- they close nothing
pub end_closes : (t : ℕ) (old new : Sight) (r : Result (Decided NextWork) Halt) → IfOk r (EndsWork t old new) → (r ≡ Err Halt.NoMemory → HasLooked old new ⊎ EndsUnstepped t old new)
    → ((by : WorkerId) → r ≡ Err (Halt.Stopped by) → WasStopped (CannotEnd t) by old new ⊎ EndsInVain t by old new) → HasClosed [] old new
end_closes t old new (Ok d) k looked stopped = closes_then (finished_closes k.ended) (decided_closes (AsTold TellsOwn IsNextWorkIf) step_of_next d k.then.decided)
end_closes t old new (Err Halt.NoMemory) k looked stopped = looked_end t old new (looked refl)
end_closes t old new (Err (Halt.Stopped by)) k looked stopped = stopped_end t old new by (stopped by refl)

pub begun_after : (t : ℕ) (old new : Sight) (d : Decided NextWork) → EndsWork t old new d → Fits old.seen.graph → ((s : Sight) → ShowsEnded t old s → HoldsNothing s) → HasBegun new (next_of d)
begun_after t old new d k fits alone = begun k.between new d k.then.decided (subst Fits (sym k.shows.graph) fits) (alone k.between k.shows)
