-- An item that a worker ran, and what it decided behind it.
use Rattle.std.proofs.Common.{◌≡◌, inl, inr, false, List, [], ◌∷◌, Option, Result, Ok, Err, refl, subst}
use Rattle.std.specs.Prelude.{IfOk, OnErr}
use Rattle.lock_journal.specs.Names.{WorkerId, Closed, Kind, BookView}
use Rattle.coordination.specs.Names.{Cause, Making, AskedInVain, HasLooked, CouldNotStep, HasDecided, PassView}
use Rattle.coordination.specs.declared.decisions.Decided.{Decided}
use Rattle.coordination.specs.declared.halts.Halt.{Halt}
use Rattle.coordination.specs.declared.halts.Halt.TheVariants.{NoMemory, Stopped}
use Rattle.coordination.specs.declared.rule.Sight.{Sight}
use Rattle.async_tracker.specs.Closings.{HasClosedThen}
use Rattle.async_tracker.specs.Following.{HasDecidedAfter}
use Rattle.async_tracker.specs.Shows.{ShowsClosed}
use Rattle.async_tracker.specs.declared.closing.CloseHalt.{CloseHalt}
use Rattle.async_tracker.specs.declared.closing.CloseHalt.TheVariants.{NotClosed, Closed as ClosedThen}
use Rattle.build_workers.specs.Helping.{HasClosedBefore, HasRunBefore, MayHaveClosed}
use Rattle.build_workers.specs.Kept.{HasClosed}
use Rattle.build_workers.specs.Site.{SiteView}
use Rattle.build_workers.specs.Steps.{HasRunItem, MovesPass, Steps}
use Rattle.build_workers.specs.WorkerView.{IsOf, WorkerView}
use Rattle.build_workers.proofs.Keeping.{closes_then, finished_closes, in_vain_closes, looked_closes}
use Rattle.build_workers.proofs.Stepping.{moved_at, step_closed, step_failed, step_unclosed}

-- an answer that was given, or want of memory, or a stop, closes nothing
pub vain_closes : {A : Type 0} {waits : WorkerId → BookView → Type 0} {old new : Sight} (r : Result A Halt) → (r ≡ Err NoMemory → HasLooked old new) → ((by : WorkerId) → r ≡ Err (Stopped by) → AskedInVain waits by old new)
    → OnErr r (HasClosed [] old new)
vain_closes (Ok a) looked stopped = tt
vain_closes (Err NoMemory) looked stopped = looked_closes (looked refl)
vain_closes (Err (Stopped by)) looked stopped = in_vain_closes (stopped by refl)

module _ (d : Closed) (old : Sight) where
  -- the item was closed in the hold of the decision, or before it
  pub closed_before : {A X E : Type 0} (answers : WorkerId → BookView → A → Type 0) (waits : WorkerId → BookView → Type 0) (step_of : A → Option X) (kind_of : X → Kind)
      (makes : X → Making) (fails retries : X → Cause) (new : Sight) (r : Result (Decided A) E)
      → IfOk r (λ a. HasClosedThen d old (λ s. HasDecidedAfter answers waits step_of kind_of makes fails retries s new a))
      → IfOk r (λ a. HasClosedBefore d old (λ s. HasDecided answers step_of kind_of makes fails retries s new a))
  closed_before answers waits step_of kind_of makes fails retries new (Ok a) k = record { between = k.between; closed = finished_closes k.closed; shows = k.shows; follows = k.follows.decided }
  closed_before answers waits step_of kind_of makes fails retries new (Err e) k = tt

  pub may_have_closed : {A X : Type 0} {answers : WorkerId → BookView → A → Type 0} {waits : WorkerId → BookView → Type 0} {step_of : A → Option X} {new : Sight} (halt : CloseHalt)
      → (halt ≡ NotClosed → HasLooked old new) → (halt ≡ ClosedThen NoMemory → HasClosedThen d old (λ s. CouldNotStep answers step_of s new))
      → ((by : WorkerId) → halt ≡ ClosedThen (Stopped by) → HasClosedThen d old (λ s. AskedInVain waits by s new)) → MayHaveClosed d old new
  may_have_closed NotClosed looked memory stopped = inl (looked_closes (looked refl))
  may_have_closed (ClosedThen NoMemory) looked memory stopped = let k = memory refl in inr (closes_then (finished_closes k.closed) (looked_closes k.follows.looked))
  may_have_closed (ClosedThen (Stopped by)) looked memory stopped = let k = stopped by refl in inr (closes_then (finished_closes k.closed) (in_vain_closes k.follows))

  -- it was closed in a hold of its own
  pub closed_alone : {A E : Type 0} {mid : Sight} (Follows : A → Sight → Type 0) (r : Result A E) → HasClosed (d ∷ []) old mid → ShowsClosed d.unit old mid → IfOk r (λ a. Follows a mid) → IfOk r (λ a. HasClosedBefore d old (Follows a))
  closed_alone {mid = mid} Follows (Ok a) closed shows follows = record { between = mid; closed = closed; shows = shows; follows = follows }
  closed_alone Follows (Err e) closed shows follows = tt

  pub closed_in_vain : {A E : Type 0} {mid : Sight} (new : Sight) (r : Result A E) → HasClosed (d ∷ []) old mid → OnErr r (HasClosed [] mid new) → OnErr r (MayHaveClosed d old new)
  closed_in_vain new (Ok a) closed still = tt
  closed_in_vain new (Err e) closed still = inr (closes_then closed still)

module _ (s : SiteView) (old : WorkerView) (of : IsOf s old) where
  -- a unit was run, and closed with what it gave
  module _ {mid new : WorkerView} (d : Closed) (ran : HasRunItem s.units old mid d) (moves : MovesPass mid new) where
    since : {ds : List Closed} {last : Sight} → HasClosed ds mid.pass.sight last → HasClosed ds old.pass.sight last
    since {ds} {last} closed = subst (λ (p : PassView). HasClosed ds p.sight last) ran.pass closed

    pub ran_before : {A E : Type 0} (Follows : A → Sight → Type 0) (r : Result A E) → IfOk r (λ x. HasClosedBefore d mid.pass.sight (Follows x)) → IfOk r (λ x. HasRunBefore s old new (ShowsClosed d.unit) (Follows x))
    ran_before Follows (Ok x) k = record {
      between = k.between;
      step = step_closed d of ran (moved_at k.between moves) (since k.closed);
      shows = subst (λ (p : PassView). ShowsClosed d.unit p.sight k.between) ran.pass k.shows;
      follows = k.follows;
    }
    ran_before Follows (Err e) k = tt

    pub broke_off : {A E : Type 0} (r : Result A E) → OnErr r (MayHaveClosed d mid.pass.sight new.pass.sight) → OnErr r (Steps s old new false)
    broke_off (Ok x) closed = tt
    broke_off (Err e) closed = broke closed
      where
        broke : MayHaveClosed d mid.pass.sight new.pass.sight → Steps s old new false
        broke (inl still) = step_unclosed d of ran moves (since still)
        broke (inr closed) = step_failed (step_closed d of ran moves (since closed))
