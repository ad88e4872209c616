-- A task's end, and what is decided behind it.
use Rattle.std.proofs.Common.{◌≡◌, ◌⊎◌, ℕ, Bool, List, Option, Result, Ok, Err, inl, inr, refl, ◌∙◌, subst}
use Rattle.std.specs.Prelude.{IfOk, OnErr}
use Rattle.lock_journal.specs.Names.{LockId, WorkerId, MarkId, BookView, IsFixedList, Kind}
use Rattle.lock_transforms.specs.declared.entries.Kind.TheVariants as kinds
use Rattle.coordination.specs.Names.{Cause, Making, AskedInVain, HasFinished, CouldNotStep, HadStep, HasDecided, HasDecidedBehind, HasFollowed, Shows}
use Rattle.coordination.specs.Names.{ShowsTheSame}
use Rattle.coordination.specs.declared.decisions.Decided.{Decided}
use Rattle.coordination.specs.declared.decisions.Followed.{Followed}
use Rattle.coordination.specs.declared.decisions.Followed.TheVariants as followed
use Rattle.coordination.specs.declared.halts.Halt.{Halt}
use Rattle.coordination.specs.declared.rule.Sight.{Sight}
use Rattle.coordination.proofs.lemmas.Shown.{looked_shows}
use Rattle.async_tracker.specs.Following.{HasDecidedAfter, HasEndedThen}
use Rattle.async_tracker.specs.Tasks.{ShowsEnded}
use Rattle.async_tracker.proofs.TaskSteps.{ended_shows}
use Rattle.async_tracker.proofs.lemmas.After.{if_ok, in_vain_shows}

-- what a pass shows, it shows as long as it shows the same
still_shows : {own : List LockId} {leased : Bool} {marks : List MarkId} {put_by : List LockId} {a b c : Sight} → Shows own leased marks put_by a b → ShowsTheSame b c → Shows own leased marks put_by a c
still_shows shows same = record {
  worker = same.worker ∙ shows.worker;
  graph = same.graph ∙ shows.graph;
  locks = same.locks ∙ shows.locks;
  lease = same.lease ∙ shows.lease;
  claimed = same.claimed ∙ shows.claimed;
  parked = same.parked ∙ shows.parked;
  blocked = same.blocked ∙ shows.blocked;
}

pub ended_then : {t : ℕ} {old between : Sight} {after : Sight → Type 0} → HasFinished (kinds.End t) (IsFixedList (kinds.End t)) old between → after between → HasEndedThen t old after
ended_then {t} {old} {between} {after} ended then = record { between = between; ended = ended; shows = ended_shows ended; then = then }

module _ {A X : Type 0} (answers : WorkerId → BookView → A → Type 0) (waits : WorkerId → BookView → Type 0) (step_of : A → Option X) (kind_of : X → Kind)
    (makes : X → Making) (fails retries : X → Cause) (t : ℕ) (old : Sight) where
  -- what a task's end with a decision behind it left
  abbrev pub EndsAnd : Sight → Followed A → Type 0
  EndsAnd new f = HasFollowed answers waits step_of kind_of makes fails retries (kinds.End t) (IsFixedList (kinds.End t)) (λ g w s. ⊥) old new f

  abbrev pub EndsThen : Sight → Decided A → Type 0
  EndsThen new d = HasEndedThen t old (λ s. HasDecidedAfter answers waits step_of kind_of makes fails retries s new d)

  abbrev pub Ends : Sight → Type 0
  Ends new = HasFinished (kinds.End t) (IsFixedList (kinds.End t)) old new

  -- it was decided on the book that the end left
  pub decided_behind : (new : Sight) (r : Result (Followed A) Halt) (f : Followed A) (d : Decided A) → r ≡ Ok f → f ≡ followed.Decided d → IfOk r (EndsAnd new) → EndsThen new d
  decided_behind new r f d is at p =
      let k : HasDecidedBehind answers step_of kind_of makes fails retries (kinds.End t) (IsFixedList (kinds.End t)) old new d = subst (EndsAnd new) at (if_ok (EndsAnd new) r f is p) in
      ended_then k.finished (record { decided = k.decided; at_once = inl k.at_once })

  pub if_undecided : (new : Sight) (r : Result (Followed A) Halt) (f : Followed A) → r ≡ Ok f → f ≡ followed.Undecided → IfOk r (EndsAnd new) → Ends new × waits new.worker new.seen
  if_undecided new r f is at p = subst (EndsAnd new) at (if_ok (EndsAnd new) r f is p)

  pub if_no_memory : (new : Sight) (r : Result (Followed A) Halt) (f : Followed A) → r ≡ Ok f → f ≡ followed.NoMemory → IfOk r (EndsAnd new) → Ends new × HadStep answers step_of new.worker new.seen
  if_no_memory new r f is at p = subst (EndsAnd new) at (if_ok (EndsAnd new) r f is p)

  -- it was decided later, since there was no answer
  pub decided_later : (mid new : Sight) (r : Result (Decided A) Halt) → Ends mid × waits mid.worker mid.seen → IfOk r (HasDecided answers step_of kind_of makes fails retries mid new)
      → IfOk r (EndsThen new)
  decided_later mid new (Ok d) ended decided = ended_then ended.0 (record { decided = decided; at_once = inr ended.1 })
  decided_later mid new (Err e) ended decided = tt

  -- or not even later
  pub kept_later : (mid new : Sight) (r : Result (Decided A) Halt) → Ends mid → (r ≡ Err Halt.NoMemory → CouldNotStep answers step_of mid new)
      → ((by : WorkerId) → r ≡ Err (Halt.Stopped by) → AskedInVain waits by mid new) → OnErr r (ShowsTheSame old new ⊎ ShowsEnded t old new)
  kept_later mid new (Ok d) ended no_memory stopped = tt
  kept_later mid new (Err Halt.NoMemory) ended no_memory stopped = inr (still_shows (ended_shows ended) (looked_shows (no_memory refl).looked))
  kept_later mid new (Err (Halt.Stopped by)) ended no_memory stopped = inr (still_shows (ended_shows ended) (in_vain_shows (stopped by refl)))
