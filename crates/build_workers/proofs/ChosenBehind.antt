-- What a worker has decided behind an item.
use Rattle.std.proofs.Common.{◌≡◌, ℕ, ◌<◌, Bool, true, Result, Ok, Err, IfOk, length, sym, ap, subst}
use Rattle.lock_journal.specs.Names.{Fits, GraphView, action_of, lock_with, Holding}
use Rattle.coordination.specs.Names.{AsTold, TellsOwn, ShowsTheSame}
use Rattle.coordination.specs.declared.decisions.Decided.{Decided}
use Rattle.coordination.specs.declared.halts.Halt.{Halt}
use Rattle.coordination.specs.declared.rule.Sight.{Sight}
use Rattle.async_tracker.specs.NextWork.{IsNextParkedWorkIf, IsNextWorkIf, ShowsParkedWork, next_of, parked_of, step_of_next, step_of_parked}
use Rattle.async_tracker.specs.ParkedView.{ParkedView}
use Rattle.async_tracker.specs.Shows.{ShowsClosed, ShowsResumed}
use Rattle.async_tracker.specs.declared.next_work.NextWork.{NextWork}
use Rattle.async_tracker.specs.declared.next_work.NextWork.TheVariants as next
use Rattle.async_tracker.specs.declared.next_work.ParkedWork.{ParkedWork}
use Rattle.async_tracker.specs.declared.next_work.ParkedWork.TheVariants as parked
use Rattle.async_tracker.proofs.lemmas.NextWork.{DecidesParked, DecidesWork, parked_work_shows}
use Rattle.async_tracker.proofs.lemmas.Turns.{claimed_from, parked_still, resumed_from, same_again, shows_then}
use Rattle.build_workers.specs.Choices.{HasBegun, HasClaimedParked}
use Rattle.build_workers.specs.Helping.{HasRunBefore}
use Rattle.build_workers.specs.Site.{SiteView}
use Rattle.build_workers.specs.Steps.{Steps}
use Rattle.build_workers.specs.WorkerView.{WorkerView}
use Rattle.build_workers.proofs.Choosing.{begun}
use Rattle.build_workers.proofs.Keeping.{decided_closes}
use Rattle.build_workers.proofs.Points.{same_helps, same_rests}
use Rattle.build_workers.proofs.Stepping.{moved_on, step_moved, step_then}
use Rattle.build_workers.proofs.lemmas.Results.{if_ok}

-- what was decided, told from before a part that changed nothing that the pass shows
pub work_from : (a : ℕ) (old mid new : Sight) (n : ParkedWork) → ShowsTheSame old mid → ShowsParkedWork a mid new n → ShowsParkedWork a old new n
work_from a old mid new (parked.Resume failed) same resumed =
    subst (λ (k : GraphView). ShowsResumed (action_of k a).retention (lock_with k a) a old new) same.graph (resumed_from (action_of mid.seen.graph a).retention (lock_with mid.seen.graph a) a same resumed)
work_from a old mid new (parked.Claim u) same claimed = record { item = claimed.item; shows = claimed_from u same claimed.shows }
work_from a old mid new parked.Beside same shows = shows_then same shows

pub decided_from : (a : ℕ) (old mid new : Sight) (r : Result ParkedWork Halt) → ShowsTheSame old mid → IfOk r (ShowsParkedWork a mid new) → IfOk r (ShowsParkedWork a old new)
decided_from a old mid new (Ok n) same shows = work_from a old mid new n same shows
decided_from a old mid new (Err e) same shows = tt

-- what a pass shows, by what was decided
pub shown_as : (a : ℕ) (old new : Sight) (r : Result ParkedWork Halt) (x n : ParkedWork) → r ≡ Ok x → x ≡ n → IfOk r (ShowsParkedWork a old new) → ShowsParkedWork a old new n
shown_as a old new r x n is same shows = subst (ShowsParkedWork a old new) same (if_ok (ShowsParkedWork a old new) r x is shows)

-- where a worker that is parked resumes, with the graph of the run
pub resumed_in : (g : GraphView) (a : ℕ) (old new : Sight) (failed : Bool) → ShowsParkedWork a old new (parked.Resume failed) → old.seen.graph ≡ g → ShowsResumed (action_of g a).retention (lock_with g a) a old new
resumed_in g a old new failed shows graph = subst (λ (k : GraphView). ShowsResumed (action_of k a).retention (lock_with k a) a old new) graph shows

module _ {s : SiteView} {old new : WorkerView} (u : ℕ) (fits : Fits s.graph) where
  -- an idle worker, which had nothing before its claim
  pub begun_behind : (d : Decided NextWork) → HasRunBefore s old new (ShowsClosed u) (λ x. DecidesWork TellsOwn x new.pass.sight d) → HasBegun old.pass.sight (next.Claim u) → Steps s old new true × HasBegun new.pass.sight (next_of d)
  begun_behind d k claimed =
      let idle : Sight = claimed.0 in
      let none = ap (λ (h : Holding). h.lease) claimed.1.holding in
      let same : ShowsTheSame idle k.between = same_again u idle old.pass.sight k.between none claimed.2.shows k.shows in (
        step_then k.step (step_moved true k.step.of (moved_on new k.between) (decided_closes (AsTold TellsOwn IsNextWorkIf) step_of_next d k.follows)),
        begun k.between new.pass.sight d k.follows (subst Fits (sym k.step.of.at.graph) fits) (same_rests same claimed.1),
      )

  -- a parked worker, told from before its claim
  pub decided_behind : (p : ParkedView) (base : Sight) (d : Decided ParkedWork) → HasRunBefore s old new (ShowsClosed u) (λ x. DecidesParked TellsOwn p.action x new.pass.sight d) → p.action < length s.graph.actions
      → HasClaimedParked p u base old.pass.sight → ShowsParkedWork p.action base new.pass.sight (parked_of d)
  decided_behind p base d k low was =
      let graph = sym k.step.of.at.graph in
      let same : ShowsTheSame base k.between = same_again u base old.pass.sight k.between was.1.free.lease was.2.shows k.shows in
      let helps = same_helps same was.1 in
      work_from p.action base k.between new.pass.sight (parked_of d) same
      (parked_work_shows TellsOwn p k.between new.pass.sight d k.follows (subst Fits graph fits) (subst (λ (g : GraphView). p.action < length g.actions) graph low) (parked_still p same was.0) helps.free helps.waits)

  pub step_behind : (a : ℕ) (d : Decided ParkedWork) → HasRunBefore s old new (ShowsClosed u) (λ x. DecidesParked TellsOwn a x new.pass.sight d) → Steps s old new true
  step_behind a d k = step_then k.step (step_moved true k.step.of (moved_on new k.between) (decided_closes (AsTold TellsOwn (IsNextParkedWorkIf a)) (step_of_parked a) d k.follows))
