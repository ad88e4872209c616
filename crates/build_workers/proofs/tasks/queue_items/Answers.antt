use Rattle.std.proofs.Common.{ℕ, ◌≡◌, ◌<◌, false, [], Result, Ok, Err, inl, inr, length, ap, arith, refl, subst, sym, true}
use Rattle.std.specs.Prelude.{◌⊎◌, OnOk}
use Rattle.std.specs.List.{list_any}
use Rattle.lock_journal.specs.Names.{Fits, GraphView, action_of, IsActionOf, lock_with, WorkerId, is_unit}
use Rattle.lock_transforms.proofs.lemmas.Within.{task_fits}
use Rattle.coordination.specs.Names.{Cause, HasLooked, WasStopped, claimed_shown}
use Rattle.coordination.specs.declared.halts.Halt.{Halt}
use Rattle.coordination.specs.declared.rule.Sight.{Sight}
use Rattle.async_tracker.specs.Following.{HasParkedAtOnce}
use Rattle.async_tracker.specs.Queueing.{HasSubmittedThen}
use Rattle.async_tracker.specs.Shows.{IsFree, IsIdleOrParked, ShowsParked}
use Rattle.build_workers.specs.Kept.{HasClosed}
use Rattle.build_workers.specs.Points.{CanHelp, RunsTask}
use Rattle.build_workers.specs.Site.{SiteView}
use Rattle.build_workers.proofs.Keeping.{closes_then, finished_closes, looked_closes, stopped_closes}
use Rattle.build_workers.proofs.Points.{owns_for, works_for}
use Rattle.build_workers.proofs.Stepping.{is_of, of_fields, step_from, step_moved, to_fields, with_pass}
use Rattle.build_workers.proofs.tasks.queue_items.Goals as goal

-- an action of a task of the graph is one of the graph
within_graph : {g : GraphView} {t a : ℕ} → Fits g → t < length g.tasks → IsActionOf g t a → a < length g.actions
within_graph {g} {t} {a} fits low own = let task = task_fits fits t low in omega (arith, task.actions, own.1)

-- queueing an action's items and parking close nothing
queued_closes : {T : Type 0} {a : ℕ} {old new : Sight} {cause : Cause} (r : Result T Halt) → OnOk r (HasSubmittedThen a old (λ between. HasParkedAtOnce a between new))
    → (r ≡ Err Halt.NoMemory → HasLooked old new ⊎ HasSubmittedThen a old (λ between. HasLooked between new))
    → ((by : WorkerId) → r ≡ Err (Halt.Stopped by) → WasStopped cause by old new) → HasClosed [] old new
queued_closes (Ok x) parked looked stopped = closes_then (finished_closes parked.submitted) (finished_closes parked.follows.parked)
queued_closes {a = a} {old} {new} (Err Halt.NoMemory) parked looked stopped = at (looked refl)
  where
    at : HasLooked old new ⊎ HasSubmittedThen a old (λ between. HasLooked between new) → HasClosed [] old new
    at (inl f) = looked_closes f
    at (inr s) = closes_then (finished_closes s.submitted) (looked_closes s.follows)
queued_closes (Err (Halt.Stopped by)) parked looked stopped = stopped_closes (stopped by refl)

pub submit_and_park-requires-clause-in_range : goal.submit_and_park-requires-clause-in_range
submit_and_park-requires-clause-in_range g c =
    let fits = subst (λ (s : SiteView). Fits s.graph) c.site.view_is c.site.invariant.0.fits in
    subst (λ (k : GraphView). c.args.action < length k.actions) (sym (is_of c.worker.view_is c.requires.of).at.graph) (within_graph fits c.requires.task c.requires.action)

pub submit_and_park-requires-clause-works : goal.submit_and_park-requires-clause-works
submit_and_park-requires-clause-works g c =
    let fits = subst (λ (s : SiteView). Fits s.graph) c.site.view_is c.site.invariant.0.fits in
    let graph = sym (is_of c.worker.view_is c.requires.of).at.graph in
    works_for (subst Fits graph fits) (subst (λ (k : GraphView). IsActionOf k c.args.task c.args.action) graph c.requires.action) (to_fields (RunsTask c.args.task) c.worker.view_is c.requires.runs)

pub submit_and_park-requires-clause-lock : goal.submit_and_park-requires-clause-lock
submit_and_park-requires-clause-lock g c =
    let fits = subst (λ (s : SiteView). Fits s.graph) c.site.view_is c.site.invariant.0.fits in
    let graph = sym (is_of c.worker.view_is c.requires.of).at.graph in
    owns_for (action_of c.worker.inside.pass.sight.seen.graph c.args.action).retention (subst Fits graph fits)
    (subst (λ (k : GraphView). IsActionOf k c.args.task c.args.action) graph c.requires.action) (to_fields (RunsTask c.args.task) c.worker.view_is c.requires.runs)

pub returns-clause-within : goal.returns-clause-within
returns-clause-within g c = within_graph (subst (λ (s : SiteView). Fits s.graph) c.site.view_is c.site.invariant.0.fits) c.requires.task c.requires.action

pub returns-clause-step : goal.returns-clause-step
returns-clause-step g c =
    let e = c.submit_and_park.ensures in
    step_from c.worker.view_is (step_moved true (is_of c.worker.view_is c.requires.of) (with_pass e.service) (queued_closes c.submit_and_park.result e.entries e.no_memory e.stopped))

-- what it may do, parked
can_help : {T E : Type 0} {t : ℕ} {old : Sight} (new : Sight) (r : Result T E) → RunsTask t old → OnOk r (list_any is_unit (claimed_shown old) ≡ false → IsFree new) → OnOk r (IsIdleOrParked new) → OnOk r (CanHelp new)
can_help new (Ok x) runs free waits = record { free = free (ap (list_any is_unit) runs.claimed); waits = waits }
can_help new (Err e) runs free waits = tt

pub returns-clause-helps : goal.returns-clause-helps
returns-clause-helps g c =
    let e = c.submit_and_park.ensures in
    can_help c.submit_and_park.new.pass.sight c.submit_and_park.result (to_fields (RunsTask c.args.task) c.worker.view_is c.requires.runs) e.free e.waits

pub returns-clause-shows : goal.returns-clause-shows
returns-clause-shows g c =
    let r = c.submit_and_park.result in
    let a = c.args.action in
    let new = c.submit_and_park.new.pass.sight in
    let graph = c.args.site.now.graph in
    of_fields (λ s. OnOk r (ShowsParked (action_of graph a).retention (lock_with graph a) a s new)) c.worker.view_is
    (subst (λ (k : GraphView). OnOk r (ShowsParked (action_of k a).retention (lock_with k a) a c.worker.inside.pass.sight new)) (is_of c.worker.view_is c.requires.of).at.graph c.submit_and_park.ensures.shows)
