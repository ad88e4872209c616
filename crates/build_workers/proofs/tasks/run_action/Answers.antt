use Rattle.std.proofs.Common.{◌≡◌, ℕ, ap, subst, sym, ◌∙◌}
use Rattle.lock_journal.specs.Names.{Fits, GraphView, action_of, task_of, IsActionOf, lock_with}
use Rattle.coordination.specs.declared.rule.Sight.{Sight}
use Rattle.async_tracker.specs.ParkedView.{ParkedView}
use Rattle.async_tracker.specs.Shows.{ShowsParked, ShowsResumed}
use Rattle.build_workers.specs.Points.{IsInTask, RunsTask}
use Rattle.build_workers.proofs.lemmas.Results.{if_ok, of_ok}
use Rattle.build_workers.proofs.Points.{ok_is, own_task, resumed, with_lease}
use Rattle.build_workers.proofs.Stepping.{step_err, step_ok, step_then}
use Rattle.build_workers.proofs.tasks.run_action.Goals as goal

-- the worker after its fetch, parked, and after it resumed
came_back : {old mid new : Sight} (g : GraphView) (t a b : ℕ) → Fits g → IsActionOf g t a → old.seen.graph ≡ g → b ≡ a → RunsTask t old → ShowsParked (action_of g a).retention (lock_with g a) a old mid → ShowsResumed (action_of g b).retention (lock_with g b) b mid new → IsInTask t new
came_back {old} {mid} {new} g t a b fits own graph is runs parked went_on =
    resumed a (action_of g a).retention (lock_with g a) (ap (λ n. (task_of g n).lock) (own_task fits own) ∙ ap (λ (k : GraphView). (task_of k t).lock) (sym graph)) runs parked
    (subst (λ n. ShowsResumed (action_of g n).retention (lock_with g n) n mid new) is went_on)

pub returns-then-not-failed-clause-in_task : goal.returns-then-not-failed-clause-in_task
returns-then-not-failed-clause-in_task g c =
    let q = c.queue_items.ensures in
    came_back c.args.site.now.graph c.args.task c.args.action c.in_ok-parked.parked.action q.fits c.requires.action c.fetch_first.ensures.step.of.at.graph
    (if_ok (λ (p : ParkedView). p.action ≡ c.args.action) c.queue_items.result c.in_ok-parked.parked c.in_ok-parked.was q.action)
    (of_ok c.fetch_first.result c.in_ok-fetch_first.field-0 c.in_ok-fetch_first.was c.fetch_first.ensures.runs)
    (of_ok c.queue_items.result c.in_ok-parked.parked c.in_ok-parked.was q.shows)
    (of_ok c.wait_for_items.result c.in_ok-failed.failed c.in_ok-failed.was c.wait_for_items.ensures.shows)

pub returns-then-not-failed-clause-goes_on : goal.returns-then-not-failed-clause-goes_on
returns-then-not-failed-clause-goes_on g c = λ is. with_lease (returns-then-not-failed-clause-in_task g c) (sym c.has_lease.ensures ∙ ok_is is)

pub returns-else-not-failed-clause-in_task : goal.returns-else-not-failed-clause-in_task
returns-else-not-failed-clause-in_task g c =
    let q = c.queue_items.ensures in
    came_back c.args.site.now.graph c.args.task c.args.action c.in_ok-parked.parked.action q.fits c.requires.action c.fetch_first.ensures.step.of.at.graph
    (if_ok (λ (p : ParkedView). p.action ≡ c.args.action) c.queue_items.result c.in_ok-parked.parked c.in_ok-parked.was q.action)
    (of_ok c.fetch_first.result c.in_ok-fetch_first.field-0 c.in_ok-fetch_first.was c.fetch_first.ensures.runs)
    (of_ok c.queue_items.result c.in_ok-parked.parked c.in_ok-parked.was q.shows)
    (of_ok c.wait_for_items.result c.in_ok-failed.failed c.in_ok-failed.was c.wait_for_items.ensures.shows)

pub returns-then-not-failed-clause-step : goal.returns-then-not-failed-clause-step
returns-then-not-failed-clause-step g c =
    let fetched = step_ok c.fetch_first.result c.in_ok-fetch_first.field-0 c.in_ok-fetch_first.was c.fetch_first.ensures.step in
    let helped = step_ok c.wait_for_items.result c.in_ok-failed.failed c.in_ok-failed.was c.wait_for_items.ensures.step in
    step_then (step_then fetched c.queue_items.ensures.step) helped

pub returns-else-not-failed-clause-step : goal.returns-else-not-failed-clause-step
returns-else-not-failed-clause-step g c =
    let fetched = step_ok c.fetch_first.result c.in_ok-fetch_first.field-0 c.in_ok-fetch_first.was c.fetch_first.ensures.step in
    let helped = step_ok c.wait_for_items.result c.in_ok-failed.failed c.in_ok-failed.was c.wait_for_items.ensures.step in
    step_then (step_then fetched c.queue_items.ensures.step) helped

pub returns-in_err-parked-clause-step : goal.returns-in_err-parked-clause-step
returns-in_err-parked-clause-step g c =
    let fetched = step_ok c.fetch_first.result c.in_ok-fetch_first.field-0 c.in_ok-fetch_first.was c.fetch_first.ensures.step in
    step_err c.from_residual-in_err-parked.result c.from_residual-in_err-parked.ensures.0 (step_then fetched c.queue_items.ensures.step)

pub returns-in_err-failed-clause-step : goal.returns-in_err-failed-clause-step
returns-in_err-failed-clause-step g c =
    let fetched = step_ok c.fetch_first.result c.in_ok-fetch_first.field-0 c.in_ok-fetch_first.was c.fetch_first.ensures.step in
    step_err c.from_residual-in_err-failed.result c.from_residual-in_err-failed.ensures.0 (step_then (step_then fetched c.queue_items.ensures.step) c.wait_for_items.ensures.step)
