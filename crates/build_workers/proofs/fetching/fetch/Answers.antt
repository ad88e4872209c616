use Rattle.std.proofs.Common.{◌≡◌, ◌<◌, ◌++◌, ℕ, [], List, Result, Ok, Err, Some, ap, subst, sym, true, ◌∙◌}
use Rattle.std.specs.Prelude.{OnOk}
use Rattle.lock_journal.specs.Names.{LockId, GraphView}
use Rattle.coordination.specs.Shown.{locks_shown, parked_shown}
use Rattle.coordination.specs.declared.rule.Sight.{Sight}
use Rattle.blocking_section.specs.Sections.{HasSetDown, HasTakenUp}
use Rattle.blocking_section.specs.BlockedView.{BlockedView}
use Rattle.build_workers.specs.Points.{IsFetchIn, RunsTask}
use Rattle.build_workers.proofs.lemmas.Results.{if_ok, of_ok, on_ok}
use Rattle.build_workers.proofs.Points.{took_up}
use Rattle.build_workers.proofs.Stepping.{is_of, ran_alone, step_from, step_moved, step_ran, step_then, to_fields, with_pass}
use Rattle.build_workers.proofs.fetching.fetch.Goals as goal

-- it runs the task again, with the locks that it gave back
runs_again : {T E : Type 0} {t : ℕ} {old mid : Sight} (new : Sight) (u : ℕ) (locks : List LockId) (r : Result T E) → RunsTask t old → HasSetDown (Some u) old mid → locks ≡ locks_shown old → OnOk r (HasTakenUp (Some u) mid new)
    → OnOk r (parked_shown mid ≡ locks → locks_shown mid ≡ [] → locks_shown new ≡ locks) → OnOk r (new.seen.graph ≡ old.seen.graph) → OnOk r (RunsTask t new)
runs_again {old = old} new u locks (Ok x) runs down are up again graph =
    took_up u runs down up graph (again (down.parked ∙ (ap (λ (ps : List LockId). ps ++ locks_shown old) runs.parked ∙ sym are)) down.locks ∙ are)
runs_again new u locks (Err e) runs down are up again graph = tt

pub returns-clause-runs : goal.returns-clause-runs
returns-clause-runs g c =
    let left = c.leave_with.ensures in
    let entered = c.enter_for.ensures in
    let blocked = c.in_ok-blocked.blocked in
    let was = c.in_ok-blocked.was in
    let old = c.worker.inside.pass.sight in
    runs_again c.leave_with.new.pass.sight c.args.unit blocked.locks c.leave_with.result (to_fields (RunsTask c.args.task) c.worker.view_is c.requires.runs) (of_ok c.enter_for.result blocked was entered.set_down)
    (if_ok (λ (b : BlockedView). b.locks ≡ locks_shown old) c.enter_for.result blocked was entered.locks) left.shows left.locks (on_ok c.leave_with.result (λ k. k.graph ∙ entered.closed.graph) left.closed)

pub enter_for-requires-clause-at : goal.enter_for-requires-clause-at
enter_for-requires-clause-at g c κs within = (is_of c.worker.view_is c.requires.of).at

pub enter_for-requires-clause-within : goal.enter_for-requires-clause-within
enter_for-requires-clause-within g c κs within = subst (λ (k : GraphView). c.args.unit < k.units) (sym (is_of c.worker.view_is c.requires.of).at.graph) c.requires.within

pub enter_for-requires-clause-fetch : goal.enter_for-requires-clause-fetch
enter_for-requires-clause-fetch g c κs within = subst (λ (k : GraphView). IsFetchIn k c.args.task c.args.unit) (sym (is_of c.worker.view_is c.requires.of).at.graph) c.requires.fetch

pub enter_for-requires-clause-runs : goal.enter_for-requires-clause-runs
enter_for-requires-clause-runs g c κs within = to_fields (RunsTask c.args.task) c.worker.view_is c.requires.runs

pub returns-clause-step : goal.returns-clause-step
returns-clause-step g c =
    let left = c.leave_with.ensures in
    let entered = c.enter_for.ensures in
    let read = c.read_fetch-outcome.ensures in
    let first = step_moved true (is_of c.worker.view_is c.requires.of) (with_pass entered.service) entered.closed in
    step_from c.worker.view_is (step_then first (step_ran (record { unit = c.args.unit; outcome = c.read_fetch-outcome.result }) c.leave_with.result first.of (ran_alone read.ran read.sends) (with_pass left.service) left.closed left.still))
