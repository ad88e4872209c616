use Rattle.std.proofs.Common.{◌<◌, length, subst, sym, true}
use Rattle.lock_journal.specs.Names.{Fits, GraphView}
use Rattle.build_workers.specs.Choices.{HasBegun}
use Rattle.build_workers.specs.Points.{IsInTask}
use Rattle.build_workers.specs.Site.{SiteView}
use Rattle.build_workers.proofs.Choosing.{EndsWork, begun_after, end_closes}
use Rattle.build_workers.proofs.Points.{ended, may_end}
use Rattle.build_workers.proofs.Stepping.{is_of, step_from, step_moved, to_fields, with_pass}
use Rattle.build_workers.proofs.lemmas.Results.{if_ok}
use Rattle.build_workers.proofs.tasks.end.Goals as goal

pub end_then-requires-clause-in_range : goal.end_then-requires-clause-in_range
end_then-requires-clause-in_range g c = subst (λ (k : GraphView). c.args.task < length k.tasks) (sym (is_of c.worker.view_is c.requires.of).at.graph) c.requires.task

pub end_then-requires-clause-may : goal.end_then-requires-clause-may
end_then-requires-clause-may g c = may_end (to_fields (IsInTask c.args.task) c.worker.view_is c.requires.in_task)

pub returns-in_err-decided-clause-step : goal.returns-in_err-decided-clause-step
returns-in_err-decided-clause-step g c =
    let e = c.end_then.ensures in
    step_from c.worker.view_is (step_moved true (is_of c.worker.view_is c.requires.of) (with_pass e.service)
    (end_closes c.args.task c.worker.inside.pass.sight c.end_then.new.pass.sight c.end_then.result e.decided e.no_memory e.stopped))

pub returns-clause-step : goal.returns-clause-step
returns-clause-step g c =
    let e = c.end_then.ensures in
    step_from c.worker.view_is (step_moved true (is_of c.worker.view_is c.requires.of) (with_pass e.service)
    (end_closes c.args.task c.worker.inside.pass.sight c.end_then.new.pass.sight c.end_then.result e.decided e.no_memory e.stopped))

pub returns-clause-begun : goal.returns-clause-begun
returns-clause-begun g c =
    let old = c.worker.inside.pass.sight in
    let new = c.end_then.new.pass.sight in
    let d = c.in_ok-decided.decided in
    let site : Fits c.args.site.now.graph = subst (λ (s : SiteView). Fits s.graph) c.site.view_is c.site.invariant.0.fits in
    let fits : Fits old.seen.graph = subst Fits (sym (is_of c.worker.view_is c.requires.of).at.graph) site in
    subst (HasBegun new) (sym c.next_work_of.ensures)
    (begun_after c.args.task old new d (if_ok (EndsWork c.args.task old new) c.end_then.result d c.in_ok-decided.was c.end_then.ensures.decided) fits
    (λ s shows. ended shows (to_fields (IsInTask c.args.task) c.worker.view_is c.requires.in_task)))
