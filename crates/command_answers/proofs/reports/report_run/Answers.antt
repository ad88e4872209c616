use Rattle.std.proofs.Common.{List, ℕ, Bool, refl, subst}
use Rattle.lock_journal.specs.Names.{Fits, BookView}
use Rattle.build_workers.specs.RunDesks.{known_by}
use Rattle.command_answers.specs.Answered.{have_all_passed, options_of, run_text}
use Rattle.command_answers.specs.Reported.{IsReported}
use Rattle.command_answers.proofs.lemmas.Reports.{tasks_in_graph, same_pass, same_text}
use Rattle.command_answers.proofs.reports.report_run.Goals as goal

pub report-requires-clause-tasks : goal.report-requires-clause-tasks
report-requires-clause-tasks g c = tasks_in_graph c.args.plan.now (options_of c.args.asked.now) c.requires.run.0 c.requires.run.1 c.args.end.book.value c.requires.run.2

pub returns-clause-status : goal.returns-clause-status
returns-clause-status g c = λ before after run.
    let asked = c.args.asked.now in
    let known = known_by asked.threads before in
    let plan = c.args.plan.now in
    let b = c.args.end.book.value in
    let events = c.report.result.events.items in
    let watch = c.report.result.watch.items in
    let old = g.O.Sink.seen c.args.out.now in
    let new = g.O.Sink.seen c.report.new.out in
    let status = c.report.result.status in
    let laws = c.results_go_by_number.ensures in
    subst (λ (passed : Bool). IsReported passed old new (run_text asked plan known b events watch) status) (same_pass plan (options_of asked) before after b run known refl)
    (subst (λ (text : List ℕ). IsReported (have_all_passed b) old new text status)
    (same_text plan (options_of asked) before after b run known refl asked events watch c.outcomes_go_by_number.ensures laws.results laws.summary (subst (λ (k : BookView). Fits k.graph) c.deref.ensures c.graph.ensures.fits))
    c.report.ensures.status)
