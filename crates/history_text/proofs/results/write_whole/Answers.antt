use Rattle.std.proofs.Common.{◌∙◌, ap, length}
use Rattle.lock_journal.specs.Closings.{outcome_in}
use Rattle.file_access.proofs.lemmas.Telling.{adds_as, adds_then}
use Rattle.history_text.specs.Results.{task_marks, tasks_text, summary_of, below}
use Rattle.history_text.proofs.results.write_whole.Goals as goal

pub returns : goal.returns
returns g c =
    let plan = c.args.plan.now in
    let marks = task_marks c.args.book.now.state in
    let outcomes = outcome_in c.args.book.now.history in
    let tasks = ap (tasks_text marks outcomes 0 0) c.tasks.ensures.value in
    let summary = ap (λ n. summary_of (below n marks) (below c.args.book.now.graph.units outcomes)) c.requires.tasks ∙ ap (λ n. summary_of (below (length plan.tasks) marks) (below n outcomes)) c.requires.units in
    adds_then (adds_as tasks c.write_tasks.ensures) (adds_as summary c.write_summary.ensures)
