use Rattle.std.proofs.Common.{ap, ◌∙◌}
use Rattle.std.proofs.lemmas.Result.{IfOk-weaker}
use Rattle.plan_document.specs.View.{view}
use Rattle.plan_table.specs.Keys.{tasks_of}
use Rattle.plan_reader.specs.Names.{known_rows}
use Rattle.plan_reader.proofs.names.dependencies_of.Goals as goal

pub returns : goal.returns
returns c =
    let by_data = ap (known_rows c.args.names.now) c.tasks_of.ensures ∙ ap (λ names. known_rows names (tasks_of (view c.args.document.now))) c.requires in
    IfOk-weaker c.rows_of.result _ _ (λ rows are. are ∙ by_data) c.rows_of.ensures
