use Rattle.std.proofs.Common.{ap, ◌∙◌}
use Rattle.plan_reader.specs.Rows.{releases_early}
use Rattle.plan_reader.proofs.rows.task_releases_early.Goals as goal

pub returns : goal.returns
returns c = c.releases_early.ensures ∙ ap releases_early c.actions_of.ensures
