use Rattle.std.proofs.Common.{◌∙◌, sym}
use Rattle.plan_document.specs.View.{view}
use Rattle.plan_table.specs.Tables.{fails}
use Rattle.plan_table.proofs.lemmas.Lists.{any_of_rules}
use Rattle.plan_table.proofs.tables.any_fails_of.Goals as goal

pub returns : goal.returns
returns c = c.any_fails.ensures ∙ sym (any_of_rules (fails c.args.test (view c.args.table.now)) _ _ c.rules_of.ensures)
