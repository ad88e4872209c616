use Rattle.std.proofs.Common.{sym, ◌∙◌}
use Rattle.plan_table.proofs.lemmas.Lists.{any_of_elements}
use Rattle.plan_reader.specs.Rows.{item_fails}
use Rattle.plan_reader.proofs.rows.action_fails.Goals as goal

pub returns : goal.returns
returns c = c.any_item_fails.ensures ∙ sym (any_of_elements (item_fails c.args.row c.args.names.now) _ _ c.items_of.ensures)
