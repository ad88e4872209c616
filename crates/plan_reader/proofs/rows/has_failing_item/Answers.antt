use Rattle.std.proofs.Common.{sym, ◌∙◌}
use Rattle.std.specs.List.{list_any}
use Rattle.plan_table.specs.Keys.{items_of}
use Rattle.plan_table.proofs.lemmas.Lists.{any_of_elements}
use Rattle.plan_reader.specs.Rows.{item_fails}
use Rattle.plan_reader.proofs.rows.has_failing_item.Goals as goal

pub returns : goal.returns
returns c =
    c.any_action_fails.ensures
    ∙ sym (any_of_elements (λ action. list_any (item_fails c.args.row c.args.names.now) (items_of action)) _ _ c.actions_of.ensures)
