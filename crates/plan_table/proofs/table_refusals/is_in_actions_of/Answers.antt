use Rattle.std.proofs.Common.{◌∙◌, sym}
use Rattle.plan_table.specs.Look.{is_found}
use Rattle.plan_table.specs.Search.{in_action}
use Rattle.plan_table.proofs.lemmas.Lists.{any_of_elements}
use Rattle.plan_table.proofs.table_refusals.is_in_actions_of.Goals as goal

pub returns : goal.returns
returns c = c.is_in_actions.ensures ∙ sym (any_of_elements (in_action (is_found c.args.sought)) _ _ c.actions_of.ensures)
