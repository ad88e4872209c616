use Rattle.std.proofs.Common.{◌∙◌, sym}
use Rattle.plan_table.specs.declared.rules.TableKind.TheVariants.{Item}
use Rattle.plan_table.specs.Look.{is_found}
use Rattle.plan_table.proofs.lemmas.Lists.{any_of_elements}
use Rattle.plan_table.proofs.table_refusals.is_in_items_of.Goals as goal

pub returns : goal.returns
returns c = c.is_in_items.ensures ∙ sym (any_of_elements (is_found c.args.sought Item) _ _ c.items_of.ensures)
