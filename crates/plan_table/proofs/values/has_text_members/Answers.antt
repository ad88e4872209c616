use Rattle.std.proofs.Common.{◌∙◌, sym}
use Rattle.plan_table.specs.Values.{is_text}
use Rattle.plan_table.proofs.lemmas.Lists.{all_of_elements}
use Rattle.plan_table.proofs.values.has_text_members.Goals as goal

pub returns : goal.returns
returns c = c.are_texts.ensures ∙ sym (all_of_elements is_text _ _ c.members.ensures)
