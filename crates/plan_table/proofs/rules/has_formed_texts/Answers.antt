use Rattle.std.proofs.Common.{◌∙◌, sym}
use Rattle.plan_table.specs.Rules.{is_formed}
use Rattle.plan_table.proofs.lemmas.Lists.{all_of_texts}
use Rattle.plan_table.proofs.rules.has_formed_texts.Goals as goal

pub returns : goal.returns
returns c = c.are_formed.ensures ∙ sym (all_of_texts (is_formed c.args.form) _ _ c.members.ensures)
