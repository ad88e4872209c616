use Rattle.std.proofs.Common.{◌∙◌, sym}
use Rattle.std.proofs.lemmas.Result.{IfOk-weaker}
use Rattle.plan_table.specs.Keys.{name_of}
use Rattle.plan_reader.proofs.Lists.{map_of_elements}
use Rattle.plan_reader.proofs.profiles.requirements_names.Goals as goal

pub returns : goal.returns
returns c = IfOk-weaker c.names_of.result _ _ (λ names are. are ∙ sym (map_of_elements name_of _ _ c.requirements_of.ensures)) c.names_of.ensures
