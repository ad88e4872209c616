use Rattle.std.proofs.Common.{sym, ◌∙◌}
use Rattle.std.proofs.lemmas.Result.{IfOk-weaker}
use Rattle.plan_table.specs.Keys.{name_of}
use Rattle.plan_reader.proofs.Lists.{map_of_elements}
use Rattle.plan_reader.proofs.names.names_at.Goals as goal

pub returns : goal.returns
returns c = IfOk-weaker c.names_of.result _ _ (λ names is. is ∙ sym (map_of_elements name_of _ _ c.places.ensures)) c.names_of.ensures
