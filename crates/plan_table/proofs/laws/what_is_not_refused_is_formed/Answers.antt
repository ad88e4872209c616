use Rattle.plan_table.proofs.lemmas.FormedLaws.{is_formed}
use Rattle.plan_table.proofs.laws.what_is_not_refused_is_formed.Goals as goal

pub returns : goal.returns
returns c = is_formed
