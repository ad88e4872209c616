use Rattle.std.proofs.Common.{sym}
use Rattle.plan_table.proofs.lemmas.Lists.{texts_of_elements}
use Rattle.plan_table.proofs.keys.args_of.Goals as goal

pub returns : goal.returns
returns c = sym (texts_of_elements _ _ c.list_at.ensures)
