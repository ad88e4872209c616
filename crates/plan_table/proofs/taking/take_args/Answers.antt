use Rattle.std.proofs.Common.{sym}
use Rattle.plan_table.proofs.lemmas.Lists.{texts_of_elements}
use Rattle.plan_table.proofs.taking.take_args.Goals as goal

pub returns-clause-args : goal.returns-clause-args
returns-clause-args c = sym (texts_of_elements _ _ c.take_list.ensures.list)
