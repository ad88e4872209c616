use Rattle.plan_reader.proofs.Quiet.{row_quiet}
use Rattle.plan_reader.proofs.laws.a_row_that_refuses_nothing_holds_nowhere.Goals as goal

pub returns : goal.returns
returns c = row_quiet
