use Rattle.std.proofs.Common.{ap, arith}
use Rattle.memory_budget.specs.BudgetView.{open_permit, permitted}
use Rattle.memory_budget.proofs.Permitted.{permitted_less}
use Rattle.memory_budget.proofs.permits.OpenPermits.take_back.Goals as goal

pub returns-in-Some-clause-less : goal.returns-in-Some-clause-less
returns-in-Some-clause-less c =
    omega (arith, ap permitted c.spend.ensures, permitted_less c.args.self.now.permits c.in-Some.place (open_permit c.args.permit) c.in-Some.ensures)
