use Rattle.std.proofs.Common.{ap, arith, refl}
use Rattle.daemon_requirements.specs.RequirementsView.{RequirementsView}
use Rattle.memory_budget.specs.BudgetView.{open_permit, permitted}
use Rattle.memory_budget.proofs.Permitted.{is_there, permitted_less}
use Rattle.memory_budget.proofs.pools.BudgetPool.adopt.Goals as goal

pub invariant_of-self : goal.invariant_of-self
invariant_of-self g c = (
  omega (arith, c.self.invariant.0, c.in-Ok-adopt.ensures.held, ap (λ (q : RequirementsView). q.heap_mb) c.in-Ok.ensures, ap (λ (q : RequirementsView). q.heap_mb) c.requirements.ensures, ap permitted c.spend.ensures, permitted_less c.self.inside.permits.permits c.in-Some.place (open_permit c.args.permit) c.in-Some.ensures),
  c.self.invariant.1,
  c.in-Ok-adopt.ensures.within c.self.inside.budget_mb (omega (arith, c.self.invariant.0, ap (λ (q : RequirementsView). q.heap_mb) c.in-Ok.ensures, ap (λ (q : RequirementsView). q.heap_mb) c.requirements.ensures, permitted_less c.self.inside.permits.permits c.in-Some.place (open_permit c.args.permit) c.in-Some.ensures)) c.self.invariant.2,
)

pub returns-in-Err-clause-back : goal.returns-in-Err-clause-back
returns-in-Err-clause-back g c = (rw (← c.self.view_is) (is_there c.self.inside.permits.permits c.in-Some.place (open_permit c.args.permit) c.in-Some.ensures), refl, c.in-Err.ensures.link)
