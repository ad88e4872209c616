use Rattle.daemon_requirements.proofs.Twice.{cause_refuses}
use Rattle.daemon_requirements.proofs.requirement.Requirements.of.Goals as goal

pub returns-in-Some-clause-made : goal.returns-in-Some-clause-made
returns-in-Some-clause-made c = cause_refuses c.in-Some.refusal _ c.in-Some.ensures
