use Rattle.command_answers.proofs.refusals.write_refusal.Goals as goal

pub returns-in-PlanFault : goal.returns-in-PlanFault
returns-in-PlanFault g c = rw c.in-PlanFault.is c.text-in-PlanFault.ensures

pub returns-in-SourceFault : goal.returns-in-SourceFault
returns-in-SourceFault g c = rw c.in-SourceFault.is c.text-in-SourceFault.ensures
