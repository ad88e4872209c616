use Rattle.file_access.proofs.lemmas.Telling.{adds_then}
use Rattle.generated_plan.proofs.plans.write_plan.Goals as goal

pub returns : goal.returns
returns g c = adds_then c.write_projects.ensures c.write_tasks.ensures
