use Rattle.generated_plan.specs.Made.{project_text}
use Rattle.generated_plan.proofs.Further.{adds_next}
use Rattle.generated_plan.proofs.plans.write_projects.Goals as goal

pub loop-project-preserved : goal.loop-project-preserved
loop-project-preserved g c = adds_next project_text c.loop-project.project c.loop-project.invariant c.write_project.ensures
