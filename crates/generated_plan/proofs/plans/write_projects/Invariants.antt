use Rattle.std.specs.List.{flat_map, range_with_len}
use Rattle.file_access.specs.PageView.{Adds}
use Rattle.generated_plan.specs.Made.{project_text}
use Rattle.generated_plan.proofs.plans.write_projects.Given as goal

abbrev pub invariant-loop-project : goal.invariant-loop-project
invariant-loop-project g l = Adds (g.K.Sink.seen l.fn.sink) l.fn.page (g.K.Sink.seen l.sink) l.page (flat_map project_text (range_with_len 0 l.project))
