use Rattle.std.proofs.Common.{◌≡◌}
use Rattle.std.specs.List.{flat_map, range_with_len}
use Rattle.file_access.specs.PageView.{Adds}
use Rattle.generated_plan.specs.Draws.{after_draws}
use Rattle.generated_plan.specs.Made.{task_text, draws_before}
use Rattle.generated_plan.proofs.plans.write_tasks.Given as goal

abbrev pub invariant-loop-task : goal.invariant-loop-task
invariant-loop-task g l = record {
  text : Adds (g.K.Sink.seen l.fn.sink) l.fn.page (g.K.Sink.seen l.sink) l.page (flat_map (λ k. task_text l.file k (after_draws (draws_before k) l.seed)) (range_with_len 0 l.task));
  drawn : l.draws.number ≡ after_draws (draws_before l.task) l.seed;
}
