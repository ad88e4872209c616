use Rattle.std.proofs.Common.{◌+◌, ◌∙◌, ap}
use Rattle.file_access.proofs.lemmas.Telling.{adds_as}
use Rattle.generated_plan.specs.Draws.{after_draws}
use Rattle.generated_plan.specs.Made.{task_text, draws_before, draws_for_after}
use Rattle.generated_plan.proofs.Numbers.{after_both}
use Rattle.generated_plan.proofs.Further.{adds_next, draws_before-next}
use Rattle.generated_plan.proofs.plans.write_tasks.Goals as goal

pub loop-task-preserved : goal.loop-task-preserved
loop-task-preserved g c =
    let k = c.loop-task.task in
    let seed = c.args.seed in
    let file = c.args.file.now in
    record {
      text = adds_next (λ n. task_text file n (after_draws (draws_before n) seed)) k c.loop-task.invariant.text (adds_as (ap (task_text file k) c.loop-task.invariant.drawn) c.write_task.ensures.text);
      drawn = c.write_task.ensures.drawn
          ∙ ap (after_draws (11 + draws_for_after k)) c.loop-task.invariant.drawn
          ∙ after_both (draws_before k) (11 + draws_for_after k) seed
          ∙ ap (λ n. after_draws n seed) (draws_before-next k);
    }
