use Rattle.std.proofs.Common.{◌∙◌, ap}
use Rattle.file_access.proofs.lemmas.Telling.{adds_as}
use Rattle.generated_plan.specs.Draws.{after_draws, number_after}
use Rattle.generated_plan.specs.Made.{item_text}
use Rattle.generated_plan.proofs.Numbers.{after_one_more}
use Rattle.generated_plan.proofs.Further.{adds_next}
use Rattle.generated_plan.proofs.actions.write_items.Goals as goal

pub loop-preserved : goal.loop-preserved
loop-preserved g c =
    let i = c.loop.counter in
    let file = c.args.file.now in
    let x = c.args.draws.now.number in
    record {
      text = adds_next (λ n. item_text file (after_draws n x)) i c.loop.invariant.text (adds_as (ap (item_text file) c.loop.invariant.drawn) c.write_item.ensures.text);
      drawn = c.write_item.ensures.drawn ∙ ap number_after c.loop.invariant.drawn ∙ after_one_more i x;
    }
