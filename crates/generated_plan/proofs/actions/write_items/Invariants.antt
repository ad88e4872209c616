use Rattle.std.proofs.Common.{◌≡◌}
use Rattle.std.specs.List.{flat_map, range_with_len}
use Rattle.file_access.specs.PageView.{Adds}
use Rattle.generated_plan.specs.Draws.{after_draws}
use Rattle.generated_plan.specs.Made.{item_text}
use Rattle.generated_plan.proofs.actions.write_items.Given as goal

abbrev pub invariant-loop : goal.invariant-loop
invariant-loop g l = record {
  text : Adds (g.K.Sink.seen l.fn.sink) l.fn.page (g.K.Sink.seen l.sink) l.page (flat_map (λ i. item_text l.file (after_draws i l.fn.draws.number)) (range_with_len 0 l.counter));
  drawn : l.draws.number ≡ after_draws l.counter l.fn.draws.number;
}
