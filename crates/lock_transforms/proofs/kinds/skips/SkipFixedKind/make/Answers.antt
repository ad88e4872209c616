use Rattle.std.proofs.Common.{◌≡◌, List, length, ℕ, ap, ◌∙◌, arith}
use Rattle.std.specs.List.{range_with_len}
use Rattle.resource_lock.specs.GraphView.{GraphView}
use Rattle.resource_lock.specs.Ranges.{actions_of}
use Rattle.lock_transforms.specs.Table.{skipped_actions}
use Rattle.lock_transforms.proofs.lemmas.Within.{same_range}
use Rattle.lock_transforms.proofs.kinds.skips.SkipFixedKind.make.Goals as goal

pub skip_actions-requires-clause-room : goal.skip_actions-requires-clause-room
skip_actions-requires-clause-room c =
    let actions : range_with_len c.actions_of-actions.result.first c.actions_of-actions.result.count ≡ actions_of c.args.work.now.graph c.args.self.now.task =
    same_range c.actions_of-actions.ensures.first c.actions_of-actions.ensures.count ∙ ap (λ (g : GraphView). actions_of g c.args.self.now.task) c.graph.ensures.value in
    let same : skipped_actions c.try_change.new.work.graph (range_with_len c.actions_of-actions.result.first c.actions_of-actions.result.count) ≡ skipped_actions c.args.work.now.graph (actions_of c.args.work.now.graph c.args.self.now.task) =
    ap (λ (g : GraphView). skipped_actions g (range_with_len c.actions_of-actions.result.first c.actions_of-actions.result.count)) c.try_change.ensures.graph ∙ ap (λ (l : List ℕ). skipped_actions c.args.work.now.graph l) actions in
    omega (arith, ap length same, c.requires.room, c.try_change.ensures.room, c.try_change.ensures.few)
