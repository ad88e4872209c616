use Rattle.std.proofs.Common.{◌+◌, ◌-◌, ◌≤◌, List, [], ◌∷◌, length, sym, ◌∙◌, ap, subst, arith}
use Rattle.std.proofs.lemmas.List.{append-nil}
use Rattle.resource_lock.specs.GraphView.{GraphView}
use Rattle.resource_lock.specs.declared.changes.Change.{Change}
use Rattle.lock_transforms.specs.Table.{skipped_action, skipped_actions}
use Rattle.lock_transforms.proofs.Makings.{makes_more, makes_room, makes_some, still_belongs}
use Rattle.lock_transforms.proofs.Skipped.{one_skipped, skipped_actions-append}
use Rattle.lock_transforms.proofs.kinds.skipping.skip_actions.Goals as goal

pub skip_action-requires-clause-belongs : goal.skip_action-requires-clause-belongs
skip_action-requires-clause-belongs c = still_belongs c.loop-action.invariant c.requires.belongs

pub skip_action-requires-clause-room : goal.skip_action-requires-clause-room
skip_action-requires-clause-room c =
    let room : length (skipped_actions c.args.work.now.graph (c.loop-action.action ∷ [])) ≤ c.loop-action.work.room = makes_room (skipped_actions c.args.work.now.graph) (skipped_actions-append c.args.work.now.graph) c.args.actions.first c.loop-action.action c.args.actions.count (omega arith) (omega arith) c.loop-action.invariant c.requires.room in
    subst (λ (l : List Change). length l ≤ c.loop-action.work.room) (append-nil (skipped_action c.args.work.now.graph c.loop-action.action) ∙ ap (λ (g : GraphView). skipped_action g c.loop-action.action) (sym c.loop-action.invariant.graph)) room

pub returns-then-not-skip_action : goal.returns-then-not-skip_action
returns-then-not-skip_action c = makes_some (skipped_actions c.args.work.now.graph) (skipped_actions-append c.args.work.now.graph) c.args.actions.first (c.loop-action.action + 1 - c.args.actions.first) c.args.actions.count (omega arith)
    (makes_more (skipped_actions c.args.work.now.graph) (skipped_actions-append c.args.work.now.graph) c.args.actions.first c.loop-action.action (omega arith) c.loop-action.invariant (one_skipped c.args.work.now.graph c.loop-action.action c.loop-action.invariant.graph c.if-not-skip_action.ensures))

pub loop-action-preserved : goal.loop-action-preserved
loop-action-preserved c = makes_more (skipped_actions c.args.work.now.graph) (skipped_actions-append c.args.work.now.graph) c.args.actions.first c.loop-action.action (omega arith) c.loop-action.invariant (one_skipped c.args.work.now.graph c.loop-action.action c.loop-action.invariant.graph c.if-not-skip_action.ensures)
