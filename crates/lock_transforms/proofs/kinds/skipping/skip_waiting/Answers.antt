use Rattle.std.proofs.Common.{◌+◌, ◌-◌, ◌≤◌, List, [], ◌∷◌, length, sym, subst, arith}
use Rattle.resource_lock.specs.declared.changes.Change.{Change}
use Rattle.lock_transforms.specs.Table.{skipped_waiting}
use Rattle.lock_transforms.proofs.Makings.{makes_more, makes_room, makes_some, still_belongs}
use Rattle.lock_transforms.proofs.Skipped.{one_waiting, skipped_waiting-append, still_waiting}
use Rattle.lock_transforms.proofs.kinds.skipping.skip_waiting.Goals as goal

pub skip_if_waiting-requires-clause-belongs : goal.skip_if_waiting-requires-clause-belongs
skip_if_waiting-requires-clause-belongs c = still_belongs c.loop-action.invariant c.requires.belongs

pub skip_if_waiting-requires-clause-room : goal.skip_if_waiting-requires-clause-room
skip_if_waiting-requires-clause-room c =
    let room : length (skipped_waiting c.args.work.now.graph c.args.work.now.state (c.loop-action.action ∷ [])) ≤ c.loop-action.work.room = makes_room (skipped_waiting c.args.work.now.graph c.args.work.now.state) (skipped_waiting-append c.args.work.now.graph c.args.work.now.state) c.args.actions.first c.loop-action.action c.args.actions.count (omega arith) (omega arith) c.loop-action.invariant c.requires.room in
    subst (λ (l : List Change). length l ≤ c.loop-action.work.room) (sym (still_waiting c.args.actions.first c.loop-action.action (omega arith) c.loop-action.invariant)) room

pub returns-then-not-skip_if_waiting : goal.returns-then-not-skip_if_waiting
returns-then-not-skip_if_waiting c = makes_some (skipped_waiting c.args.work.now.graph c.args.work.now.state) (skipped_waiting-append c.args.work.now.graph c.args.work.now.state) c.args.actions.first (c.loop-action.action + 1 - c.args.actions.first) c.args.actions.count (omega arith)
    (makes_more (skipped_waiting c.args.work.now.graph c.args.work.now.state) (skipped_waiting-append c.args.work.now.graph c.args.work.now.state) c.args.actions.first c.loop-action.action (omega arith) c.loop-action.invariant (one_waiting c.args.actions.first c.loop-action.action (omega arith) c.loop-action.invariant c.if-not-skip_if_waiting.ensures))

pub loop-action-preserved : goal.loop-action-preserved
loop-action-preserved c = makes_more (skipped_waiting c.args.work.now.graph c.args.work.now.state) (skipped_waiting-append c.args.work.now.graph c.args.work.now.state) c.args.actions.first c.loop-action.action (omega arith) c.loop-action.invariant (one_waiting c.args.actions.first c.loop-action.action (omega arith) c.loop-action.invariant c.if-not-skip_if_waiting.ensures)
