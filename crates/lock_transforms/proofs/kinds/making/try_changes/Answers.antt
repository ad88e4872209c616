use Rattle.std.proofs.Common.{◌+◌}
use Rattle.std.proofs.lemmas.List.Elements.{All-from_recursion}
use Rattle.resource_lock.specs.Change.{NamesOnly}
use Rattle.lock_transforms.proofs.Makings.{makes_next, makes_front, still_named}
use Rattle.lock_transforms.proofs.kinds.making.try_changes.Goals as goal

pub try_change-requires-clause-named : goal.try_change-requires-clause-named
try_change-requires-clause-named c = still_named _ c.loop-change.invariant (All-from_recursion (NamesOnly c.args.work.now.state) c.args.changes.now c.requires.named c.loop-change.change-index _ c.loop-change-test.true)

pub returns-then-not-try_change : goal.returns-then-not-try_change
returns-then-not-try_change c = makes_front c.args.changes.now (c.loop-change.change-index + 1) (makes_next c.args.changes.now c.loop-change.change-index _ c.loop-change-test.true c.loop-change.invariant c.if-not-try_change.ensures)

pub loop-change-preserved : goal.loop-change-preserved
loop-change-preserved c = makes_next c.args.changes.now c.loop-change.change-index _ c.loop-change-test.true c.loop-change.invariant c.if-not-try_change.ensures
