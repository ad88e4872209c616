use Rattle.std.proofs.Common.{arith}
use Rattle.resource_lock.specs.declared.changes.Change.TheVariants.{Lock}
use Rattle.ready_work.proofs.Following.{index_at_end, index_next, index_open, named_after}
use Rattle.ready_work.proofs.ready_works.ReadyWork.follow.Goals as goal

pub loop-change-init : goal.loop-change-init
loop-change-init c = index_open c.args.graph.now c.requires.0 c.requires.1 c.args.changes.now c.args.state.now c.args.self.now c.requires.2

pub note-requires-clause-belongs : goal.note-requires-clause-belongs
note-requires-clause-belongs c = c.requires.2.belongs

pub note-requires-clause-named : goal.note-requires-clause-named
note-requires-clause-named c = named_after c.args.graph.now c.requires.0 c.requires.1 c.args.changes.now c.args.state.now c.args.self.now c.loop-change.change-index _ c.requires.2 c.loop-change-test.true

pub loop-change-preserved : goal.loop-change-preserved
loop-change-preserved c = index_next c.args.graph.now c.args.state.now c.args.changes.now c.loop-change.change-index (Lock (record { 0 = 0 })) c.loop-change.self c.note.new.self c.loop-change-test.true c.note.ensures c.loop-change.invariant

pub returns : goal.returns
returns c = index_at_end c.args.graph.now c.args.state.now c.args.changes.now c.loop-change.change-index c.loop-change.self (omega (arith, c.loop-change-test.false)) c.requires.2.belongs c.loop-change.invariant
