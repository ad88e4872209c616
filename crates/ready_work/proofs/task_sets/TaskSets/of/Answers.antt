use Rattle.std.proofs.Common.{length}
use Rattle.ready_work.proofs.ByCount.{task_sets_by_count}
use Rattle.ready_work.proofs.Opening.{closed_counted, counted_filled, room_counted, still_empty, dependency_counts_filled}
use Rattle.ready_work.proofs.task_sets.TaskSets.of.Goals as goal

pub fill-requires-clause-empty : goal.fill-requires-clause-empty
fill-requires-clause-empty c = still_empty c.args.graph.now c.args.state.now (length c.args.graph.now.tasks) c.in_ok-sets.sets c.count_all.new.self c.count_all.ensures c.in_ok-sets.ensures.empty

pub fill-requires-clause-room : goal.fill-requires-clause-room
fill-requires-clause-room c = room_counted c.args.graph.now c.args.state.now (length c.args.graph.now.tasks) c.in_ok-sets.sets c.count_all.new.self c.count_all.ensures c.in_ok-sets.ensures.room

pub fill-requires-clause-closed : goal.fill-requires-clause-closed
fill-requires-clause-closed c = closed_counted c.args.graph.now c.args.state.now (length c.args.graph.now.tasks) c.in_ok-sets.sets c.count_all.new.self c.count_all.ensures c.in_ok-sets.ensures.locks

pub returns-clause-sets : goal.returns-clause-sets
returns-clause-sets c =
    task_sets_by_count c.args.graph.now c.args.state.now c.fill.new.self c.empty.ensures.fits c.requires.belongs.tasks
    (dependency_counts_filled c.args.graph.now c.count_all.new.self c.fill.new.self c.fill.ensures.unpassed c.fill.ensures.fallen c.count_all.ensures.dependency_counts)
    (counted_filled c.args.graph.now c.args.state.now c.in_ok-sets.sets c.count_all.new.self c.fill.new.self c.requires.belongs.tasks c.fill.ensures.unpassed c.fill.ensures.fallen c.count_all.ensures)
    c.fill.ensures.sets

pub returns-clause-counted : goal.returns-clause-counted
returns-clause-counted c = counted_filled c.args.graph.now c.args.state.now c.in_ok-sets.sets c.count_all.new.self c.fill.new.self c.requires.belongs.tasks c.fill.ensures.unpassed c.fill.ensures.fallen c.count_all.ensures

pub returns-clause-dependency_counts : goal.returns-clause-dependency_counts
returns-clause-dependency_counts c = dependency_counts_filled c.args.graph.now c.count_all.new.self c.fill.new.self c.fill.ensures.unpassed c.fill.ensures.fallen c.count_all.ensures.dependency_counts
