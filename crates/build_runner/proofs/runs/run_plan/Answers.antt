use Rattle.std.proofs.Common.{◌+◌, ◌≤◌, List}
use Rattle.std.specs.Prelude.{sum_by}
use Rattle.daemon_manager.specs.Counts.{failures, reservations}
use Rattle.daemon_manager.specs.Events.{IsLegal, NoneIdle}
use Rattle.build_runner.specs.Books.{GivesEnd}
use Rattle.build_workers.specs.RunDesks.{desks_view}
use Rattle.build_workers.specs.Desks.{DeskView, desk_view}
use Rattle.build_workers.specs.RunFailing.{unreal_of}
use Rattle.build_workers.specs.Run.{IsRunOf}
use Rattle.build_workers.specs.RunWatching.{IsWatchedRun}
use Rattle.build_workers.specs.declared.run_end.RunEnd.{RunEnd}
use Rattle.build_runner.proofs.AtFirst.{from_ok}
use Rattle.build_runner.proofs.runs.run_plan.Goals as goal

pub returns-clause-run : goal.returns-clause-run
returns-clause-run g c = λ d.
    let D : Type 0 = g.row.D.Denot in
    let view : D → DeskView = desk_view g.D.Files.files g.D.Files.faults g.D.Desk.sends g.D.Desk.sent in
    let plan = c.args.plan.now in
    let options = c.args.options.now in
    let old : List D = c.args.desks.now.items in
    let new : List D = c.run_counted.new.desks.items in
    from_ok (λ (e : RunEnd). GivesEnd view plan options old new e.book.value e.watch.items e.events.items) (λ (e : RunEnd). IsRunOf plan options (desks_view view old d) (desks_view view new d) e.book.value)
    c.run_counted.result c.run_counted.ensures.run (λ e is. is.run d)

pub returns-clause-watch : goal.returns-clause-watch
returns-clause-watch g c =
    let D : Type 0 = g.row.D.Denot in
    let view : D → DeskView = desk_view g.D.Files.files g.D.Files.faults g.D.Desk.sends g.D.Desk.sent in
    let plan = c.args.plan.now in
    let options = c.args.options.now in
    let old : List D = c.args.desks.now.items in
    let new : List D = c.run_counted.new.desks.items in
    from_ok (λ (e : RunEnd). GivesEnd view plan options old new e.book.value e.watch.items e.events.items) (λ (e : RunEnd). IsWatchedRun options e.book.value e.watch.items)
    c.run_counted.result c.run_counted.ensures.run (λ e is. is.watch)

pub returns-clause-legal : goal.returns-clause-legal
returns-clause-legal g c =
    let D : Type 0 = g.row.D.Denot in
    let view : D → DeskView = desk_view g.D.Files.files g.D.Files.faults g.D.Desk.sends g.D.Desk.sent in
    let plan = c.args.plan.now in
    let options = c.args.options.now in
    let old : List D = c.args.desks.now.items in
    let new : List D = c.run_counted.new.desks.items in
    from_ok (λ (e : RunEnd). GivesEnd view plan options old new e.book.value e.watch.items e.events.items) (λ (e : RunEnd). IsLegal e.events.items)
    c.run_counted.result c.run_counted.ensures.run (λ e is. is.legal)

pub returns-clause-none_idle : goal.returns-clause-none_idle
returns-clause-none_idle g c =
    let D : Type 0 = g.row.D.Denot in
    let view : D → DeskView = desk_view g.D.Files.files g.D.Files.faults g.D.Desk.sends g.D.Desk.sent in
    let plan = c.args.plan.now in
    let options = c.args.options.now in
    let old : List D = c.args.desks.now.items in
    let new : List D = c.run_counted.new.desks.items in
    from_ok (λ (e : RunEnd). GivesEnd view plan options old new e.book.value e.watch.items e.events.items) (λ (e : RunEnd). NoneIdle e.events.items)
    c.run_counted.result c.run_counted.ensures.run (λ e is. is.none_idle)

pub returns-clause-reserved : goal.returns-clause-reserved
returns-clause-reserved g c =
    let D : Type 0 = g.row.D.Denot in
    let view : D → DeskView = desk_view g.D.Files.files g.D.Files.faults g.D.Desk.sends g.D.Desk.sent in
    let plan = c.args.plan.now in
    let options = c.args.options.now in
    let old : List D = c.args.desks.now.items in
    let new : List D = c.run_counted.new.desks.items in
    from_ok (λ (e : RunEnd). GivesEnd view plan options old new e.book.value e.watch.items e.events.items) (λ (e : RunEnd). sum_by (λ (d : D). (view d).sent.count) new ≤ sum_by (λ (d : D). (view d).sent.count) old + reservations e.events.items)
    c.run_counted.result c.run_counted.ensures.run (λ e is. is.reserved)

pub returns-clause-failed : goal.returns-clause-failed
returns-clause-failed g c =
    let D : Type 0 = g.row.D.Denot in
    let view : D → DeskView = desk_view g.D.Files.files g.D.Files.faults g.D.Desk.sends g.D.Desk.sent in
    let plan = c.args.plan.now in
    let options = c.args.options.now in
    let old : List D = c.args.desks.now.items in
    let new : List D = c.run_counted.new.desks.items in
    from_ok (λ (e : RunEnd). GivesEnd view plan options old new e.book.value e.watch.items e.events.items) (λ (e : RunEnd). failures e.events.items ≤ unreal_of options.workers e.book.value.history)
    c.run_counted.result c.run_counted.ensures.run (λ e is. is.failed)
